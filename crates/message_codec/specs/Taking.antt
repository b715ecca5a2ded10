-- What reading an object adds to what the objects before it say.
use Rattle.std.specs.Prelude.{◌≡◌, ℕ, not, List, Option, Some, None, Result, Ok, Err, if◌then◌else◌}
use Rattle.rsvp_objects.specs.declared.head.Head.{Head}
use Rattle.rsvp_objects.specs.declared.object.Object.{Object}
use Rattle.rsvp_objects.specs.declared.obj_err.ObjErr.{ObjErr}
use Rattle.rsvp_objects.specs.declared.obj_err.ObjErr.TheVariants.{Class}
use Rattle.rsvp_messages.specs.declared.fault.Fault.{Fault}
use Rattle.rsvp_messages.specs.declared.fault.Fault.TheVariants as fault
use Rattle.rsvp_messages.specs.declared.message.Kind.{Kind}
use Rattle.message_codec.specs.declared.seen.Seen.{Seen}
use Rattle.message_codec.specs.Places.{has_place, is_repeated, is_unknown, name_fault, read_in, by_body}
use Rattle.message_codec.specs.Said.{with_object}

-- the object with a head and these contents, at a place behind objects that say s, or its first fault
abbrev pub object_with_head : Kind → Seen → ℕ → Head → List ℕ → Result (Object × ℕ) Fault
object_with_head kind s at h body =
    if is_unknown h.class.0 then Err (fault.Object (Class at h.class.0 h.ctype)) else
    if not (has_place kind s h.class.0) then Err (fault.Order at) else
    if is_repeated kind s h.class.0 then Err (fault.Repeated at) else
    by_body at s h.end (read_in kind at h.class.0 h.ctype body)

-- an object of a class may stand at a place behind objects that say s, and did not stand where it stands once; or its fault
abbrev pub in_place : Kind → Seen → ℕ → ℕ → Result (Unit {0}) Fault
in_place kind s at n = if not (has_place kind s n) then Err (fault.Order at) else if is_repeated kind s n then Err (fault.Repeated at) else Ok tt

-- an object is added; a fault of its name is told
abbrev pub Adds : Option Fault → Object → Seen → Seen → Result (Unit {0}) Fault → Type 0
Adds None x s t told = (told ≡ Ok tt) × (t ≡ with_object s x)
Adds (Some g) x s t told = told ≡ Err g

-- what contents say is added; a fault is told
abbrev pub Reads : Result Object ObjErr → ℕ → Seen → Seen → Result (Unit {0}) Fault → Type 0
Reads (Ok x) at s t told = Adds (name_fault at s x) x s t told
Reads (Err g) at s t told = told ≡ Err (fault.Object g)

-- an object that was read is added, and the place behind it is next; a fault is told
abbrev pub Takes : Result (Object × ℕ) Fault → Seen → Seen → ℕ → Result (Unit {0}) Fault → Type 0
Takes (Ok read) s t next told = (told ≡ Ok tt) × (read.1 ≡ next) × (t ≡ with_object s read.0)
Takes (Err g) s t next told = told ≡ Err g
