-- Which object stands at a place behind others, or the first fault of the place.
use Rattle.std.specs.Prelude.{◌≡◌, ℕ, Bool, false, not, ◌||◌, ◌&&◌, ◌==◌, List, [], ◌∷◌, ◌++◌, length, drop, Option, Some, None, is_some, is_none, Result, Ok, Err, if◌then◌else◌}
use Rattle.std.specs.List.{list_any}
use Rattle.std.specs.Ordering.{eq_by_cmp}
use Rattle.rsvp_base.specs.declared.session.Sender.{Sender}
use Rattle.rsvp_base.specs.declared.style.StyleKind.{StyleKind}
use Rattle.rsvp_base.specs.declared.style.StyleKind.TheVariants.{Wild, Fixed, Shared}
use Rattle.rsvp_base.specs.Orders.{senders}
use Rattle.rsvp_base.specs.TokenBucket.{TokenBucket}
use Rattle.rsvp_objects.specs.declared.object.Object.{Object}
use Rattle.rsvp_objects.specs.declared.object.Object.TheVariants as object
use Rattle.rsvp_objects.specs.declared.obj_err.ObjErr.{ObjErr}
use Rattle.rsvp_objects.specs.declared.obj_err.ObjErr.TheVariants.{Class, Crowd}
use Rattle.rsvp_objects.specs.declared.head.Head.{Head}
use Rattle.rsvp_objects.specs.Classes.{session, rsvp_hop, integrity, time_values, error_spec, scope, style, flowspec, filter_spec, sender_template, sender_tspec, adspec, is_skipped, class_with}
use Rattle.rsvp_objects.specs.Reading.{head_of, body_of, contents_at}
use Rattle.rsvp_messages.specs.declared.fault.Fault.{Fault}
use Rattle.rsvp_messages.specs.declared.fault.Fault.TheVariants as fault
use Rattle.rsvp_messages.specs.declared.message.Kind.{Kind}
use Rattle.rsvp_messages.specs.declared.message.Kind.TheVariants as kind
use Rattle.message_codec.specs.declared.seen.Seen.{Seen}
use Rattle.message_codec.specs.Said.{seen_of}
use Rattle.message_codec.specs.Table.{role_of, may_stand, stands_once, is_anywhere, is_unread}

-- ---- places

-- a list of a Resv or ResvConf (RFC 2205, 3.1.4). WF: one FLOWSPEC. FF: FLOWSPEC FILTER_SPEC, then FILTER_SPECs, each with
-- or without a FLOWSPEC of its own before it. SE: one FLOWSPEC, then FILTER_SPECs
abbrev pub list_place : StyleKind → Seen → ℕ → Bool
list_place Wild s n = n == flowspec && is_none s.flow
list_place Fixed s n = (n == flowspec && not s.due) || (n == filter_spec && is_some s.flow)
list_place Shared s n = (n == flowspec && is_none s.flow) || (n == filter_spec && is_some s.flow)

abbrev pub has_no_filter : Seen → Bool
has_no_filter s = length s.filters == 0

-- the list of a ResvErr (RFC 2205, 3.1.8): as in a Resv, but FF has one FLOWSPEC and one FILTER_SPEC
abbrev pub error_place : StyleKind → Seen → ℕ → Bool
error_place Wild s n = n == flowspec && is_none s.flow
error_place Fixed s n = (n == flowspec && is_none s.flow) || (n == filter_spec && is_some s.flow && has_no_filter s)
error_place Shared s n = (n == flowspec && is_none s.flow) || (n == filter_spec && is_some s.flow)

-- the filters of a ResvTear (RFC 2205, 3.1.6): FILTER_SPECs, none of WF, among FLOWSPECs that are skipped
abbrev pub tear_place : StyleKind → ℕ → Bool
tear_place Wild n = n == flowspec
tear_place Fixed n = n == flowspec || n == filter_spec
tear_place Shared n = n == flowspec || n == filter_spec

abbrev pub place_after_style : Kind → StyleKind → Seen → ℕ → Bool
place_after_style kind.Resv k s n = list_place k s n
place_after_style kind.ResvErr k s n = error_place k s n
place_after_style kind.ResvTear k s n = tear_place k n
place_after_style kind.ResvConf k s n = list_place k s n
place_after_style _ k s n = false

-- before STYLE what the table lists, behind it the list of the style
abbrev pub place_by_style : Kind → Seen → ℕ → Option StyleKind → Bool
place_by_style kind s n None = may_stand (role_of kind n)
place_by_style kind s n (Some k) = place_after_style kind k s n

-- INTEGRITY stands first; only NULL may stand before it
unfoldable pub has_place : Kind → Seen → ℕ → Bool
has_place kind s n = is_anywhere n || (if n == integrity then not s.begun else place_by_style kind s n s.style)

-- ---- repetition

-- an object of a class that stands once stood before
unfoldable pub stood : Seen → ℕ → Bool
stood s n =
    if n == session then is_some s.session else
    if n == rsvp_hop then is_some s.hop else
    if n == time_values then is_some s.period else
    if n == error_spec then is_some s.error else
    if n == scope then is_some s.scope else
    if n == style then is_some s.style else
    if n == sender_template then is_some s.template else
    if n == sender_tspec then is_some s.tspec else
    if n == adspec then s.adspec else is_some s.confirm

unfoldable pub is_repeated : Kind → Seen → ℕ → Bool
is_repeated kind s n = stands_once (role_of kind n) && stood s n

-- ---- names

abbrev pub is_named : Sender → List (Sender × Option TokenBucket) → Bool
is_named s es = list_any (λ e. eq_by_cmp senders.cmp s e.0) es

-- a sender that stood in the list before, or a 17th
abbrev pub name_fault : ℕ → Seen → Object → Option Fault
name_fault at s (object.Filter x) = if is_named x s.filters then Some (fault.Repeated at) else if length s.filters == 16 then Some (fault.Object (Crowd at)) else None
name_fault at s _ = None

-- ---- the object at a place

-- what is skipped by the kind of the message is not read
abbrev pub read_in : Kind → ℕ → ℕ → ℕ → List ℕ → Result Object ObjErr
read_in kind at n ctype body = if is_unread kind n then Ok (object.Skipped n) else body_of at n ctype body

abbrev pub with_name : ℕ → Object → Option Fault → Result (Object × ℕ) Fault
with_name end x None = Ok (x, end)
with_name end x (Some g) = Err g

abbrev pub by_body : ℕ → Seen → ℕ → Result Object ObjErr → Result (Object × ℕ) Fault
by_body at s end (Ok x) = with_name end x (name_fault at s x)
by_body at s end (Err g) = Err (fault.Object g)

abbrev pub is_unknown : ℕ → Bool
is_unknown n = not (is_skipped n || is_some (class_with n))

-- the faults in their order: of the head, of the class; no place for the class; a class that stood; of the contents; of the
-- name
abbrev pub by_head : Kind → Seen → ℕ → List ℕ → Result Head ObjErr → Result (Object × ℕ) Fault
by_head kind s at bytes (Err g) = Err (fault.Object g)
by_head kind s at bytes (Ok h) =
    if is_unknown h.class.0 then Err (fault.Object (Class at h.class.0 h.ctype)) else
    if not (has_place kind s h.class.0) then Err (fault.Order at) else
    if is_repeated kind s h.class.0 then Err (fault.Repeated at) else
    by_body at s h.end (read_in kind at h.class.0 h.ctype (contents_at at h bytes))

-- the object at a place and the place behind it, where the objects before say s; or the first fault there
unfoldable pub object_in : Kind → Seen → ℕ → List ℕ → Result (Object × ℕ) Fault
object_in kind s at bytes = by_head kind s at bytes (head_of at (drop at bytes))

-- ---- lists of objects

-- behind the objects before, these objects stand one after the other from a place to an end, each where it may
abbrev pub Stand : Kind → List ℕ → List Object → ℕ → List Object → ℕ → Type 0
Stand kind bytes before at [] end = at ≡ end
Stand kind bytes before at (x ∷ xs) end = (next : ℕ) × (object_in kind (seen_of before) at bytes ≡ Ok (x, next)) × Stand kind bytes (before ++ x ∷ []) next xs end
