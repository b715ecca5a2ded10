-- What was added, from what a step tells; and what is read of an object of a class that is skipped.
use Rattle.std.proofs.Common.{◌≡◌, ℕ, Bool, true, false, List, Option, Some, None, Result, Ok, Err, refl, ap}
use Rattle.std.specs.Prelude.{not, ◌||◌, ◌==◌, is_some, if◌then◌else◌}
use Rattle.rsvp_objects.specs.declared.adspec.Adspec.{Adspec}
use Rattle.rsvp_objects.specs.declared.obj_err.ObjErr.{ObjErr}
use Rattle.rsvp_objects.specs.declared.object.Object.{Object}
use Rattle.rsvp_objects.specs.declared.object.Object.TheVariants as object
use Rattle.rsvp_objects.specs.declared.read_class.ReadClass.{ReadClass}
use Rattle.rsvp_objects.specs.Classes.{adspec, is_skipped, class_with}
use Rattle.rsvp_objects.specs.Reading.{by_class, advert_in, passed_over, body_of}
use Rattle.rsvp_messages.specs.declared.fault.Fault.{Fault}
use Rattle.message_codec.specs.declared.seen.Seen.{Seen}
use Rattle.message_codec.specs.Places.{is_unknown}
use Rattle.message_codec.specs.Said.{with_object}
use Rattle.message_codec.specs.Taking.{Takes}

-- no fault is told: the object was read, and was added
pub took : (r : Result (Object × ℕ) Fault) (s t : Seen) (next : ℕ) → Takes r s t next (Ok tt)
    → (x : Object) × (r ≡ Ok (x, next)) × (t ≡ with_object s x)
took (Ok (x, end)) s t next h = (x, ap (λ (n : ℕ). Ok (x, n)) h.1, h.2)
took (Err g) s t next h = let no : ⊥ = cc in absurd no

-- ---- of a class that is known, and of which none is read

abbrev skips : ℕ → Result Object ObjErr
skips n = Ok (object.Skipped n)

skipped_by : (n at ctype : ℕ) (body : List ℕ) (b : Bool) (a : Option Adspec) (c : Option ReadClass)
    → not (b || is_some c) ≡ false → a ≡ None → c ≡ None → (if b then Ok (passed_over n a) else by_class at n ctype body c) ≡ skips n
skipped_by n at ctype body true None c known e f = refl
skipped_by n at ctype body true (Some a) c known e f = absurd cc
skipped_by n at ctype body false a (Some c) known e f = absurd cc
skipped_by n at ctype body false a None known e f = absurd cc

no_advert : (n ctype : ℕ) (body : List ℕ) → (n == adspec) ≡ false → advert_in n ctype body ≡ None
unfolding advert_in
no_advert n ctype body other = rw other refl

pub other_read : (n at ctype : ℕ) (body : List ℕ) → is_unknown n ≡ false → class_with n ≡ None → (n == adspec) ≡ false
    → body_of at n ctype body ≡ skips n
unfolding body_of
other_read n at ctype body known none other =
    skipped_by n at ctype body (is_skipped n) (advert_in n ctype body) (class_with n) known (no_advert n ctype body other) none
