-- The hint: what the first readable object of some classes says, whatever stands around it.
use Rattle.std.specs.Prelude.{◌≡◌, ℕ, List, [], ◌∷◌, length, drop, Option, Some, None, Result, Ok, Err, ◌⊎◌}
use Rattle.rsvp_base.specs.declared.session.Session.{Session}
use Rattle.rsvp_objects.specs.declared.object.Object.{Object}
use Rattle.rsvp_objects.specs.declared.object.Object.TheVariants as object
use Rattle.rsvp_objects.specs.declared.obj_err.ObjErr.{ObjErr}
use Rattle.rsvp_objects.specs.declared.head.Head.{Head}
use Rattle.rsvp_objects.specs.Reading.{head_of, body_of, contents_at}
use Rattle.rsvp_messages.specs.declared.fault.Hint.{Hint}
use Rattle.message_codec.specs.Said.{hop_said, style_said, template_said, or_else}

-- the object, where the contents have no fault
abbrev pub readable : Result Object ObjErr → Option Object
readable (Ok x) = Some x
readable (Err g) = None

abbrev pub name_said : Object → Option Session
name_said (object.Session s police) = Some s
name_said _ = None

abbrev pub said_by : {A : Type 0} → (Object → Option A) → Option Object → Option A
said_by f None = None
said_by f (Some x) = f x

unfoldable pub first_said : {A : Type 0} → (Object → Option A) → List (Option Object) → Option A
first_said f [] = None
first_said f (y ∷ ys) = or_else (said_by f y) (first_said f ys)

-- by their lengths alone these objects stand one after the other from a place to an end, each readable or not
abbrev pub Follow : List ℕ → ℕ → List (Option Object) → ℕ → Type 0
Follow bytes at [] end = at ≡ end
Follow bytes at (y ∷ ys) end = (h : Head) × (head_of at (drop at bytes) ≡ Ok h) × (readable (body_of at h.class.0 h.ctype (contents_at at h bytes)) ≡ y) × Follow bytes h.end ys end

abbrev pub hint_of : List (Option Object) → Hint
hint_of ys =
    record {
      session = first_said name_said ys;
      hop = first_said hop_said ys;
      style = first_said style_said ys;
      sender = first_said template_said ys;
    }

-- the end of the bytes, or a place with a broken head
abbrev pub IsLast : List ℕ → ℕ → Type 0
IsLast bytes end = (end ≡ length bytes) ⊎ ((g : ObjErr) × (head_of end (drop end bytes) ≡ Err g))

-- from behind the header to the first broken head, or the end
abbrev pub IsHint : List ℕ → Hint → Type 0
IsHint bytes hint = (ys : List (Option Object)) × (end : ℕ) × Follow bytes 8 ys end × IsLast bytes end × (hint ≡ hint_of ys)

abbrev pub no_hint : Hint
no_hint = record { session = None; hop = None; style = None; sender = None }

-- with one object more
unfoldable pub with_next : Hint → Option Object → Hint
with_next hint y =
    record {
      session = or_else hint.session (said_by name_said y);
      hop = or_else hint.hop (said_by hop_said y);
      style = or_else hint.style (said_by style_said y);
      sender = or_else hint.sender (said_by template_said y);
    }
