-- Objects that stand one behind the other from the start of some bytes.
use Rattle.std.specs.Prelude.{◌≡◌, ℕ, zero, suc, List, Ok}
use Rattle.rsvp_objects.specs.declared.object.Object.{Object}
use Rattle.rsvp_objects.specs.Reading.{object_at}

-- so many objects, and the place after the last
abbrev pub Stand : ℕ → List ℕ → ℕ → Type 0
Stand zero bytes at = at ≡ 0
Stand (suc n) bytes at = (x : Object) × (before : ℕ) × Stand n bytes before × (object_at before bytes ≡ Ok (x, at))
