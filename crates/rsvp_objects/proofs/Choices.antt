-- What was chosen.
use Rattle.std.proofs.Common.{◌≡◌, Bool, true, false, refl, inl, inr}
use Rattle.std.specs.Prelude.{◌⊎◌, if◌then◌else◌}

-- a choice is one or the other
pub chosen : {A : Type 0} (b : Bool) (x y z : A) → (if b then x else y) ≡ z → ((b ≡ true) × (x ≡ z)) ⊎ ((b ≡ false) × (y ≡ z))
chosen true x y z e = inl (refl, e)
chosen false x y z e = inr (refl, e)
