-- A value for each thing, from the values of those that follow it: so many steps deep.
use Rattle.std.specs.Prelude.{ℕ}
use Rattle.std.proofs.Common.{zero, suc}

abbrev pub by_fuel : {H X : Type 0} → (H → (H → X) → X) → X → ℕ → H → X
by_fuel step none zero h = none
by_fuel step none (suc n) h = step h (λ h'. by_fuel step none n h')
