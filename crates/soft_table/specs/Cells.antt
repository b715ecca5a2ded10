-- What is in the slots of a pool, by their numbers.
use Rattle.std.specs.Prelude.{◌≡◌, ◌-◌, ℕ, Bool, true, false, cond, Option, Some, None, List, nat_le}
use Rattle.std.specs.List.{list_any}
use Rattle.soft_table.specs.declared.cell.Cell.{Cell}
use Rattle.soft_table.specs.declared.cell.Cell.TheVariants.{Free, Live, Due}

abbrev pub cell_is_free : {T : Type 0} → Cell T → Bool
cell_is_free Free = true
cell_is_free (Live v left) = false
cell_is_free (Due v) = false

abbrev pub cell_is_due : {T : Type 0} → Cell T → Bool
cell_is_due Free = false
cell_is_due (Live v left) = false
cell_is_due (Due v) = true

-- the slot is live
abbrev pub is_live : {T : Type 0} → Option (Cell T) → Bool
is_live None = false
is_live (Some Free) = false
is_live (Some (Live v left)) = true
is_live (Some (Due v)) = false

-- the slot is live and has this value
abbrev pub IsLiveWith : {T : Type 0} → Option (Cell T) → T → Type 0
IsLiveWith c v = (left : ℕ) × (c ≡ Some (Live v left))

-- after some time: a value with at most that much left is due, the others have so much less left
abbrev pub aged : {T : Type 0} → ℕ → Cell T → Cell T
aged ms Free = Free
aged ms (Live v left) = cond (nat_le left ms) (Due v) (Live v (left - ms))
aged ms (Due v) = Due v

abbrev pub NoneFree : {T : Type 0} → List (Cell T) → Type 0
NoneFree cells = list_any cell_is_free cells ≡ false

abbrev pub NoneDue : {T : Type 0} → List (Cell T) → Type 0
NoneDue cells = list_any cell_is_due cells ≡ false
