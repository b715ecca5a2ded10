-- Slots in an order, linked both ways by number: the number 0 stands before the first and behind the last, and slot s is the number `s + 1`.
use Rattle.std.specs.Prelude.{◌≡◌, ◌<◌, ◌≤◌, ◌+◌, ◌-◌, ℕ, zero, suc, List, [], ◌∷◌, length, map, get_or, Option, Some, None, slice_get}

-- the slots in their order, and how many slots there are
pub record Order : Type 0 where
  pub slots : List ℕ
  pub room : ℕ

abbrev pub Has : List ℕ → ℕ → Type 0
Has slots s = (i : ℕ) × (slice_get slots i ≡ Some s)

abbrev pub at : List ℕ → ℕ → ℕ
at xs i = get_or xs i 0

-- the numbers of slots in their order, behind the number 0
abbrev pub numbers : List ℕ → List ℕ
numbers slots = 0 ∷ map (λ s. suc s) slots

-- the slot of a number, and the number of a slot or of none
abbrev pub slot_of : ℕ → Option ℕ
slot_of zero = None
slot_of (suc s) = Some s

abbrev pub number_of : Option ℕ → ℕ
number_of None = 0
number_of (Some s) = suc s

-- the slots that so many steps from a number on lead to
abbrev pub walked : List ℕ → ℕ → ℕ → List ℕ
walked next zero i = []
walked next (suc n) i = (at next i - 1) ∷ walked next n (at next i)

-- each number leads to the one behind it and back again, the last to the number 0, and each stands at its place alone
pub record IsRing (zs next prev : List ℕ) : Type 0 where
  pub some : 0 < length zs
  pub first : at zs 0 ≡ 0
  pub nexts : (j : ℕ) → j < length zs → at next (at zs j) ≡ at zs (j + 1)
  pub prevs : (j : ℕ) → j < length zs → at prev (at zs (j + 1)) ≡ at zs j
  pub place : ℕ → ℕ
  pub places : (j : ℕ) → j < length zs → place (at zs j) ≡ j
  pub in_next : (j : ℕ) → j < length zs → at zs j < length next
  pub in_prev : (j : ℕ) → j < length zs → at zs j < length prev

pub record IsOrder (next prev : List ℕ) (len room : ℕ) : Type 0 where
  pub few : len ≤ room
  pub most : room ≤ 65536
  pub ring : IsRing (numbers (walked next len 0)) next prev
