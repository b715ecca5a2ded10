-- An index of keys over the slots of a pool, each key with its slot, and the facts that it leads to.
use Rattle.std.specs.Prelude.{◌≡◌, ◌+◌, ℕ, List, [], ◌∷◌, map as each, Option, Some, None, slice_get}
use Rattle.rsvp_base.specs.Keys.{Keys}
use Rattle.rsvp_base.specs.Table.{Table, get, size, changed_rows}
use Rattle.rsvp_base.specs.declared.session.Session.{Session}
use Rattle.soft_table.specs.declared.cell.Cell.{Cell}
use Rattle.soft_table.specs.declared.cell.Cell.TheVariants.{Free, Live, Due}
use Rattle.soft_table.specs.Facts.{fact_keys}

-- ---- what is in a slot
abbrev pub value_in : {F : Type 0} → Option (Cell F) → Option F
value_in None = None
value_in (Some Free) = None
value_in (Some (Live f left)) = Some f
value_in (Some (Due f)) = Some f

abbrev pub live_in : {F : Type 0} → Option (Cell F) → Option (F × ℕ)
live_in None = None
live_in (Some Free) = None
live_in (Some (Live f left)) = Some (f, left)
live_in (Some (Due f)) = None

abbrev pub due_in : {F : Type 0} → Option (Cell F) → Option F
due_in None = None
due_in (Some Free) = None
due_in (Some (Live f left)) = None
due_in (Some (Due f)) = Some f

-- how many slots are not free
abbrev pub used : {F : Type 0} → List (Cell F) → ℕ
used [] = 0
used (Free ∷ cells) = used cells
used (Live f left ∷ cells) = 1 + used cells
used (Due f ∷ cells) = 1 + used cells

-- ---- what the index leads to
abbrev pub facts_in : {F R : Type 0} → List (Cell F) → List ((Session × R) × ℕ) → List (F × ℕ)
facts_in cells rows = each (λ e. e.1) (changed_rows (λ k s. live_in (slice_get cells s)) rows)

abbrev pub dead_in : {F R : Type 0} → List (Cell F) → List ((Session × R) × ℕ) → List F
dead_in cells rows = each (λ e. e.1) (changed_rows (λ k s. due_in (slice_get cells s)) rows)

-- each key leads to the slot that has its fact, and each slot that has a fact is that of its key
pub record IsLinked {F R : Type 0} (rests : Keys R) (key : F → Session × R) (cells : List (Cell F)) (slots : Table (fact_keys rests) ℕ) : Type 0 where
  pub holds : (k : Session × R) (s : ℕ) → get slots k ≡ Some s → (f : F) × (value_in (slice_get cells s) ≡ Some f) × (key f ≡ k)
  pub finds : (s : ℕ) (f : F) → value_in (slice_get cells s) ≡ Some f → get slots (key f) ≡ Some s
  pub each : used cells ≡ size slots

-- the rows are those of such an index, in the order of keys
pub record IsIndex {F R : Type 0} (rests : Keys R) (key : F → Session × R) (cells : List (Cell F)) (rows : List ((Session × R) × ℕ)) : Type 0 where
  pub slots : Table (fact_keys rests) ℕ
  pub is : rows ≡ slots.rows
  pub linked : IsLinked rests key cells slots
