-- Walks along the rows of an index: the facts of a session, and how many sessions there are.
use Rattle.std.specs.Prelude.{◌≡◌, ◌+◌, ◌<◌, ◌≤◌, ℕ, Bool, false, cond, is_some, drop, map, List, [], ◌∷◌, length, Option, Some, None, slice_get}
use Rattle.std.specs.Option.{option_map}
use Rattle.std.specs.Ordering.{eq_by_cmp}
use Rattle.rsvp_base.specs.Keys.{Keys}
use Rattle.rsvp_base.specs.Orders.{sessions}
use Rattle.rsvp_base.specs.Table.{changed_rows}
use Rattle.rsvp_base.specs.Under.{rows_under}
use Rattle.rsvp_base.specs.declared.session.Session.{Session}
use Rattle.soft_table.specs.Lists.{slot_of}
use Rattle.soft_table.specs.declared.cell.Cell.{Cell}
use Rattle.soft_table.specs.declared.cell.Slot.{Slot}
use Rattle.soft_table.specs.Facts.{facts_by, rows_behind}
use Rattle.soft_table.specs.Index.{live_in}

-- each row's slot is one of the slots
abbrev pub AreSlots : {F R : Type 0} → List (Cell F) → List (R × ℕ) → Type 0
AreSlots {R = R} cells es = (i : ℕ) (e : R × ℕ) → slice_get es i ≡ Some e → e.1 < length cells

-- the facts that rows lead to
abbrev pub live_of : {F K : Type 0} → List (Cell F) → List (K × ℕ) → List (K × (F × ℕ))
live_of cells es = changed_rows (λ k s. live_in (slice_get cells s)) es

-- a slot with a fact, in a row of this session
pub record IsRowOf {F R : Type 0} (rests : Keys R) (cells : List (Cell F)) (rows : List ((Session × R) × ℕ)) (s : Session) (slot : ℕ) : Type 0 where
  pub place : ℕ
  pub rest : R
  pub is : slice_get (rows_under sessions rests s rows) place ≡ Some (rest, slot)
  pub fact : F × ℕ
  pub live : live_in (slice_get cells slot) ≡ Some fact

-- whether a session has a fact
abbrev pub has_live : {F R : Type 0} → Keys R → List (Cell F) → List ((Session × R) × ℕ) → Session → Bool
has_live rests cells rows s = is_some (slice_get (live_of cells (rows_under sessions rests s rows)) 0)

-- a walk from the j-th row on has passed so many rows, and the k-th fact from there is the one that is still so many facts away
pub record IsWalk {F R : Type 0} (cells : List (Cell F)) (es : List (R × ℕ)) (j k : ℕ) (at : Option ℕ) (left step : ℕ) : Type 0 where
  pub place : ℕ
  pub is : at ≡ slot_of (slice_get es place)
  pub far : step ≤ place
  pub same : slice_get (live_of cells (drop j es)) k ≡ slice_get (live_of cells (drop place es)) left

-- the k-th of a session's facts, by the rests of their keys
abbrev pub fact_at : {F R : Type 0} → Keys R → (F → Session × R) → Session → List (F × ℕ) → ℕ → Option F
fact_at rests key s fs k = option_map (λ e. e.1.0) (slice_get (rows_under sessions rests s (facts_by key fs)) k)

-- the fact in a slot, and those of a session from one on
abbrev pub fact_in : {F : Type 0} → List (Cell F) → Option Slot → Option F
fact_in cells None = None
fact_in cells (Some slot) = option_map (λ e. e.0) (live_in (slice_get cells slot.0))

abbrev pub facts_from : {F R : Type 0} → Keys R → (F → Session × R) → Session → List (F × ℕ) → Option F → List F
facts_from rests key s fs None = []
facts_from rests key s fs (Some f) = f ∷ map (λ e. e.1.0) (rows_behind rests (key f).1 (rows_under sessions rests s (facts_by key fs)))

abbrev pub is_last : {A : Type 0} → Keys A → Option A → A → Bool
is_last o None a = false
is_last o (Some b) a = eq_by_cmp o.cmp b a

-- how often the key is another than the one before
abbrev pub changes : {A : Type 0} → Keys A → Option A → List A → ℕ
changes o last [] = 0
changes o last (a ∷ rest) = cond (is_last o last a) (changes o last rest) (1 + changes o (Some a) rest)
