-- What is in the slots of a pool, as one of them changes.
use Rattle.std.proofs.Common.{◌≡◌, ◌<◌, ◌≤◌, ◌+◌, ◌-◌, ◌||◌, ℕ, zero, suc, Bool, true, false, cond, List, [], ◌∷◌, length, set, map as each, Option, Some, None, refl, sym, ap, ◌∙◌, arith, inl, inr}
use Rattle.std.specs.Prelude.{slice_get, nat_le, replicate}
use Rattle.std.specs.List.{list_any}
use Rattle.std.specs.Option.{option_map}
use Rattle.std.proofs.lemmas.Bool.{both_ways, cases_lt}
use Rattle.std.proofs.lemmas.Option.{slice_get_past}
use Rattle.soft_table.specs.declared.cell.Cell.{Cell}
use Rattle.soft_table.specs.declared.cell.Cell.TheVariants.{Free, Live, Due}
use Rattle.soft_table.specs.Cells.{aged, cell_is_due, NoneDue, NoneFree}
use Rattle.rsvp_base.proofs.Tables.{then_do}
use Rattle.soft_table.specs.Facts.{lives_on, dies}
use Rattle.soft_table.specs.Index.{value_in, live_in, due_in, used}

read_each : {A B : Type 0} (f : A → B) (xs : List A) (i : ℕ) → slice_get (each f xs) i ≡ option_map f (slice_get xs i)
read_each f [] i = refl
read_each f (x ∷ xs) zero = refl
read_each f (x ∷ xs) (suc i) = read_each f xs i

pub used_none : (F : Type 0) (n : ℕ) → used (replicate {A = Cell F} n Free) ≡ 0
used_none F zero = refl
used_none F (suc n) = used_none F n

pub used_freed : {F : Type 0} (cells : List (Cell F)) → used {F = F} (each (λ (c : Cell F). Free) cells) ≡ 0
used_freed [] = refl
used_freed (c ∷ cs) = used_freed cs

or_false : (a b : Bool) → (a || b) ≡ false → (a ≡ false) × (b ≡ false)
or_false true b e = cc
or_false false b e = (refl, e)

module _ {F : Type 0} where
  -- a slot that has a fact is one of the slots
  pub value_within : (cells : List (Cell F)) (s : ℕ) (f : F) → value_in (slice_get cells s) ≡ Some f → s < length cells
  value_within cells s f e =
      elim (cases_lt s (length cells)) [
        | inl lt ↦ lt
        | inr past ↦ let none : None ≡ Some f = ap value_in (sym (slice_get_past cells s past)) ∙ e in absurd (cc)
      ]

  -- ---- how many are used
  abbrev pub counts : Cell F → ℕ
  counts Free = 0
  counts (Live f left) = 1
  counts (Due f) = 1

  used_more : (c : Cell F) (cells : List (Cell F)) → used (c ∷ cells) ≡ counts c + used cells
  used_more Free cells = omega arith
  used_more (Live f left) cells = refl
  used_more (Due f) cells = refl

  pub used_set : (cells : List (Cell F)) (s : ℕ) (old c : Cell F) → slice_get cells s ≡ Some old → used (set cells s c) + counts old ≡ used cells + counts c
  used_set [] s old c at = cc
  used_set (x ∷ xs) zero old c at = let is : x ≡ old = cc in omega (arith, used_more c xs, used_more x xs, ap counts is)
  used_set (x ∷ xs) (suc s) old c at = omega (arith, used_set xs s old c at, used_more x xs, used_more x (set xs s c))

  pub used_all : (cells : List (Cell F)) → NoneFree cells → used cells ≡ length cells
  used_all [] e = refl
  used_all (Free ∷ cs) e = absurd (both_ways _ e refl)
  used_all (Live f left ∷ cs) e = omega (arith, used_all cs e)
  used_all (Due f ∷ cs) e = omega (arith, used_all cs e)

  used_most : (cells : List (Cell F)) → used cells ≤ length cells
  used_most [] = omega arith
  used_most (Free ∷ cs) = omega (arith, used_most cs)
  used_most (Live f left ∷ cs) = omega (arith, used_most cs)
  used_most (Due f ∷ cs) = omega (arith, used_most cs)

  pub used_some : (cells : List (Cell F)) (s : ℕ) → slice_get cells s ≡ Some Free → used cells < length cells
  used_some [] s at = cc
  used_some (x ∷ xs) zero at = let is : x ≡ Free = cc in omega (arith, used_more x xs, ap counts is, used_most xs)
  used_some (Free ∷ xs) (suc s) at = omega (arith, used_some xs s at)
  used_some (Live f left ∷ xs) (suc s) at = omega (arith, used_some xs s at)
  used_some (Due f ∷ xs) (suc s) at = omega (arith, used_some xs s at)

  pub none_in : (n s : ℕ) (f : F) → value_in (slice_get (replicate {A = Cell F} n Free) s) ≡ Some f → ⊥
  none_in zero s f e = cc
  none_in (suc n) zero f e = cc
  none_in (suc n) (suc s) f e = none_in n s f e

  pub none_freed : (cells : List (Cell F)) (s : ℕ) (f : F) → value_in {F = F} (slice_get (each (λ (c : Cell F). Free) cells) s) ≡ Some f → ⊥
  none_freed [] s f e = cc
  none_freed (c ∷ cs) zero f e = cc
  none_freed (c ∷ cs) (suc s) f e = none_freed cs s f e

  -- ---- the due
  pub no_due_in : (cells : List (Cell F)) (s : ℕ) → NoneDue cells → due_in (slice_get cells s) ≡ None
  no_due_in [] s e = refl
  no_due_in (Free ∷ cs) zero e = refl
  no_due_in (Live f left ∷ cs) zero e = refl
  no_due_in (Due f ∷ cs) zero e = absurd (both_ways _ e refl)
  no_due_in (c ∷ cs) (suc s) e = no_due_in cs s (or_false (cell_is_due c) (list_any cell_is_due cs) e).1

  pub none_due_if : (cells : List (Cell F)) → ((s : ℕ) (f : F) → slice_get cells s ≡ Some (Due f) → ⊥) → NoneDue cells
  none_due_if [] h = refl
  none_due_if (Free ∷ cs) h = none_due_if cs (λ s f at. h (suc s) f at)
  none_due_if (Live f left ∷ cs) h = none_due_if cs (λ s f at. h (suc s) f at)
  none_due_if (Due f ∷ cs) h = absurd (h 0 f refl)

  -- ---- time
  value_aged : (ms : ℕ) (c : Option (Cell F)) → value_in (option_map (aged ms) c) ≡ value_in c
  value_aged ms None = refl
  value_aged ms (Some Free) = refl
  value_aged ms (Some (Live f left)) = by (nat_le left ms)
    where
      by : (b : Bool) → value_in (Some (cond b (Due f) (Live f (left - ms)))) ≡ Some f
      by true = refl
      by false = refl
  value_aged ms (Some (Due f)) = refl

  pub value_later : (ms : ℕ) (cells : List (Cell F)) (s : ℕ) → value_in (slice_get (each (aged ms) cells) s) ≡ value_in (slice_get cells s)
  value_later ms cells s = ap value_in (read_each (aged ms) cells s) ∙ value_aged ms (slice_get cells s)

  live_aged : (ms : ℕ) (c : Option (Cell F)) → live_in (option_map (aged ms) c) ≡ then_do (live_in c) (lives_on ms)
  live_aged ms None = refl
  live_aged ms (Some Free) = refl
  live_aged ms (Some (Live f left)) = by (nat_le left ms)
    where
      by : (b : Bool) → live_in (Some (cond b (Due f) (Live f (left - ms)))) ≡ cond b None (Some (f, left - ms))
      by true = refl
      by false = refl
  live_aged ms (Some (Due f)) = refl

  pub live_later : (ms : ℕ) (cells : List (Cell F)) (s : ℕ) → live_in (slice_get (each (aged ms) cells) s) ≡ then_do (live_in (slice_get cells s)) (lives_on ms)
  live_later ms cells s = ap live_in (read_each (aged ms) cells s) ∙ live_aged ms (slice_get cells s)

  due_aged : (ms : ℕ) (c : Option (Cell F)) → due_in c ≡ None → due_in (option_map (aged ms) c) ≡ then_do (live_in c) (dies ms)
  due_aged ms None e = refl
  due_aged ms (Some Free) e = refl
  due_aged ms (Some (Live f left)) e = by (nat_le left ms)
    where
      by : (b : Bool) → due_in (Some (cond b (Due f) (Live f (left - ms)))) ≡ cond b (Some f) None
      by true = refl
      by false = refl
  due_aged ms (Some (Due f)) e = cc

  pub due_later : (ms : ℕ) (cells : List (Cell F)) (s : ℕ) → NoneDue cells → due_in (slice_get (each (aged ms) cells) s) ≡ then_do (live_in (slice_get cells s)) (dies ms)
  due_later ms cells s none = ap due_in (read_each (aged ms) cells s) ∙ due_aged ms (slice_get cells s) (no_due_in cells s none)

  counts_aged : (ms : ℕ) (c : Cell F) → counts (aged ms c) ≡ counts c
  counts_aged ms Free = refl
  counts_aged ms (Live f left) = by (nat_le left ms)
    where
      by : (b : Bool) → counts (cond b (Due f) (Live f (left - ms))) ≡ 1
      by true = refl
      by false = refl
  counts_aged ms (Due f) = refl

  pub used_later : (ms : ℕ) (cells : List (Cell F)) → used (each (aged ms) cells) ≡ used cells
  used_later ms [] = refl
  used_later ms (c ∷ cs) = omega (arith, used_more c cs, used_more (aged ms c) (each (aged ms) cs), counts_aged ms c, used_later ms cs)
