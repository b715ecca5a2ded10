-- A session's facts from one on, as a walk along its rows finds them.
use Rattle.std.proofs.Common.{◌≡◌, ◌+◌, ℕ, suc, List, ◌∷◌, drop, map as each, Option, Some, None, refl, sym, ap, ◌∙◌, arith}
use Rattle.std.specs.Prelude.{slice_get, IfSome, IsNone}
use Rattle.std.specs.Option.{option_map}
use Rattle.rsvp_base.specs.Keys.{Keys}
use Rattle.rsvp_base.specs.Orders.{sessions}
use Rattle.rsvp_base.specs.Table.{passes}
use Rattle.rsvp_base.specs.Under.{rows_under, sorted_under}
use Rattle.rsvp_base.specs.declared.session.Session.{Session}
use Rattle.soft_table.specs.Lists.{slot_of}
use Rattle.soft_table.specs.declared.cell.Cell.{Cell}
use Rattle.soft_table.specs.declared.cell.Slot.{Slot}
use Rattle.soft_table.specs.declared.cell.Cell.TheVariants.{Free, Live, Due}
use Rattle.soft_table.specs.Cells.{IsLiveWith}
use Rattle.soft_table.specs.Facts.{facts_by, rows_behind}
use Rattle.soft_table.specs.Index.{live_in, value_in, facts_in, IsIndex}
use Rattle.soft_table.specs.Walks.{live_of, fact_in, facts_from, IsRowOf}
use Rattle.soft_table.proofs.Steps.{behind_drop, first_dropped, from_kth}
use Rattle.soft_table.proofs.Views.{in_order}
use Rattle.soft_table.proofs.Walks.{behind_drops, kth_fact, next_fact, own_row, sorted_own}

-- what is in a live slot
pub live_value : {F : Type 0} (c : Option (Cell F)) (e : F × ℕ) → live_in c ≡ Some e → value_in c ≡ Some e.0
live_value None e is = cc
live_value (Some Free) e is = cc
live_value {F = F} (Some (Live f left)) e is = let same : ◌≡◌ {A = F × ℕ} (f, left) e = cc in ap (λ (z : F × ℕ). Some z.0) same
live_value (Some (Due f)) e is = cc

module _ {F R : Type 0} (rests : Keys R) (key : F → Session × R) (cells : List (Cell F)) (rows : List ((Session × R) × ℕ)) (ix : IsIndex rests key cells rows) (s : Session) where
  abbrev own : List (R × ℕ)
  own = rows_under sessions rests s rows

  abbrev us : List (R × (F × ℕ))
  us = rows_under sessions rests s (facts_by key (facts_in cells rows))

  abbrev slot_live : Option Slot → Option (F × ℕ)
  slot_live None = None
  slot_live (Some t) = live_in (slice_get cells t.0)

  slot_fact : (t : Option Slot) → fact_in cells t ≡ option_map (λ (e : F × ℕ). e.0) (slot_live t)
  slot_fact None = refl
  slot_fact (Some t) = refl

  -- the first fact from a row on, as it was found
  abbrev IsFound : ℕ → Option Slot → Type 0
  IsFound j t = option_map (λ (e : R × (F × ℕ)). e.1) (slice_get (live_of cells (drop j own)) 0) ≡ slot_live t

  pub found : (j : ℕ) (from : Option ℕ) (t : Option Slot) → from ≡ slot_of (slice_get own j)
      → IfSome t (λ t. (j : ℕ) → from ≡ slot_of (slice_get own j) → option_map (λ (e : R × (F × ℕ)). e.1) (slice_get (live_of cells (drop j own)) 0) ≡ live_in (slice_get cells t.0))
      → (IsNone t → (j : ℕ) → from ≡ slot_of (slice_get own j) → slice_get (live_of cells (drop j own)) 0 ≡ None) → IsFound j t
  found j from None is some none = ap (option_map (λ (e : R × (F × ℕ)). e.1)) (none refl j is)
  found j from (Some t) is some none = some j is

  pub from_first : (t : Option Slot) → IsFound 0 t → facts_from rests key s (facts_in cells rows) (fact_in cells t) ≡ each (λ (e : R × (F × ℕ)). e.1.0) us
  from_first t is = from_kth rests key s (facts_in cells rows) (in_order rests key cells rows ix 0).0 0 (fact_in cells t) (slot_fact t ∙ kth_fact rests key cells rows ix s 0 (slot_live t) is)

  -- behind a row
  from_behind : (q : R) (t : Option Slot) → fact_in cells t ≡ option_map (λ (e : R × (F × ℕ)). e.1.0) (slice_get (rows_behind rests q us) 0)
      → facts_from rests key s (facts_in cells rows) (fact_in cells t) ≡ each (λ (e : R × (F × ℕ)). e.1.0) (rows_behind rests q us)
  from_behind q t is =
      let up = (in_order rests key cells rows ix 0).0 in
      let at = behind_drops rests q us (sorted_under sessions rests s (facts_by key (facts_in cells rows)) (passes _ up)) in
      from_kth rests key s (facts_in cells rows) up at.0 (fact_in cells t) (is ∙ ap (λ es. option_map (λ (e : R × (F × ℕ)). e.1.0) (slice_get es 0)) at.1
      ∙ ap (option_map (λ (e : R × (F × ℕ)). e.1.0)) (first_dropped us at.0))
      ∙ ap (each (λ (e : R × (F × ℕ)). e.1.0)) (sym at.1)

  one_more : (n : ℕ) → suc n ≡ n + 1
  one_more n = omega arith

  -- the fact in a row, and those behind it
  pub from_row : (t : ℕ) (row : IsRowOf rests cells rows s t) (f : F) → IsLiveWith (slice_get cells t) f → (next : Option Slot) → IsFound (row.place + 1) next
      → facts_from rests key s (facts_in cells rows) (fact_in cells (Some (record { 0 = t }))) ≡ f ∷ facts_from rests key s (facts_in cells rows) (fact_in cells next)
  from_row t row f with_f next is =
      let held = ix.linked.holds (s, row.rest) t (own_row rests key cells rows ix s row.place (row.rest, t) row.is) in
      let here : row.fact.0 ≡ f = with_f_is (slice_get cells t) row.fact f row.live with_f in
      let same : held.0 ≡ row.fact.0 = one_of held.0 row.fact.0 (sym held.1 ∙ live_value (slice_get cells t) row.fact row.live) in
      let rest : (key row.fact.0).1 ≡ row.rest = ap (λ g. (key g).1) (sym same) ∙ ap (λ (k : Session × R). k.1) held.2 in
      let dropped : rows_behind rests row.rest own ≡ drop (row.place + 1) own = behind_drop rests own row.place (row.rest, t) (sorted_own rests key cells rows ix s) row.is
      ∙ ap (λ n. drop n own) (one_more row.place) in
      let later = from_behind row.rest next (slot_fact next ∙ next_fact rests key cells rows ix s row.rest (row.place + 1) (slot_live next) dropped is) in
      ap (λ (w : Option (F × ℕ)). facts_from rests key s (facts_in cells rows) (option_map (λ (e : F × ℕ). e.0) w)) row.live
      ∙ ap (λ q. row.fact.0 ∷ each (λ (e : R × (F × ℕ)). e.1.0) (rows_behind rests q us)) rest
      ∙ ap (λ fs. row.fact.0 ∷ fs) (sym later)
      ∙ ap (λ g. g ∷ facts_from rests key s (facts_in cells rows) (fact_in cells next)) here
    where
      one_of : (a b : F) → ◌≡◌ {A = Option F} (Some a) (Some b) → a ≡ b
      one_of a b e = cc

      with_f_is : (c : Option (Cell F)) (e : F × ℕ) (f : F) → live_in c ≡ Some e → IsLiveWith c f → e.0 ≡ f
      with_f_is c e f is l =
          let both : Some e ≡ Some (f, l.0) = sym is ∙ ap live_in l.1 in
          let one : ◌≡◌ {A = F × ℕ} e (f, l.0) = cc in
          ap (λ (z : F × ℕ). z.0) one
