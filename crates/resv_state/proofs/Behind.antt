-- What comes next behind a reservation, as the map says.
use Rattle.std.proofs.Common.{◌≡◌, ◌+◌, ℕ, suc, Bool, true, false, cond, List, [], ◌∷◌, Option, Some, None, refl, sym, ap, ◌∙◌, arith}
use Rattle.std.specs.Prelude.{slice_get}
use Rattle.std.specs.Option.{option_map}
use Rattle.std.specs.Ordering.{is_lt}
use Rattle.rsvp_base.specs.Orders.{sessions}
use Rattle.rsvp_base.specs.Table.{Table, get, changed_rows}
use Rattle.rsvp_base.specs.Under.{under}
use Rattle.rsvp_base.specs.declared.style.StyleKind.{StyleKind}
use Rattle.rsvp_base.proofs.Counts.{in_found}
use Rattle.rsvp_base.proofs.Fronts.{got_in}
use Rattle.rsvp_base.proofs.UnderLaws.{get-under}
use Rattle.soft_table.specs.Facts.{rows_behind}
use Rattle.soft_table.proofs.Steps.{behind_drop, first_dropped}
use Rattle.soft_table.proofs.Told.{kth-valued, kth_told}
use Rattle.resv_state.specs.declared.fact.Held.{Held}
use Rattle.resv_state.specs.declared.fact.ResvFact.{ResvFact}
use Rattle.resv_state.specs.Resvs.{ResvFacts, AreOfStyle, resv_key}
use Rattle.resv_state.specs.Walks.{Rest, rests}
use Rattle.resv_state.proofs.Facts.{said, told}

behind_said : (r : Rest) (es : List (Rest × (Held × ℕ))) → changed_rows (λ k e. Some (said e)) (rows_behind rests r es) ≡ rows_behind rests r (changed_rows (λ k e. Some (said e)) es)
behind_said r [] = refl
behind_said r (e ∷ es) = by (is_lt (rests.cmp r e.0)) (behind_said r es)
  where
    by : (b : Bool) → changed_rows (λ k e. Some (said e)) (rows_behind rests r es) ≡ rows_behind rests r (changed_rows (λ k e. Some (said e)) es)
        → changed_rows (λ k e. Some (said e)) (cond b (e ∷ rows_behind rests r es) (rows_behind rests r es))
        ≡ cond b ((e.0, said e.1) ∷ rows_behind rests r (changed_rows (λ k e. Some (said e)) es)) (rows_behind rests r (changed_rows (λ k e. Some (said e)) es))
    by true rest = ap (λ zs. (e.0, said e.1) ∷ zs) rest
    by false rest = rest

-- the k-th of rows that a table keeps, as the map says
pub kth_said : (es : List (Rest × (Held × ℕ))) (k : ℕ) (r : Option Held) → r ≡ option_map (λ e. e.1.0) (slice_get es k)
    → option_map told r ≡ option_map (λ (e : Rest × (ResvFact × ℕ)). e.1.0) (slice_get (changed_rows (λ k e. Some (said e)) es) k)
kth_said es k r is = kth_told told r (slice_get es k) is ∙ ap (option_map (λ (e : Rest × (ResvFact × ℕ)). e.1.0)) (sym (kth-valued said es k))

pub next_said : (rest : Rest) (es : List (Rest × (Held × ℕ))) (r : Option Held) → r ≡ option_map (λ e. e.1.0) (slice_get (rows_behind rests rest es) 0)
    → option_map told r ≡ option_map (λ (e : Rest × (ResvFact × ℕ)). e.1.0) (slice_get (rows_behind rests rest (changed_rows (λ k e. Some (said e)) es)) 0)
next_said rest es r is = kth_said (rows_behind rests rest es) 0 r is ∙ ap (λ zs. option_map (λ (e : Rest × (ResvFact × ℕ)). e.1.0) (slice_get zs 0)) (behind_said rest es)

-- behind the k-th comes the next
module _ (st : StyleKind) (m : ResvFacts) (of : AreOfStyle st m) (f : ResvFact) where
  abbrev us : Table rests (ResvFact × ℕ)
  us = under sessions rests m f.session

  pub next_behind : (k : ℕ) → Some f ≡ option_map (λ (e : Rest × (ResvFact × ℕ)). e.1.0) (slice_get us.rows k)
      → option_map (λ (e : Rest × (ResvFact × ℕ)). e.1.0) (slice_get (rows_behind rests (resv_key st f).1 us.rows) 0) ≡ option_map (λ (e : Rest × (ResvFact × ℕ)). e.1.0) (slice_get us.rows (k + 1))
  next_behind k is = by (slice_get us.rows k) refl is
    where
      one_more : (n : ℕ) → suc n ≡ n + 1
      one_more n = omega arith

      by : (w : Option (Rest × (ResvFact × ℕ))) → slice_get us.rows k ≡ w → Some f ≡ option_map (λ (e : Rest × (ResvFact × ℕ)). e.1.0) w
          → option_map (λ (e : Rest × (ResvFact × ℕ)). e.1.0) (slice_get (rows_behind rests (resv_key st f).1 us.rows) 0)
          ≡ option_map (λ (e : Rest × (ResvFact × ℕ)). e.1.0) (slice_get us.rows (k + 1))
      by None at e = cc
      by (Some x) at e =
          let same : f ≡ x.1.0 = cc in
          let there : get m (f.session, x.0) ≡ Some x.1 = sym (get-under sessions rests m f.session x.0) ∙ in_found rests us x.0 x.1 (got_in us.rows k x at) in
          let key : (resv_key st f).1 ≡ x.0 = ap (λ (g : ResvFact). (resv_key st g).1) same ∙ ap (λ q. q.1) (of.key (f.session, x.0) x.1 there) in
          ap (λ (q : Rest). option_map (λ (e : Rest × (ResvFact × ℕ)). e.1.0) (slice_get (rows_behind rests q us.rows) 0)) key
          ∙ ap (λ es. option_map (λ (e : Rest × (ResvFact × ℕ)). e.1.0) (slice_get es 0)) (behind_drop rests us.rows k x us.sorted at)
          ∙ ap (option_map (λ (e : Rest × (ResvFact × ℕ)). e.1.0)) (first_dropped us.rows (suc k)) ∙ ap (λ n. option_map (λ (e : Rest × (ResvFact × ℕ)). e.1.0) (slice_get us.rows n)) (one_more k)
