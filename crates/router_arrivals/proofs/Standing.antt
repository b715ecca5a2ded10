-- What is left over stands, or is refused.
use Rattle.std.specs.Prelude.{◌≡◌, ℕ, ◌+◌, ◌≤◌, false, MatchResult, OnErr, OnOk, Option, Some, None, Result, Ok, Err, refl}
use Rattle.std.proofs.Common.{sym, ap, ◌∙◌, arith}
use Rattle.std.proofs.lemmas.Option.{same_Some}
use Rattle.std.specs.Ordering.{eq_by_cmp}
use Rattle.blockade_state.specs.Blockades.{WallMap}
use Rattle.resv_state.specs.Resvs.{ResvFacts, ResvMap, resv_key, resv_lines}
use Rattle.resv_state.specs.declared.fact.ResvFact.{ResvFact}
use Rattle.resv_state.proofs.Limits.{lines_counted, one_style}
use Rattle.rsvp_base.specs.Keys.{pairs}
use Rattle.rsvp_base.specs.Orders.{sessions, units}
use Rattle.rsvp_base.specs.Table.{changed, empty, get, put_in, size}
use Rattle.rsvp_base.specs.declared.style.StyleKind.{StyleKind}
use Rattle.rsvp_base.specs.declared.style.StyleKind.TheVariants.{Wild, Fixed, Shared}
use Rattle.rsvp_base.proofs.Tables.{get-changed, get-put_in_other, same_table, then_do}
use Rattle.style_rules.specs.Limits.{IsWithinLimits, line_keys_of}
use Rattle.style_rules.specs.Lines.{LineKey, line_keys, next_hops}
use Rattle.style_rules.specs.Targets.{WallKey, targets, wall_keys}
use Rattle.style_rules.specs.declared.wall.Wall.{Wall}
use Rattle.router_rules.specs.Calls.{act_stale, stale_refusal, unless, with_left}
use Rattle.router_rules.specs.Facts.{Blockade, Facts, Resvs, resvs_of, with_resvs}
use Rattle.router_rules.specs.Inputs.{Stale}
use Rattle.router_rules.specs.NodeConfig.{NodeConfig}
use Rattle.router_rules.specs.declared.answers.StaleErr.{StaleErr}
use Rattle.laws_bounds.proofs.Leaving.{as_it_was}
use Rattle.router_state.specs.State.{State, facts_of, resv_at, table_in, wall_at}
use Rattle.router_state.proofs.Settling.{changed_put}
use Rattle.router_state.specs.Whole.{IsBooked, state_of}
use Rattle.router_state.specs.declared.tables.Tables.{Tables}
use Rattle.resv_admission.specs.Kept.{IsBookOf}
use Rattle.resv_admission.specs.Placing.{IsBookAmong, err_of, stands}
use Rattle.resv_admission.proofs.Stands.{size_is}
use Rattle.router_arrivals.specs.LeftOver.{AreFew, resv_left, wall_left}
use Rattle.router_arrivals.proofs.Putting.{keys_apart}

-- ---- by what came of a call
pub then_err : {E : Type 0} (r : Result (Unit {0}) E) {P Q : Type 0} → (P → Q) → OnErr r P → OnErr r Q
then_err (Ok u) f p = tt
then_err (Err e) f p = f p

refused_as : {E : Type 0} (r : Result (Unit {0}) E) (o : Option E) → err_of r ≡ o → MatchResult r (λ _. o ≡ None) (λ e. o ≡ Some e)
refused_as (Ok u) o is = sym is
refused_as (Err e) o is = sym is

-- ---- the book of the facts, as `stand` wants it
pub book_at : (t : Tables) → IsBooked t → (c : ℕ) → IsBookOf (facts_of c (state_of t empty)) t.book.entries
book_at t booked c = record { at = booked c }

pub few_in : (st : StyleKind) (m : ResvFacts) → IsWithinLimits st (resv_lines st m) → size m ≤ 1024
few_in st m w = omega (arith, lines_counted st m, w.lines, ap (λ ls. size (line_keys_of ls)) (one_style st m))

pub few_all : (n : State) → size n.wild ≤ 1024 → size n.fixed ≤ 1024 → size n.shared ≤ 1024 → AreFew n
few_all n wild fixed shared Wild = wild
few_all n wild fixed shared Fixed = fixed
few_all n wild fixed shared Shared = shared

few_at : (n : State) → AreFew n → (st : StyleKind) → size (resvs_of st (facts_of 0 n)) ≤ 1024
few_at n few Wild = omega (arith, size_is 0 n.wild, few Wild)
few_at n few Fixed = omega (arith, size_is 0 n.fixed, few Fixed)
few_at n few Shared = omega (arith, size_is 0 n.shared, few Shared)

pub among_in : (st : StyleKind) (t : Tables) → IsBooked t → AreFew (state_of t empty) → IsBookAmong st (table_in st (state_of t empty)) t.book.entries
among_in Wild t booked few = record { clock = 0; facts = facts_of 0 (state_of t empty); resvs = refl; book = book_at t booked 0; others = λ s off. few_at (state_of t empty) few s }
among_in Fixed t booked few = record { clock = 0; facts = facts_of 0 (state_of t empty); resvs = refl; book = book_at t booked 0; others = λ s off. few_at (state_of t empty) few s }
among_in Shared t booked few = record { clock = 0; facts = facts_of 0 (state_of t empty); resvs = refl; book = book_at t booked 0; others = λ s off. few_at (state_of t empty) few s }

-- ---- a reservation
pub each_style : (P : StyleKind → Type 0) → P Wild → P Fixed → P Shared → (st : StyleKind) → P st
each_style P a b c Wild = a
each_style P a b c Fixed = b
each_style P a b c Shared = c

module _ (style st : StyleKind) (same : style ≡ st) (fact : ResvFact) (left : ℕ) (old new : ResvMap) where
  abbrev key : LineKey
  key = resv_key st fact

  pub stood_refused : (r : Result (Unit {0}) StaleErr) (p : NodeConfig) (c : ℕ) (f : Facts) → err_of r ≡ stale_refusal p (resv_left st c fact left) f
      → MatchResult r (λ _. stale_refusal p (resv_left style c fact left) f ≡ None) (λ e. stale_refusal p (resv_left style c fact left) f ≡ Some e)
  stood_refused r p c f why = refused_as r (stale_refusal p (resv_left style c fact left) f) (why ∙ ap (λ (z : StyleKind). stale_refusal p (resv_left z c fact left) f) (sym same))

  stood : (r : Result (Unit {0}) StaleErr) (p : NodeConfig) (c : ℕ) (f : Facts) → resvs_of st f ≡ changed (resv_at c) old.facts → err_of r ≡ stale_refusal p (resv_left st c fact left) f
      → OnOk r (new ≡ record old { facts = put_in old.facts key (fact, left) }) → OnErr r (new ≡ old) → with_resvs st (changed (resv_at c) new.facts) f ≡ act_stale p (resv_left st c fact left) f
  stood (Ok u) p c f is why ok err =
      let put : changed (resv_at c) new.facts ≡ put_in (resvs_of st f) key (stands c fact left) =
      ap (λ (t : ResvMap). changed (resv_at c) t.facts) ok ∙ changed_put line_keys (resv_at c) old.facts key (fact, left) (stands c fact left) refl
      ∙ ap (λ (t : Resvs). put_in t key (stands c fact left)) (sym is) in
      (λ i. with_resvs st (put i) f) ∙ ap (λ (o : Option StaleErr). unless o (with_left (resv_left st c fact left) f) f) why
  stood (Err e) p c f is why ok err =
      let same : changed (resv_at c) new.facts ≡ resvs_of st f = ap (λ (t : ResvMap). changed (resv_at c) t.facts) err ∙ sym is in
      (λ i. with_resvs st (same i) f) ∙ (λ i. record f { resvs = as_it_was st f.resvs i }) ∙ ap (λ (o : Option StaleErr). unless o (with_left (resv_left st c fact left) f) f) why

  pub stood_facts : (r : Result (Unit {0}) StaleErr) (p : NodeConfig) (c : ℕ) (f : Facts) → resvs_of st f ≡ changed (resv_at c) old.facts → err_of r ≡ stale_refusal p (resv_left st c fact left) f
      → OnOk r (new ≡ record old { facts = put_in old.facts key (fact, left) }) → OnErr r (new ≡ old) → with_resvs st (changed (resv_at c) new.facts) f ≡ act_stale p (resv_left style c fact left) f
  stood_facts r p c f is why ok err = stood r p c f is why ok err ∙ ap (λ (z : StyleKind). act_stale p (resv_left z c fact left) f) (sym same)

  -- of other sessions nothing changes
  pub stood_away : (r : Result (Unit {0}) StaleErr) → OnOk r (new ≡ record old { facts = put_in old.facts key (fact, left) }) → OnErr r (new ≡ old) → (q : LineKey)
      → eq_by_cmp sessions.cmp fact.session q.0 ≡ false → get old.facts q ≡ get new.facts q
  stood_away (Ok u) ok err q off = sym (ap (λ (t : ResvMap). get t.facts q) ok ∙ get-put_in_other line_keys old.facts key (fact, left) q (keys_apart (pairs next_hops units) q key off))
  stood_away (Err e) ok err q off = sym (ap (λ (t : ResvMap). get t.facts q) err)

-- ---- a blockade: at a clock it is seen as it is
seen_at : (t u : WallMap) (q : WallKey) → get (changed (wall_at 0) t) q ≡ get (changed (wall_at 0) u) q → get t q ≡ get u q
seen_at t u q e = by (get t q) (get u q) (sym (get-changed wall_keys (wall_at 0) t q) ∙ e ∙ get-changed wall_keys (wall_at 0) u q)
  where
    seen : Wall × ℕ → Blockade
    seen d = record { wall = d.0; dies = 0 + d.1 }

    by : (v w : Option (Wall × ℕ)) → then_do v (wall_at 0 q) ≡ then_do w (wall_at 0 q) → v ≡ w
    by None None h = refl
    by None (Some d) h = let z : ◌≡◌ {A = Option Blockade} None (Some (seen d)) = h in absurd (cc)
    by (Some d) None h = let z : ◌≡◌ {A = Option Blockade} (Some (seen d)) None = h in absurd (cc)
    by (Some d) (Some f) h =
        let r : seen d ≡ seen f = same_Some (seen d) (seen f) h in
        let l : 0 + d.1 ≡ 0 + f.1 = ap (λ (z : Blockade). z.dies) r in
        let left : d.1 ≡ f.1 = omega (arith, l) in
        λ i. Some ((r i).wall, left i)

module _ (n : State) (new : WallMap) (p : NodeConfig) (k : WallKey) (wall : Wall) (left : ℕ)
    (facts : facts_of 0 (record n { walls = new }) ≡ act_stale p (wall_left k 0 wall left) (facts_of 0 n)) where
  abbrev i : Stale
  i = wall_left k 0 wall left

  abbrev f : Facts
  f = facts_of 0 n

  -- what is refused changes nothing
  pub wall_refused : (r : Result (Unit {0}) StaleErr) → MatchResult r (λ _. stale_refusal p i f ≡ None) (λ e. stale_refusal p i f ≡ Some e) → OnErr r (new ≡ n.walls)
  wall_refused (Ok u) why = tt
  wall_refused (Err e) why = same_table wall_keys new n.walls (λ q. seen_at new n.walls q (ap (λ (g : Facts). get g.walls q) (facts ∙ ap (λ (o : Option StaleErr). unless o (with_left i f) f) why)))

  -- of other sessions nothing changes
  pub wall_away : (q : WallKey) → eq_by_cmp sessions.cmp k.0 q.0 ≡ false → get n.walls q ≡ get new q
  wall_away q off = seen_at n.walls new q (by (stale_refusal p i f) ∙ ap (λ (g : Facts). get g.walls q) (sym facts))
    where
      by : (o : Option StaleErr) → get f.walls q ≡ get (unless o (with_left i f) f).walls q
      by None = sym (get-put_in_other wall_keys f.walls k (record { wall = wall; dies = 0 + left }) q (keys_apart targets q k off))
      by (Some e) = refl
