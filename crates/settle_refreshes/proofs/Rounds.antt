-- Rounds of a script behind a settled moment: what is in flight in each world that they visit.
use Rattle.std.proofs.Common.{◌≡◌, ℕ, zero, suc, ◌+◌, ◌*◌, ◌≤◌, List, [], ◌∷◌, ◌++◌, length, Bool, true, false, cond, ⊎_elim, arith, sym, refl, ap, subst, ◌∙◌}
use Rattle.std.specs.Prelude.{map as each}
use Rattle.std.specs.List.{remove, repeat}
use Rattle.std.proofs.lemmas.Bool.{le-ltb}
use Rattle.std.proofs.lemmas.List.{length-append, length-map}
use Rattle.rsvp_base.specs.Members.{In}
use Rattle.rsvp_base.proofs.Members.{in_append, in_each}
use Rattle.calm_rounds.specs.Hold.{Hold, Visited}
use Rattle.calm_rounds.specs.Machine.{run}
use Rattle.calm_rounds.specs.Rounds.{Rounds, run_rounds}
use Rattle.calm_rounds.proofs.Holding.{hold_both, hold_later, hold_map, visited_start}
use Rattle.tree_model.specs.Ranks.{longest}
use Rattle.network_model.specs.Bounds.{IsStart, all_of}
use Rattle.network_model.specs.Events.{a_round, half, halves, pass, rounds}
use Rattle.network_model.specs.Locals.{locals_of}
use Rattle.network_model.specs.Runs.{crowds, is_crowded}
use Rattle.network_model.specs.Steps.{Deliver, Piece, Step, machine, sent, step}
use Rattle.network_model.specs.Worlds.{Item, World}
use Rattle.network_model.proofs.Listing.{in_remove}
use Rattle.laws_network.specs.Rounds.{rounds_of}
use Rattle.laws_network.proofs.Calming.{rounds_is_calm}
use Rattle.laws_network.proofs.Keeping.{calm_rounds_keep_bounds}
use Rattle.settle_adverts.specs.Adverts.{AreAdvertsExact}
use Rattle.settle_adverts.proofs.Settling.{adverts_are_exact}
use Rattle.settle_network.proofs.Settled.{run_then}
use Rattle.network_demand.specs.Overhead.{overhead}
use Rattle.settle_refreshes.specs.Refreshes.{HasOnlyRefreshes}
use Rattle.settle_refreshes.proofs.Resting.{IsAtRest, at_rest}
use Rattle.settle_refreshes.proofs.QuietSteps.{IsToldAtRest, delivery_sends_nothing, few_refreshes, refreshes_sent}

-- ---- worlds that stretches of steps visit
visited_split : (q : ℕ) (Q : World → Type 0) (ss ts : List Step) (u : World) → Visited (machine q) Q (ss ++ ts) u → Visited (machine q) Q ss u × Visited (machine q) Q ts (run (machine q) ss u)
visited_split q Q [] ts u v = (visited_start (machine q) Q ts u v, v)
visited_split q Q (s ∷ ss) ts u v = let r = visited_split q Q ss ts (step q s u) v.1 in ((v.0, r.0), r.1)

visited_join : (q : ℕ) (Q : World → Type 0) (ss ts : List Step) (u : World) → Visited (machine q) Q ss u → Visited (machine q) Q ts (run (machine q) ss u) → Visited (machine q) Q (ss ++ ts) u
visited_join q Q [] ts u v t = t
visited_join q Q (s ∷ ss) ts u v t = (v.0, visited_join q Q ss ts (step q s u) v.1 t)

rounds_join : (q : ℕ) (rs ts : List (List Step)) (w : World) → Rounds (machine q) rs w → Rounds (machine q) ts (run_rounds (machine q) rs w) → Rounds (machine q) (rs ++ ts) w
rounds_join q [] ts w a b = b
rounds_join q (r ∷ rs) ts w a b = (a.0, rounds_join q rs ts (run (machine q) r w) a.1 b)

hold_behind : (q : ℕ) (Q : World → Type 0) (k : ℕ) (rs ts : List (List Step)) (w : World) → k ≤ length rs → Hold (machine q) k (rs ++ ts) w Q → Hold (machine q) 0 ts (run_rounds (machine q) rs w) Q
hold_behind q Q zero [] ts w le h = h
hold_behind q Q zero (r ∷ rs) ts w le h = hold_behind q Q zero rs ts (run (machine q) r w) (omega arith) h.1
hold_behind q Q (suc k) [] ts w le h = absurd (omega arith)
hold_behind q Q (suc k) (r ∷ rs) ts w le h = hold_behind q Q k rs ts (run (machine q) r w) (omega arith) h

visited_rounds : (q : ℕ) (Q : World → Type 0) (ts : List (List Step)) (u : World) → Hold (machine q) 0 ts u Q → Visited (machine q) Q (all_of ts) u
visited_rounds q Q [] u h = h
visited_rounds q Q (r ∷ rs) u h = visited_join q Q r (all_of rs) u h.0 (visited_rounds q Q rs (run (machine q) r u) h.1)

-- ---- 13 H + 13 calm rounds on each world is at rest, and what each path is told is exact
told_at_rest : (q : ℕ) (w : World) (rs : List (List Step)) → Rounds (machine q) rs w → IsStart q w → Hold (machine q) (13 * longest w.net + 13) rs w (IsToldAtRest q w)
told_at_rest q w rs calm start =
    let k : ℕ = 13 * longest w.net + 13 in
    let told = hold_later (machine q) AreAdvertsExact (4 + 5 * longest w.net) k rs w (omega arith)
    (adverts_are_exact q w rs calm start.locals (calm_rounds_keep_bounds q w rs calm start.bounds)) in
    hold_map (machine q) (λ u. IsAtRest q w u × AreAdvertsExact u) (IsToldAtRest q w) (λ u h. record { rest = h.0; told = h.1 }) k rs w
    (hold_both (machine q) (IsAtRest q w) AreAdvertsExact k rs w (at_rest q w rs calm start) told)

-- ---- with the overhead of w
module _ (q : ℕ) (w : World) (top : ℕ) where
  abbrev pub IsRoomy : World → Type 0
  IsRoomy u = length u.flight ≤ top

  -- as a half period begins: refreshes alone are in flight, and there is room for the overhead beside them
  record HasRoom (u : World) : Type 0 where
    only : HasOnlyRefreshes u
    room : length u.flight + overhead w.net (locals_of w) ≤ top

  no_length : {A : Type 0} (xs : List A) → length xs ≡ 0 → xs ≡ []
  no_length [] e = refl
  no_length (x ∷ xs) e = absurd (omega (arith, e))

  roomy_pass : (m : ℕ) (u : World) → length u.flight ≡ m → Visited (machine q) (IsToldAtRest q w) (repeat m (Deliver 0 ∷ [])) u → HasOnlyRefreshes u → IsRoomy u
      → Visited (machine q) IsRoomy (repeat m (Deliver 0 ∷ [])) u × ((run (machine q) (repeat m (Deliver 0 ∷ [])) u).flight ≡ [])
  roomy_pass zero u is rest only roomy = (roomy, no_length u.flight is)
  roomy_pass (suc m) u is rest only roomy =
      let next : World = step q (Deliver 0) u in
      let none = delivery_sends_nothing q w u rest.0 (visited_start (machine q) (IsToldAtRest q w) (repeat m (Deliver 0 ∷ [])) next rest.1) only in
      let flight : next.flight ≡ remove u.flight 0 = ap (λ (z : List (Item × Bool)). remove u.flight 0 ++ each (λ (y : Item × Bool). y.0) z) none ∙ append_none (remove u.flight 0) in
      let fewer : length (remove u.flight 0) ≡ m = first_gone u.flight is in
      let now : length next.flight ≡ m = ap length flight ∙ fewer in
      let r = roomy_pass m next now rest.1 (λ y i. only y (in_remove y 0 u.flight (subst (λ (z : List Item). In y z) flight i))) (omega (arith, now, is, roomy)) in
      ((roomy, r.0), r.1)
    where
      append_none : {A : Type 0} (xs : List A) → xs ++ [] ≡ xs
      append_none [] = refl
      append_none (x ∷ xs) = ap (λ ys. x ∷ ys) (append_none xs)

      first_gone : {A : Type 0} (xs : List A) → length xs ≡ suc m → length (remove xs 0) ≡ m
      first_gone [] e = absurd (omega (arith, e))
      first_gone (x ∷ xs) e = omega (arith, e)

  roomy_half : (u : World) → Visited (machine q) (IsToldAtRest q w) (half q u) u → HasRoom u
      → Visited (machine q) IsRoomy (half q u) u × HasRoom (run (machine q) (half q u) u) × ((run (machine q) (half q u) u).flight ≡ [])
  roomy_half u rest room =
      let next : World = step q (Piece (2 * q)) u in
      let there = visited_start (machine q) (IsToldAtRest q w) (pass q next) next rest.1 in
      let few = few_refreshes q (2 * q) w u rest.0 there in
      let long = length-append u.flight (each (λ (y : Item × Bool). y.0) (sent q (Piece (2 * q)) u)) in
      let same = length-map (sent q (Piece (2 * q)) u) (λ (y : Item × Bool). y.0) in
      let before = room.room in
      let only : HasOnlyRefreshes next =
      (λ y i.
      ⊎_elim (λ (old : In y u.flight). room.only y old)
      (λ (new : In y (each (λ (x : Item × Bool). x.0) (sent q (Piece (2 * q)) u))).
      let r = in_each (λ (x : Item × Bool). x.0) y (sent q (Piece (2 * q)) u) new in
      refreshes_sent q (2 * q) w u rest.0 there y r.0.1 (subst (λ (z : Item). In (z, r.0.1) (sent q (Piece (2 * q)) u)) (sym r.2) r.1))
      (in_append y u.flight (each (λ (x : Item × Bool). x.0) (sent q (Piece (2 * q)) u)) i)) in
      let r = roomy_pass (length next.flight) next refl rest.1 only (omega (arith, few, long, same, before)) in
      let empty : length (run (machine q) (half q u) u).flight ≡ 0 = ap length r.1 in (
        (omega (arith, before), r.0),
        record { only = λ y i. absurd (subst (λ (z : List Item). In y z) r.1 i); room = omega (arith, empty, before) },
        r.1,
      )

  roomy_halves : (n : ℕ) (u : World) → Visited (machine q) (IsToldAtRest q w) (halves q n u) u → HasRoom u → Visited (machine q) IsRoomy (halves q n u) u × HasRoom (run (machine q) (halves q n u) u)
  roomy_halves zero u rest room = (let before = room.room in omega (arith, before), room)
  roomy_halves (suc n) u rest room =
      let mid : World = run (machine q) (half q u) u in
      let parts = visited_split q (IsToldAtRest q w) (half q u) (halves q n mid) u rest in
      let a = roomy_half u parts.0 room in
      let b = roomy_halves n mid parts.1 a.1 in
      (visited_join q IsRoomy (half q u) (halves q n mid) u a.0 b.0, subst HasRoom (sym (run_then q (half q u) (halves q n mid) u)) b.1)

  -- and behind a half period nothing is in flight
  empty_halves : (n : ℕ) (u : World) → Visited (machine q) (IsToldAtRest q w) (halves q (suc n) u) u → HasRoom u → (run (machine q) (halves q (suc n) u) u).flight ≡ []
  empty_halves zero u rest room =
      let mid : World = run (machine q) (half q u) u in
      let parts = visited_split q (IsToldAtRest q w) (half q u) (halves q 0 mid) u rest in
      subst (λ (z : World). z.flight ≡ []) (sym (run_then q (half q u) (halves q 0 mid) u)) (roomy_half u parts.0 room).2
  empty_halves (suc n) u rest room =
      let mid : World = run (machine q) (half q u) u in
      let parts = visited_split q (IsToldAtRest q w) (half q u) (halves q (suc n) mid) u rest in
      subst (λ (z : World). z.flight ≡ []) (sym (run_then q (half q u) (halves q (suc n) mid) u)) (empty_halves n mid parts.1 (roomy_half u parts.0 room).1)

  empty_rounds : (n : ℕ) (u : World) → Visited (machine q) (IsToldAtRest q w) (rounds q n u) u → HasRoom u → u.flight ≡ [] → (run (machine q) (rounds q n u) u).flight ≡ []
  empty_rounds zero u rest room none = none
  empty_rounds (suc n) u rest room none =
      let mid : World = run (machine q) (a_round q u) u in
      let parts = visited_split q (IsToldAtRest q w) (a_round q u) (rounds q n mid) u rest in
      subst (λ (z : World). z.flight ≡ []) (sym (run_then q (a_round q u) (rounds q n mid) u))
      (empty_rounds n mid parts.1 (roomy_halves 4 u parts.0 room).1 (empty_halves 3 u parts.0 room))

  emptied_rounds : (n : ℕ) (u : World) → Visited (machine q) (IsToldAtRest q w) (rounds q (suc n) u) u → HasRoom u → (run (machine q) (rounds q (suc n) u) u).flight ≡ []
  emptied_rounds n u rest room =
      let mid : World = run (machine q) (a_round q u) u in
      let parts = visited_split q (IsToldAtRest q w) (a_round q u) (rounds q n mid) u rest in
      subst (λ (z : World). z.flight ≡ []) (sym (run_then q (a_round q u) (rounds q n mid) u))
      (empty_rounds n mid parts.1 (roomy_halves 4 u parts.0 room).1 (empty_halves 3 u parts.0 room))

  roomy_rounds : (n : ℕ) (u : World) → Visited (machine q) (IsToldAtRest q w) (rounds q n u) u → HasRoom u → Visited (machine q) IsRoomy (rounds q n u) u × HasRoom (run (machine q) (rounds q n u) u)
  roomy_rounds zero u rest room = (let before = room.room in omega (arith, before), room)
  roomy_rounds (suc n) u rest room =
      let mid : World = run (machine q) (a_round q u) u in
      let parts = visited_split q (IsToldAtRest q w) (a_round q u) (rounds q n mid) u rest in
      let a = roomy_halves 4 u parts.0 room in
      let b = roomy_rounds n mid parts.1 a.1 in
      (visited_join q IsRoomy (a_round q u) (rounds q n mid) u a.0 b.0, subst HasRoom (sym (run_then q (a_round q u) (rounds q n mid) u)) b.1)

-- ---- behind 13 H + 13 calm rounds
module _ (q n : ℕ) (w : World) (rs : List (List Step)) (calm : Rounds (machine q) rs w) (start : IsStart q w) (enough : 13 * longest w.net + 13 ≤ length rs)
    (only : HasOnlyRefreshes (run_rounds (machine q) rs w)) where
  abbrev u : World
  u = run_rounds (machine q) rs w

  rests : Visited (machine q) (IsToldAtRest q w) (rounds q n u) u
  rests =
      let more = rounds_is_calm q n u in
      let all = told_at_rest q w (rs ++ rounds_of q n u) (rounds_join q rs (rounds_of q n u) w calm more.calm) start in
      subst (λ (z : List Step). Visited (machine q) (IsToldAtRest q w) z u) (sym more.steps)
      (visited_rounds q (IsToldAtRest q w) (rounds_of q n u) u (hold_behind q (IsToldAtRest q w) (13 * longest w.net + 13) rs (rounds_of q n u) w enough all))

  has_room : HasRoom q w (length u.flight + overhead u.net (locals_of u)) u
  has_room =
      let same = (visited_start (machine q) (IsToldAtRest q w) (rounds q n u) u rests).rest.same in
      let is : overhead u.net (locals_of u) ≡ overhead w.net (locals_of w) = (λ j. overhead (same.net j) (same.locals j)) in
      record { only = only; room = omega (arith, is) }

  pub rounds_are_roomy : Visited (machine q) (λ v. length v.flight ≤ length u.flight + overhead u.net (locals_of u)) (rounds q n u) u
  rounds_are_roomy = (roomy_rounds q w (length u.flight + overhead u.net (locals_of u)) n u rests has_room).0

-- a round leaves nothing in flight
pub rounds_leave_nothing : (q n : ℕ) (w : World) (rs : List (List Step)) → Rounds (machine q) rs w → IsStart q w → 13 * longest w.net + 13 ≤ length rs → HasOnlyRefreshes (run_rounds (machine q) rs w)
    → (run (machine q) (rounds q (suc n) (run_rounds (machine q) rs w)) (run_rounds (machine q) rs w)).flight ≡ []
rounds_leave_nothing q n w rs calm start enough only =
    let u : World = run_rounds (machine q) rs w in
    emptied_rounds q w (length u.flight + overhead u.net (locals_of u)) n u (rests q (suc n) w rs calm start enough only) (has_room q (suc n) w rs calm start enough only)

-- ---- so no round crowds
pub never_crowded : (q top : ℕ) → top ≤ 8192 → (ss : List Step) (u : World) → Visited (machine q) (λ v. length v.flight ≤ top) ss u → crowds q ss u ≡ false
never_crowded q top most [] u v = refl
never_crowded q top most (s ∷ ss) u v =
    let here = visited_start (machine q) (λ v. length v.flight ≤ top) ss (step q s u) v.1 in
    let no : is_crowded (step q s u) ≡ false = le-ltb 8192 (length (step q s u).flight) (omega (arith, here, most)) in
    ap (λ (b : Bool). cond b true (crowds q ss (step q s u))) no ∙ never_crowded q top most ss (step q s u) v.1
