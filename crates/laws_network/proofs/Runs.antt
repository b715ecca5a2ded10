-- Each world of the run of a plan is within bounds.
use Rattle.std.proofs.Common.{le-leb, ◌≡◌, ℕ, zero, suc, ◌*◌, ◌<◌, ◌≤◌, List, [], ◌∷◌, length, Bool, true, false, inl, inr, ⊎_elim, arith, sym, refl, ap, subst, ◌∙◌}
use Rattle.std.specs.Prelude.{nat_le, nat_lt, ◌++◌, ◌/◌, ◌%◌, cond}
use Rattle.std.specs.List.{repeat}
use Rattle.rsvp_base.specs.declared.addr.Addr.{Addr}
use Rattle.rsvp_base.specs.Members.{In}
use Rattle.rsvp_base.proofs.Members.{in_append}
use Rattle.calm_rounds.specs.Hold.{Visited}
use Rattle.calm_rounds.specs.Machine.{run}
use Rattle.tree_model.specs.Networks.{Net}
use Rattle.tree_model.specs.Trees.{trees_of}
use Rattle.tree_model.specs.Valid.{IsValid}
use Rattle.network_model.specs.Bounds.{AreBounds}
use Rattle.network_model.specs.Events.{Event, AtNode, Waits, Pass, DeliverAt, LoseAt, CopyAt, ClearNode, Rounds, Traces, Reports, ReportsFlags, ReportsAdverts, Injects, Reroutes, at_place, last_piece}
use Rattle.network_model.specs.Events.{pieces, pass, passes, half, halves, a_round, rounds, steps_of, all_steps}
use Rattle.network_model.specs.Runs.{Plan, first_world, steps_of_run}
use Rattle.network_model.specs.Steps.{Step, Piece, Deliver, Lose, Copy, At, ClearAt, Trace, Report, Flags, Adverts, Inject, Reroute, is_calm, net_after, rerouted, step, machine}
use Rattle.network_model.specs.Worlds.{World}
use Rattle.network_model.proofs.Machines.{quiet_of}
use Rattle.network_model.proofs.Quiet.{net_quiet}
use Rattle.laws_network.specs.Keeping.{IsFitStep}
use Rattle.laws_network.specs.Runs.{net_then, IsFitEvent, AreFitEvents, IsFitRun}
use Rattle.laws_network.proofs.Beginning.{the_first_world_is_within_bounds}
use Rattle.laws_network.proofs.Keeping.{calm_fit, each_step_keeps_a_world_within_bounds}

-- ---- lists of steps
in_repeat : (n : ℕ) (x s : Step) → In s (repeat n (x ∷ [])) → s ≡ x
in_repeat zero x s i = absurd i
in_repeat (suc n) x s i = ⊎_elim (λ (same : s ≡ x). same) (λ (j : In s (repeat n (x ∷ []))). in_repeat n x s j) i

pub visited_then : (q : ℕ) (P : World → Type 0) (ss ts : List Step) (w : World) → Visited (machine q) P ss w → Visited (machine q) P ts (run (machine q) ss w) → Visited (machine q) P (ss ++ ts) w
visited_then q P [] ts w a b = b
visited_then q P (s ∷ ss) ts w a b = (a.0, visited_then q P ss ts (step q s w) a.1 b)

-- ---- the steps of most events are calm
module _ (q : ℕ) (some : 1 ≤ q) where
  abbrev pub AreCalm : List Step → Type 0
  AreCalm ss = (s : Step) → In s ss → is_calm q s ≡ true

  both_calm : (ss ts : List Step) → AreCalm ss → AreCalm ts → AreCalm (ss ++ ts)
  both_calm ss ts a b s i = ⊎_elim (λ (j : In s ss). a s j) (λ (j : In s ts). b s j) (in_append s ss ts i)

  one_calm : (x : Step) → is_calm q x ≡ true → AreCalm (x ∷ [])
  one_calm x e s i = ⊎_elim (λ (same : s ≡ x). ap (is_calm q) same ∙ e) (λ (no : ⊥). absurd no) i

  many_calm : (n : ℕ) (x : Step) → is_calm q x ≡ true → AreCalm (repeat n (x ∷ []))
  many_calm n x e s i = ap (is_calm q) (in_repeat n x s i) ∙ e

  pub no_time : nat_le 0 (2 * q) ≡ true
  no_time = le-leb 0 (2 * q) (omega arith)

  piece_calm : (ms : ℕ) → ms ≤ 2 * q → is_calm q (Piece ms) ≡ true
  piece_calm ms le = le-leb ms (2 * q) le

  pub pieces_calm : (ms : ℕ) → AreCalm (pieces q ms)
  pieces_calm ms =
      both_calm (repeat (ms / (2 * q)) (Piece (2 * q) ∷ [])) (last_piece q (ms % (2 * q))) (many_calm (ms / (2 * q)) (Piece (2 * q)) (piece_calm (2 * q) (omega arith)))
      (by (nat_lt 0 (ms % (2 * q))))
    where
      short : ms % (2 * q) ≤ 2 * q
      short = omega arith

      by : (b : Bool) → AreCalm (cond b (Piece (ms % (2 * q)) ∷ []) [])
      by true = one_calm (Piece (ms % (2 * q))) (piece_calm (ms % (2 * q)) short)
      by false = λ s i. absurd i

  pass_calm : (w : World) → AreCalm (pass q w)
  pass_calm w = many_calm (length w.flight) (Deliver 0) no_time

  pub passes_calm : (n : ℕ) (w : World) → AreCalm (passes q n w)
  passes_calm zero w = λ s i. absurd i
  passes_calm (suc n) w = both_calm (pass q w) (passes q n (run (machine q) (pass q w) w)) (pass_calm w) (passes_calm n (run (machine q) (pass q w) w))

  half_calm : (w : World) → AreCalm (half q w)
  half_calm w = both_calm (Piece (2 * q) ∷ []) (pass q (step q (Piece (2 * q)) w)) (one_calm (Piece (2 * q)) (piece_calm (2 * q) (omega arith))) (pass_calm (step q (Piece (2 * q)) w))

  halves_calm : (n : ℕ) (w : World) → AreCalm (halves q n w)
  halves_calm zero w = λ s i. absurd i
  halves_calm (suc n) w = both_calm (half q w) (halves q n (run (machine q) (half q w) w)) (half_calm w) (halves_calm n (run (machine q) (half q w) w))

  pub rounds_calm : (n : ℕ) (w : World) → AreCalm (rounds q n w)
  rounds_calm zero w = λ s i. absurd i
  rounds_calm (suc n) w = both_calm (a_round q w) (rounds q n (run (machine q) (a_round q w) w)) (halves_calm 4 w) (rounds_calm n (run (machine q) (a_round q w) w))

  pub place_calm : (f : ℕ → Step) (k : ℕ) → ((n : ℕ) → is_calm q (f n) ≡ true) → AreCalm (at_place f k)
  place_calm f zero e = λ s i. absurd i
  place_calm f (suc k) e = one_calm (f k) (e k)

  -- ---- worlds of a network
  module _ (trees : List (Addr × Addr)) where
    record IsIn (net : Net) (u : World) : Type 0 where
      bounds : AreBounds q u
      net_is : u.net ≡ net
      trees_are : u.trees ≡ trees

    -- what a step that is fit and keeps the network leaves
    Keeps : Net → Step → Type 0
    Keeps net s = (u : World) → IsIn net u → IsFitStep q u s × (net_after s u ≡ u.net)

    calm_keeps : (net : Net) (s : Step) → is_calm q s ≡ true → Keeps net s
    unfolding Keeps
    calm_keeps net s e u i = (calm_fit q s u e, net_quiet s u (quiet_of q s e))

    through_steps : (net : Net) (ss : List Step) (w : World) → ((s : Step) → In s ss → Keeps net s) → IsIn net w → Visited (machine q) (AreBounds q) ss w × IsIn net (run (machine q) ss w)
    unfolding Keeps
    through_steps net [] w keeps i = (i.bounds, i)
    through_steps net (s ∷ ss) w keeps i =
        let k = keeps s (inl refl) w i in
        let r = through_steps net ss (step q s w) (λ x j. keeps x (inr j)) (record {
          bounds = each_step_keeps_a_world_within_bounds q w s k.0 i.bounds;
          net_is = k.1
              ∙ i.net_is;
          trees_are = i.trees_are;
        }) in
        ((i.bounds, r.0), r.1)

    calm_event : (net : Net) (ss : List Step) (w : World) → AreCalm ss → IsIn net w → Visited (machine q) (AreBounds q) ss w × IsIn net (run (machine q) ss w)
    calm_event net ss w calm i = through_steps net ss w (λ s j. calm_keeps net s (calm s j)) i

    one_event : (net : Net) (s : Step) (w : World) → Keeps net s → IsIn net w → Visited (machine q) (AreBounds q) (s ∷ []) w × IsIn net (run (machine q) (s ∷ []) w)
    one_event net s w keeps i = through_steps net (s ∷ []) w (λ x j. ⊎_elim (λ (same : x ≡ s). subst (Keeps net) (sym same) keeps) (λ (no : ⊥). absurd no) j) i

    event : (net : Net) (e : Event) (w : World) → IsFitEvent trees net e → IsIn net w → Visited (machine q) (AreBounds q) (steps_of q e w) w
        × IsIn (net_then e net) (run (machine q) (steps_of q e w) w)
    unfolding Keeps
    event net (AtNode n l) w fit i = one_event net (At n l) w (λ u j. (fit, refl)) i
    event net (Waits ms) w fit i = calm_event net (pieces q ms) w (pieces_calm ms) i
    event net (Pass n) w fit i = calm_event net (passes q n w) w (passes_calm n w) i
    event net (DeliverAt k) w fit i = calm_event net (at_place Deliver k) w (place_calm Deliver k (λ n. no_time)) i
    event net (LoseAt k) w fit i = calm_event net (at_place Lose k) w (place_calm Lose k (λ n. no_time)) i
    event net (CopyAt k) w fit i = calm_event net (at_place Copy k) w (place_calm Copy k (λ n. no_time)) i
    event net (ClearNode n) w fit i = one_event net (ClearAt n) w (λ u j. (tt, refl)) i
    event net (Rounds n) w fit i = calm_event net (rounds q n w) w (rounds_calm n w) i
    event net (Traces on) w fit i = calm_event net (Trace on ∷ []) w (one_calm (Trace on) no_time) i
    event net (Reports e) w fit i = calm_event net (Report e ∷ []) w (one_calm (Report e) no_time) i
    event net ReportsFlags w fit i = calm_event net (Flags ∷ []) w (one_calm Flags no_time) i
    event net ReportsAdverts w fit i = calm_event net (Adverts ∷ []) w (one_calm Adverts no_time) i
    event net (Injects e dst a) w fit i = one_event net (Inject e dst a) w (λ u j. ((subst (λ (z : Net). e < length z.ends) (sym j.net_is) fit.0, fit.1), refl)) i
    event net (Reroutes g s hops) w fit i =
        let step_fit : IsFitStep q w (Reroute g s hops) = (
          subst (λ (z : List (Addr × Addr)). In (g, s) z) (sym i.trees_are) fit.0,
          subst (λ (z : Net). IsValid (rerouted z g s hops)) (sym i.net_is) fit.1,
        ) in
        let after = each_step_keeps_a_world_within_bounds q w (Reroute g s hops) step_fit i.bounds in
        ((i.bounds, after), record { bounds = after; net_is = ap (λ (z : Net). rerouted z g s hops) i.net_is; trees_are = i.trees_are })

    all_events : (es : List Event) (net : Net) (w : World) → AreFitEvents trees net es → IsIn net w → Visited (machine q) (AreBounds q) (all_steps q es w) w
    all_events [] net w fit i = i.bounds
    all_events (e ∷ es) net w fit i =
        let r = event net e w fit.0 i in
        visited_then q (AreBounds q) (steps_of q e w) (all_steps q es (run (machine q) (steps_of q e w) w)) w r.0 (all_events es (net_then e net) (run (machine q) (steps_of q e w) w) fit.1 r.1)

pub each_world_of_a_run_is_within_bounds : (p : Plan) → IsFitRun p → Visited (machine p.quarter) (AreBounds p.quarter) (steps_of_run p) (first_world p)
each_world_of_a_run_is_within_bounds p fit =
    all_events p.quarter fit.plan.period (trees_of p.net.hops) p.events p.net (first_world p) fit.events
    (record { bounds = the_first_world_is_within_bounds p fit.plan; net_is = refl; trees_are = refl })
