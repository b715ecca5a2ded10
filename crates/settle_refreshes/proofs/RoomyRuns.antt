-- The run of a script with more rounds behind a settled moment.
use Rattle.std.proofs.Common.{◌≡◌, ℕ, ◌+◌, ◌≤◌, List, [], ◌∷◌, ◌++◌, length, Bool, true, false, cond, arith, sym, refl, ap, subst, ◌∙◌}
use Rattle.calm_rounds.specs.Hold.{Visited}
use Rattle.calm_rounds.specs.Machine.{run}
use Rattle.calm_rounds.specs.Rounds.{run_rounds}
use Rattle.tree_model.specs.Goals.{DemandsFit}
use Rattle.network_model.specs.Bounds.{AreBounds, AreHosts, IsSettled, all_of}
use Rattle.network_model.specs.Events.{Event, Rounds, all_steps, rounds, steps_of}
use Rattle.network_model.specs.Locals.{locals_of}
use Rattle.network_model.specs.Runs.{Plan, crowds, first_world, is_crowded, is_crowded_run, steps_of_run}
use Rattle.network_model.specs.Steps.{Step, machine, step}
use Rattle.network_model.specs.Worlds.{World}
use Rattle.calm_rounds.proofs.Holding.{hold_end}
use Rattle.laws_network.specs.Known.{IsKnown, IsSameNet}
use Rattle.laws_network.specs.Runs.{AreFitSenders, IsFitRun}
use Rattle.laws_network.proofs.Keeping.{calm_rounds_keep_bounds}
use Rattle.laws_network.proofs.Known.{known_hold}
use Rattle.laws_network.proofs.Hosts.{each_world_of_a_run_keeps_the_locals}
use Rattle.settle_network.proofs.RunsSettle.{visited_at}
use Rattle.settle_network.proofs.Settled.{run_all, run_then}
use Rattle.network_demand.specs.Overhead.{overhead}
use Rattle.settle_refreshes.specs.Refreshes.{HasOnlyRefreshes}
use Rattle.settle_refreshes.specs.Roomy.{with_rounds}
use Rattle.settle_refreshes.proofs.Rounds.{never_crowded, rounds_are_roomy}

pub append_none : {A : Type 0} (xs : List A) → xs ++ [] ≡ xs
append_none [] = refl
append_none (x ∷ xs) = ap (λ ys. x ∷ ys) (append_none xs)

joined : {A : Type 0} (xs ys zs : List A) → (xs ++ ys) ++ zs ≡ xs ++ (ys ++ zs)
joined [] ys zs = refl
joined (x ∷ xs) ys zs = λ i. x ∷ joined xs ys zs i

-- the steps of events with rounds behind them
steps_with : (q n : ℕ) (es : List Event) (w : World) → all_steps q (es ++ Rounds n ∷ []) w ≡ all_steps q es w ++ rounds q n (run (machine q) (all_steps q es w) w)
steps_with q n [] w = append_none (rounds q n w)
steps_with q n (e ∷ es) w =
    let v : World = run (machine q) (steps_of q e w) w in
    ap (λ (z : List Step). steps_of q e w ++ z) (steps_with q n es v) ∙ sym (joined (steps_of q e w) (all_steps q es v) (rounds q n (run (machine q) (all_steps q es v) v)))
    ∙ ap (λ (z : World). (steps_of q e w ++ all_steps q es v) ++ rounds q n z) (sym (run_then q (steps_of q e w) (all_steps q es v) w))

-- neither crowds, so both together do not
crowds_neither : (q : ℕ) (ss ts : List Step) (w : World) → crowds q ss w ≡ false → crowds q ts (run (machine q) ss w) ≡ false → crowds q (ss ++ ts) w ≡ false
crowds_neither q [] ts w a b = b
crowds_neither q (s ∷ ss) ts w a b = by (λ e. crowds_neither q ss ts (step q s w) e b) (is_crowded (step q s w)) a
  where
    by : (crowds q ss (step q s w) ≡ false → crowds q (ss ++ ts) (step q s w) ≡ false) → (c : Bool) → cond c true (crowds q ss (step q s w)) ≡ false
        → cond c true (crowds q (ss ++ ts) (step q s w)) ≡ false
    by rest true e = let bad : true ≡ false = e in absurd (cc)
    by rest false e = rest e

module _ (p : Plan) (fit_run : IsFitRun p) (senders : AreFitSenders p) (is : IsSettled p.quarter (first_world p) (steps_of_run p)) where
  abbrev begun : World
  begun = run (machine p.quarter) is.before (first_world p)

  abbrev ended : World
  ended = run (machine p.quarter) (steps_of_run p) (first_world p)

  kept : AreBounds p.quarter begun × AreHosts begun
  kept =
      visited_at p.quarter (λ v. AreBounds p.quarter v × AreHosts v) is.before (all_of is.rounds) (first_world p)
      (subst (λ (z : List Step). Visited (machine p.quarter) (λ v. AreBounds p.quarter v × AreHosts v) z (first_world p)) is.parts (each_world_of_a_run_keeps_the_locals p fit_run senders))

  ends : ended ≡ run_rounds (machine p.quarter) is.rounds begun
  ends = ap (λ (z : List Step). run (machine p.quarter) z (first_world p)) is.parts ∙ run_then p.quarter is.before (all_of is.rounds) (first_world p) ∙ run_all p.quarter is.rounds begun

  -- the network is the one with which the rounds began, and the same is asked of it
  pub stays : IsSameNet begun ended
  stays =
      subst (IsSameNet begun) (sym ends)
      (hold_end (machine p.quarter) (IsKnown p.quarter begun) 0 is.rounds begun (omega arith)
      (known_hold p.quarter begun is.rounds is.calm (calm_rounds_keep_bounds p.quarter begun is.rounds is.calm kept.0))).same

  pub settled_rounds_are_roomy : DemandsFit begun.net (locals_of begun) → HasOnlyRefreshes ended → (n : ℕ)
      → Visited (machine p.quarter) (λ v. length v.flight ≤ length ended.flight + overhead ended.net (locals_of ended)) (rounds p.quarter n ended) ended
  settled_rounds_are_roomy fit only n =
      subst (λ (z : World). Visited (machine p.quarter) (λ v. length v.flight ≤ length z.flight + overhead z.net (locals_of z)) (rounds p.quarter n z) z) (sym ends)
      (rounds_are_roomy p.quarter n begun is.rounds is.calm (record { bounds = kept.0; locals = kept.1; fit = fit }) is.enough (subst HasOnlyRefreshes ends only))

  pub a_settled_run_never_crowds : is_crowded_run p ≡ false → DemandsFit begun.net (locals_of begun) → HasOnlyRefreshes ended → length ended.flight + overhead ended.net (locals_of ended) ≤ 8192
      → (n : ℕ) → is_crowded_run (with_rounds n p) ≡ false
  a_settled_run_never_crowds uncrowded fit only most n =
      let more : crowds p.quarter (rounds p.quarter n ended) ended ≡ false =
      never_crowded p.quarter (length ended.flight + overhead ended.net (locals_of ended)) most (rounds p.quarter n ended) ended (settled_rounds_are_roomy fit only n) in
      ap (λ (z : List Step). crowds p.quarter z (first_world p)) (steps_with p.quarter n p.events (first_world p))
      ∙ crowds_neither p.quarter (steps_of_run p) (rounds p.quarter n ended) (first_world p) uncrowded more
