-- The run of a script that ends in so many calm rounds.
use Rattle.std.proofs.Common.{◌≡◌, List, sym, ap, subst, ◌∙◌}
use Rattle.calm_rounds.specs.Hold.{Visited}
use Rattle.calm_rounds.specs.Machine.{run}
use Rattle.calm_rounds.specs.Rounds.{run_rounds}
use Rattle.tree_model.specs.Goals.{DemandsFit}
use Rattle.network_model.specs.Bounds.{AreBounds, AreHosts, EndsInCalm, all_of}
use Rattle.network_model.specs.Locals.{locals_of}
use Rattle.network_model.specs.Runs.{Plan, first_world, steps_of_run}
use Rattle.network_model.specs.Steps.{Step, machine}
use Rattle.network_model.specs.Worlds.{World}
use Rattle.laws_network.specs.Runs.{AreFitSenders, IsFitRun}
use Rattle.laws_network.proofs.Hosts.{each_world_of_a_run_keeps_the_locals}
use Rattle.settle_network.proofs.RunsSettle.{visited_at}
use Rattle.settle_network.proofs.Settled.{run_all, run_then}
use Rattle.settle_refreshes.specs.Refreshes.{HasOnlyRefreshes, NothingGoesRound, to_refreshes}
use Rattle.settle_refreshes.proofs.Settled.{ends_in_refreshes}

module _ (p : Plan) (fit_run : IsFitRun p) (senders : AreFitSenders p) (is : EndsInCalm to_refreshes p.quarter (first_world p) (steps_of_run p)) where
  abbrev begun : World
  begun = run (machine p.quarter) is.before (first_world p)

  kept : AreBounds p.quarter begun × AreHosts begun
  kept =
      visited_at p.quarter (λ v. AreBounds p.quarter v × AreHosts v) is.before (all_of is.rounds) (first_world p)
      (subst (λ (z : List Step). Visited (machine p.quarter) (λ v. AreBounds p.quarter v × AreHosts v) z (first_world p)) is.parts (each_world_of_a_run_keeps_the_locals p fit_run senders))

  ends : run (machine p.quarter) (steps_of_run p) (first_world p) ≡ run_rounds (machine p.quarter) is.rounds begun
  ends = ap (λ (z : List Step). run (machine p.quarter) z (first_world p)) is.parts ∙ run_then p.quarter is.before (all_of is.rounds) (first_world p) ∙ run_all p.quarter is.rounds begun

  pub a_run_ends_in_refreshes : DemandsFit begun.net (locals_of begun) → NothingGoesRound begun → HasOnlyRefreshes (run (machine p.quarter) (steps_of_run p) (first_world p))
  a_run_ends_in_refreshes fit none =
      subst HasOnlyRefreshes (sym ends) (ends_in_refreshes p.quarter begun is.rounds is.calm (record { bounds = kept.0; locals = kept.1; fit = fit }) none is.enough)
