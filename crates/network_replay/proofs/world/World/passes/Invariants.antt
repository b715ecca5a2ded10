use Rattle.std.proofs.Common.{◌≡◌, ℕ, ◌+◌, None}
use Rattle.network_flight.specs.Events.{pass, passes}
use Rattle.network_replay.specs.Running.{IsSame}
use Rattle.network_replay.proofs.Runnings.{Goes}
use Rattle.network_replay.proofs.Shown.{ShownSteps}
use Rattle.network_replay.proofs.world.World.passes.Given as goal

abbrev pub invariant-loop : goal.invariant-loop
invariant-loop g l =
    record {
      going : l.self.refused ≡ None;
      same : IsSame l.initial.self l.self;
      goes : (q left : ℕ) → l.counter + left ≡ l.times → Goes q l.initial.self.names g.R.Router.seen (pass q) (passes q) l.initial.self l.initial.out.items l.self l.out.items l.times left;
      told : (q left : ℕ) → l.counter + left ≡ l.times → ShownSteps g.W.Watch.saw g.R.Router.seen q (pass q)
          (passes q) l.initial.self l.initial.watch l.self l.watch l.times left;
    }
