use Rattle.std.proofs.Common.{◌≡◌, ℕ, ◌+◌, None}
use Rattle.calm_rounds.specs.Machine.{run}
use Rattle.network_flight.specs.Events.{a_round, rounds}
use Rattle.network_flight.specs.Steps.{machine}
use Rattle.network_replay.specs.Running.{IsSame}
use Rattle.network_replay.specs.Sights.{round_sights, rounds_sights}
use Rattle.network_replay.proofs.Runnings.{Goes}
use Rattle.network_replay.proofs.Shown.{Shown}
use Rattle.network_replay.proofs.world.World.rounds.Given as goal

abbrev pub invariant-loop-done : goal.invariant-loop-done
invariant-loop-done g l =
    record {
      going : l.self.refused ≡ None;
      same : IsSame l.initial.self l.self;
      goes : (q left : ℕ) → l.done + left ≡ l.times → Goes q l.initial.self.names g.R.Router.seen (a_round q) (rounds q) l.initial.self l.initial.out.items l.self l.out.items l.times left;
      told : (q left : ℕ) → l.done + left ≡ l.times → Shown g.W.Watch.saw g.R.Router.seen q (λ w. run (machine q) (a_round q w) w)
          (λ n w. round_sights q l.times n w (run (machine q) (a_round q w) w)) (rounds_sights q l.times) l.initial.self l.initial.watch l.self l.watch l.times left;
    }
