use Rattle.std.proofs.Common.{◌≡◌, ℕ, ◌+◌, None, ◌∷◌, []}
use Rattle.std.specs.List.{repeat}
use Rattle.network_flight.specs.Steps.{Deliver}
use Rattle.network_replay.specs.Running.{IsSame}
use Rattle.network_replay.proofs.Runnings.{Goes}
use Rattle.network_replay.proofs.Shown.{ShownSteps}
use Rattle.network_replay.proofs.world.World.pass.Given as goal

abbrev pub invariant-loop : goal.invariant-loop
invariant-loop g l =
    record {
      going : l.self.refused ≡ None;
      same : IsSame l.initial.self l.self;
      goes : (q left : ℕ) → l.counter + left ≡ l.count → Goes q l.initial.self.names g.R.Router.seen (λ w. Deliver 0 ∷ [])
          (λ n w. repeat n (Deliver 0 ∷ [])) l.initial.self l.initial.out.items l.self l.out.items l.count left;
      told : (q left : ℕ) → l.counter + left ≡ l.count → ShownSteps g.W.Watch.saw g.R.Router.seen q (λ w. Deliver 0 ∷ [])
          (λ n w. repeat n (Deliver 0 ∷ [])) l.initial.self l.initial.watch l.self l.watch l.count left;
    }
