use Rattle.std.proofs.Common.{◌≡◌, ℕ, ◌+◌, ◌*◌, ◌∷◌, [], List, None}
use Rattle.std.specs.List.{repeat}
use Rattle.network_flight.specs.Steps.{Piece}
use Rattle.network_replay.specs.Running.{IsSame}
use Rattle.network_replay.proofs.Runnings.{Goes}
use Rattle.network_replay.proofs.Shown.{ShownSteps}
use Rattle.network_replay.proofs.world.World.half_periods.Given as goal

abbrev pub invariant-loop : goal.invariant-loop
invariant-loop g l =
    record {
      going : l.self.refused ≡ None;
      same : IsSame l.initial.self l.self;
      goes : (t : List ℕ) (q left : ℕ) → l.counter + left ≡ l.times → Goes q l.initial.self.names g.R.Router.seen (λ w. Piece (2 * q) ∷ [])
          (λ n w. repeat n (Piece (2 * q) ∷ [])) l.initial.self t l.self t l.times left;
      told : (q left : ℕ) → l.counter + left ≡ l.times → ShownSteps g.W.Watch.saw g.R.Router.seen q (λ u. Piece (2 * q) ∷ [])
          (λ m u. repeat m (Piece (2 * q) ∷ [])) l.initial.self l.initial.watch l.self l.watch l.times left;
    }
