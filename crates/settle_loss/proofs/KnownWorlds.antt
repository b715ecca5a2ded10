-- Quiet steps keep a world within bounds, and its network with all that is asked of it.
use Rattle.std.proofs.Common.{◌≡◌, ℕ, List, true, refl}
use Rattle.calm_rounds.specs.Rounds.{AreQuiet}
use Rattle.calm_rounds.specs.Hold.{Visited}
use Rattle.calm_rounds.proofs.Holding.{visited_keep}
use Rattle.network_model.specs.Bounds.{AreBounds}
use Rattle.network_model.specs.Steps.{Step, step, is_calm, machine}
use Rattle.network_model.specs.Worlds.{World}
use Rattle.network_model.proofs.Machines.{quiet_of}
use Rattle.calm_rounds.proofs.Renewed.{visited_any}
use Rattle.laws_network.specs.Known.{IsKnown}
use Rattle.laws_network.proofs.Keeping.{calm_fit, each_step_keeps_a_world_within_bounds}
use Rattle.laws_network.proofs.Known.{same_kept}

pub known_step : (q : ℕ) (o : World) (s : Step) (u : World) → is_calm q s ≡ true → IsKnown q o u → IsKnown q o (step q s u)
known_step q o s u calm a = record {
  bounds = each_step_keeps_a_world_within_bounds q u s (calm_fit q s u calm) a.bounds;
  same = same_kept q s u (quiet_of q s calm) a.bounds o a.same;
}

pub known_at_first : (q : ℕ) (w : World) → AreBounds q w → IsKnown q w w
known_at_first q w bounds = record { bounds = bounds; same = record { net = refl; trees = refl; senders = λ n. refl; advertised = λ n. refl; locals = refl } }

pub known_visited : (q : ℕ) (w : World) (ss : List Step) → AreQuiet (machine q) ss → AreBounds q w → Visited (machine q) (IsKnown q w) ss w
known_visited q w ss quiet bounds =
    visited_keep (machine q) (λ _. Unit {0}) (IsKnown q w) (λ s u calm _ _ a. known_step q w s u calm a) ss w quiet (visited_any (machine q) ss w) (known_at_first q w bounds)
