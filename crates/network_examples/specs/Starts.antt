-- Two starts of convergence at which something is refused, or an error with a flow is in flight: what `nothing_is_refused` promises
-- does not hold yet.
use Rattle.std.specs.Prelude.{◌≡◌, ℕ, suc, ◌+◌, ◌*◌, true}
use Rattle.calm_rounds.specs.Rounds.{Rounds}
use Rattle.tree_model.specs.Ranks.{longest}
use Rattle.network_model.specs.Bounds.{IsStart}
use Rattle.network_model.specs.Sound.{HasNoFlowError, TakesAll}
use Rattle.network_model.specs.Steps.{Step, is_quiet, machine}
use Rattle.laws_network.specs.Example.{pair_net}
use Rattle.laws_network.specs.Rounds.{rounds_of}
use Rattle.settle_resvs.specs.BlockadeExample.{erring_world, refusing_world}

pub record AStartRefuses : Type 0 where
  pub refusing : IsStart 7500 refusing_world
  pub erring : IsStart 7500 erring_world
  -- however many rounds, they are calm
  pub rounds_of_refusing : (k : ℕ) → Rounds (machine 7500) (rounds_of 7500 k refusing_world) refusing_world
  pub rounds_of_erring : (k : ℕ) → Rounds (machine 7500) (rounds_of 7500 k erring_world) erring_world
  pub enough : ((4 + 5 * longest pair_net) + (5 + 5 * longest pair_net)) + suc (longest pair_net) ≡ 21
  pub not_taken : ((s : Step) → is_quiet s ≡ true → TakesAll 7500 s refusing_world) → ⊥
  pub not_gone : HasNoFlowError erring_world → ⊥
