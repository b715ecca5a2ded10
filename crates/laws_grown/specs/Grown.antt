-- The world of a seed behind the calls of its hosts, before anything is delivered.
use Rattle.std.specs.Prelude.{ℕ, List, ◌++◌, false, map as each}
use Rattle.calm_rounds.specs.Machine.{run}
use Rattle.router_rules.specs.Inputs.{SendAs, WantAs}
use Rattle.tree_model.specs.declared.locals.LocalSender.{LocalSender}
use Rattle.network_model.specs.Runs.{first_world}
use Rattle.network_model.specs.Steps.{At, Step, machine}
use Rattle.network_model.specs.Worlds.{World}
use Rattle.grown_network.specs.declared.hosts.Wanted.{Wanted}
use Rattle.grown_network.specs.Grown.{grown_plan}
use Rattle.grown_network.specs.Hosts.{flow_of, senders, session_of, wants}

abbrev pub send_step : LocalSender → Step
send_step x = At x.node (SendAs x.session x.sender (flow_of 1000))

abbrev pub want_step : Wanted → Step
want_step w = At w.node (WantAs (session_of w.style) w.style w.senders w.flow false)

abbrev pub calls_of : ℕ → List Step
calls_of seed = each send_step (senders seed) ++ each want_step (wants seed)

abbrev pub behind_calls : ℕ → World
behind_calls seed = run (machine 7500) (calls_of seed) (first_world (grown_plan seed))
