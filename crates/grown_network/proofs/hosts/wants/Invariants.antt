use Rattle.std.proofs.Common.{◌≡◌, ◌+◌, ◌*◌}
use Rattle.network_model.specs.Steps.{state_after}
use Rattle.grown_network.specs.Hosts.{wants_up_to}
use Rattle.grown_network.proofs.hosts.wants.Given as goal

abbrev pub invariant-loop-node : goal.invariant-loop-node
invariant-loop-node l = record { state : l.words.state ≡ state_after (3 + 3 * l.node) l.seed; all : l.all.items ≡ wants_up_to l.seed l.node }
