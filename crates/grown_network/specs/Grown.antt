-- The network that a seed grows, and the plan of its run.
use Rattle.std.specs.Prelude.{ℕ, ◌+◌, ◌*◌, false, List, [], ◌∷◌, ◌++◌, map as each, None}
use Rattle.std.specs.List.{flat_map}
use Rattle.router_rules.specs.Calls.{wanted}
use Rattle.router_rules.specs.Inputs.{SendAs, WantAs}
use Rattle.tree_model.specs.Networks.{Net}
use Rattle.tree_model.specs.Ranks.{longest}
use Rattle.tree_model.specs.declared.hops.TreeHop.{TreeHop}
use Rattle.tree_model.specs.declared.locals.LocalSender.{LocalSender}
use Rattle.tree_model.specs.declared.locals.LocalWant.{LocalWant}
use Rattle.tree_model.specs.Wants.{Locals}
use Rattle.network_model.specs.Events.{Event, AtNode, Reports, Rounds}
use Rattle.network_model.specs.Locals.{want_at}
use Rattle.network_model.specs.Runs.{Plan}
use Rattle.network_model.specs.Steps.{tree_hop}
use Rattle.grown_network.specs.Hops.{hops_away}
use Rattle.grown_network.specs.Hosts.{flow_of, senders, session_of, wants}
use Rattle.grown_network.specs.Nodes.{ends_up_to, links_up_to, names_up_to}
use Rattle.grown_network.specs.declared.hosts.Wanted.{Wanted}

-- ---- the network: each sender has the tree of all hops that lead away from its node
abbrev pub tree_of : LocalSender → List TreeHop
tree_of x = each (tree_hop x.session.group x.sender.addr) (hops_away x.node)

-- with these trees
abbrev pub net_with : List TreeHop → Net
net_with hops = record { nodes = 64; ends = ends_up_to 63; links = links_up_to 63; hops = hops }

abbrev pub grown_net : ℕ → Net
grown_net seed = net_with (flat_map tree_of (senders seed))

-- ---- what its hosts ask: the senders, and what the calls for a want make wanted at its node
abbrev pub local_wants : Wanted → List LocalWant
local_wants w = each (want_at w.node) (wanted (session_of w.style) w.style w.senders w.flow false)

abbrev pub asked : ℕ → Locals
asked seed = record { senders = senders seed; wants = flat_map local_wants (wants seed) }

-- ---- the run: all sends, all wants, rounds enough to settle, and a report
abbrev pub send_event : LocalSender → Event
send_event x = AtNode x.node (SendAs x.session x.sender (flow_of 1000))

abbrev pub want_event : Wanted → Event
want_event w = AtNode w.node (WantAs (session_of w.style) w.style w.senders w.flow false)

abbrev pub rounds_of : ℕ → ℕ
rounds_of seed = 16 * longest (grown_net seed) + 16

abbrev pub events : ℕ → List Event
events seed = each send_event (senders seed) ++ (each want_event (wants seed) ++ Rounds (rounds_of seed) ∷ Reports None ∷ [])

unfoldable pub grown_plan : ℕ → Plan
grown_plan seed = record { quarter = 7500; seed = seed; net = grown_net seed; names = names_up_to 63; stale = []; events = events seed }
