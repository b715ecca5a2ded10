-- The refresh overhead of a network that has settled (RFC 2205, 3.7; RFC 2961 has the word): how many datagrams refresh all that its nodes
-- keep. It is a number of the links, the trees, the senders and the wants alone.
use Rattle.std.specs.Prelude.{ℕ, ◌+◌, ◌==◌, nat_lt, Bool, List, [], ◌∷◌, map as each, length, sum_by}
use Rattle.std.specs.List.{filter, flat_map, list_any, range_with_len}
use Rattle.rsvp_base.specs.declared.session.Session.{Session}
use Rattle.rsvp_base.specs.declared.style.StyleKind.{StyleKind}
use Rattle.rsvp_base.specs.declared.style.StyleKind.TheVariants.{Wild, Fixed, Shared}
use Rattle.rsvp_base.specs.Sets.{Set, set_of}
use Rattle.rsvp_base.specs.Table.{size}
use Rattle.router_rules.specs.Known.{Lane, lane_keys}
use Rattle.tree_model.specs.declared.hops.LinkHop.{LinkHop}
use Rattle.tree_model.specs.declared.locals.LocalSender.{LocalSender}
use Rattle.tree_model.specs.Goals.{addr_of}
use Rattle.tree_model.specs.Networks.{Net, ends_of, iface_of, peers}
use Rattle.tree_model.specs.Trees.{goes_into, tree}
use Rattle.tree_model.specs.Wants.{Locals, want}

-- ---- Paths
-- the sender's tree leaves a node by the end
abbrev pub leaves_by : Net → LocalSender → ℕ → Bool
leaves_by net x e = list_any (λ h. h.from == e) (tree net.hops x.session.group x.sender.addr)

-- of a sender, by each end of the node by which its tree leaves it, a Path to each other end of the link
abbrev pub path_overhead : Net → ℕ → LocalSender → ℕ
path_overhead net n x = sum_by (λ e. length (peers net.links e)) (filter (leaves_by net x) (ends_of net.ends n))

-- ---- Resvs
-- something is wanted over the hop, of the session in the style
abbrev pub is_wanted : Net → Locals → Session → LinkHop → StyleKind → Bool
is_wanted net l s h st = nat_lt 0 (size (want st net l s h))

-- back over the hop: toward the node before it
abbrev pub lane_back : Net → Session → LinkHop → StyleKind → Lane
lane_back net s h st = record { session = s; style = st; hop = (iface_of net.ends h.to, addr_of net h.from) }

abbrev pub lanes_back : Net → Locals → Session → LinkHop → List Lane
lanes_back net l s h = each (lane_back net s h) (filter (is_wanted net l s h) (Wild ∷ Fixed ∷ Shared ∷ []))

-- those of a sender: of its session, back over the hop of its tree that comes into the node
abbrev pub lanes_of_sender : Net → Locals → ℕ → LocalSender → List Lane
lanes_of_sender net l n x = flat_map (lanes_back net l x.session) (filter (goes_into net.ends n) (tree net.hops x.session.group x.sender.addr))

-- in each of them a Resv, however many senders share it
abbrev pub asked_lanes : Net → Locals → ℕ → Set lane_keys
asked_lanes net l n = set_of (flat_map (lanes_of_sender net l n) l.senders)

-- ---- together
-- a node refreshes a Path of each sender over each link by which the sender's tree leaves it, and in each lane in which something is
-- wanted a Resv
abbrev pub node_overhead : Net → Locals → ℕ → ℕ
node_overhead net l n = sum_by (path_overhead net n) l.senders + size (asked_lanes net l n)

abbrev pub overhead : Net → Locals → ℕ
overhead net l = sum_by (node_overhead net l) (range_with_len 0 net.nodes)
