-- The refresh overhead as it is counted: Paths by senders and ends, Resvs by sessions, styles and hops.
use Rattle.std.specs.Prelude.{ℕ, ◌+◌, ◌==◌, ◌&&◌, nat_lt, Bool, cond, List, length, map as each, sum_by}
use Rattle.std.specs.List.{filter, list_any, range_with_len}
use Rattle.rsvp_base.specs.Table.{size}
use Rattle.rsvp_base.specs.declared.addr.Addr.{Addr}
use Rattle.rsvp_base.specs.declared.session.Session.{Session}
use Rattle.rsvp_base.specs.declared.style.StyleKind.{StyleKind}
use Rattle.rsvp_base.specs.declared.style.StyleKind.TheVariants.{Wild, Fixed, Shared}
use Rattle.tree_model.specs.Networks.{Net, peers}
use Rattle.tree_model.specs.Ranks.{has_hop}
use Rattle.tree_model.specs.Trees.{tree}
use Rattle.tree_model.specs.Wants.{Locals}
use Rattle.tree_model.specs.declared.hops.LinkHop.{LinkHop}
use Rattle.tree_model.specs.declared.locals.LocalSender.{LocalSender}
use Rattle.tree_routing.specs.declared.group_hop.GroupHop.{GroupHop}
use Rattle.network_demand.specs.Steps.{hop_wants}
use Rattle.network_demand.specs.declared.hop_want.HopWant.{HopWant}

-- ---- Paths
-- a hop of the tree of a group and a source
abbrev pub is_in_tree : Net → Addr → Addr → GroupHop → Bool
is_in_tree net g s x = (x.group.0 == g.0) && has_hop (tree net.hops g s) x.hop

-- the hops of a tree, in the order of all hops
abbrev pub tree_hops : Net → List GroupHop → Addr → Addr → List LinkHop
tree_hops net order g s = each (λ x. x.hop) (filter (is_in_tree net g s) order)

-- over an end a Path to each other end of its link, if one of these hops goes out of it
abbrev pub copies : Net → List LinkHop → ℕ → ℕ
copies net hs e = cond (list_any (λ h. h.from == e) hs) (length (peers net.links e)) 0

abbrev pub all_copies : Net → List LinkHop → ℕ
all_copies net hs = sum_by (copies net hs) (range_with_len 0 (length net.ends))

-- the Paths of a sender, at all nodes
abbrev pub paths_of : Net → LocalSender → ℕ
paths_of net x = all_copies net (tree net.hops x.session.group x.sender.addr)

-- ---- Resvs
abbrev pub is_something : HopWant → Bool
is_something w = nat_lt 0 (size w.parts)

-- over how many hops something is wanted of a session in a style
abbrev pub asked_in : StyleKind → Net → Locals → List GroupHop → Session → ℕ
asked_in st net l order s = length (filter is_something (hop_wants st net l s order))

-- the Resvs of a session, at all nodes
abbrev pub resvs_of : Net → Locals → List GroupHop → Session → ℕ
resvs_of net l order s = asked_in Wild net l order s + (asked_in Fixed net l order s + asked_in Shared net l order s)
