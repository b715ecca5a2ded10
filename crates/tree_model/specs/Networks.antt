-- Networks: nodes, link ends, links, and the hops of all trees (RFC 2205, 1.1 and 2: a session's data goes along multicast
-- trees, reservations the other way).
use Rattle.std.specs.Prelude.{ℕ, ◌+◌, Bool, not, ◌==◌, List, [], ◌∷◌, length, take, Option, None, Some, slice_get, if◌then◌else◌}
use Rattle.std.specs.List.{filter, list_any}
use Rattle.rsvp_base.specs.declared.addr.Addr.{Addr}
use Rattle.tree_model.specs.declared.hops.End.{End}
use Rattle.tree_model.specs.declared.hops.TreeHop.{TreeHop}

-- Nodes are numbered from 0. Ends and links stand in the order in which they were added, a link as the numbers of its ends
-- in order. The hops of all trees stand in the order in which they were added.
pub record Net : Type 0 where
  pub nodes : ℕ
  pub ends : List End
  pub links : List (List ℕ)
  pub hops : List TreeHop

-- ---- ends
abbrev pub node_of_end : Option End → ℕ
node_of_end None = 0
node_of_end (Some e) = e.node

-- the node of the end of this number
abbrev pub node_of : List End → ℕ → ℕ
node_of ends e = node_of_end (slice_get ends e)

-- the ends of a node, by number, where the first of the list has this number
abbrev pub ends_from : ℕ → List End → ℕ → List ℕ
ends_from number [] node = []
ends_from number (e ∷ es) node = if e.node == node then number ∷ ends_from (number + 1) es node else ends_from (number + 1) es node

abbrev pub ends_of : List End → ℕ → List ℕ
ends_of ends node = ends_from 0 ends node

-- interface i of a node is its i-th end
abbrev pub end_at : List End → ℕ → ℕ → Option ℕ
end_at ends node iface = slice_get (ends_of ends node) iface

-- the number of an end among the interfaces of its node: how many of that node stand before it
abbrev pub iface_of : List End → ℕ → ℕ
iface_of ends e = length (ends_of (take e ends) (node_of ends e))

-- the node that has the end of this address
abbrev pub owner : List End → Addr → Option ℕ
owner [] a = None
owner (e ∷ es) a = if e.iface.addr.0 == a.0 then Some e.node else owner es a

-- ---- links
abbrev pub among : ℕ → List ℕ → Bool
among e es = list_any (λ x. x == e) es

-- the ends of the link that an end is in; none where it is in no link
abbrev pub link_of : List (List ℕ) → ℕ → List ℕ
link_of [] e = []
link_of (l ∷ ls) e = if among e l then l else link_of ls e

-- the other ends of its link, in order
abbrev pub peers : List (List ℕ) → ℕ → List ℕ
peers links e = filter (λ x. not (x == e)) (link_of links e)
