-- The routes of nodes, and the trees that they are of.
use Rattle.std.specs.Prelude.{◌≡◌, List, [], map as each}
use Rattle.std.specs.List.{All}
use Rattle.rsvp_base.specs.declared.addr.Addr.{Addr}
use Rattle.router_rules.specs.declared.route.Route.{Route}
use Rattle.router_rules.specs.NodeConfig.{NodeConfig}

-- the tree that a route is of
abbrev pub tree_of : Route → Addr × Addr
tree_of r = (r.group, r.source)

abbrev pub trees_in : List Route → List (Addr × Addr)
trees_in rs = each tree_of rs

-- each node has a route for each of these trees
abbrev pub AreRouted : List (Addr × Addr) → List NodeConfig → Type 0
AreRouted trees places = All (λ p. trees_in p.routes ≡ trees) places

-- where a node stands, but for its routes
abbrev pub bare : NodeConfig → NodeConfig
bare p = record p { routes = [] }
