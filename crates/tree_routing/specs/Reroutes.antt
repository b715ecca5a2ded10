-- A tree in the place of another: the network with it, what a routing answers, and the steps of the call.
use Rattle.std.specs.Prelude.{◌≡◌, ℕ, ◌<◌, Bool, not, ◌&&◌, ◌==◌, List, ◌++◌, map as each, Option, None, Some, Result, Ok, Err}
use Rattle.std.specs.List.{filter}
use Rattle.rsvp_base.specs.Members.{In}
use Rattle.rsvp_base.specs.declared.addr.Addr.{Addr}
use Rattle.tree_model.specs.declared.hops.End.{End}
use Rattle.tree_model.specs.declared.hops.LinkHop.{LinkHop}
use Rattle.tree_model.specs.declared.hops.TreeHop.{TreeHop}
use Rattle.tree_model.specs.Networks.{Net}
use Rattle.tree_model.specs.Trees.{of_group, of_tree, IsGrown}
use Rattle.tree_model.specs.Ranks.{IsLoopFreeIn}
use Rattle.tree_routing.specs.declared.known.Known.{Known}
use Rattle.tree_routing.specs.declared.hop_err.HopErr.{HopErr}
use Rattle.tree_routing.specs.declared.hop_err.HopErr.TheVariants.{NotTree, Loop, NoMemory}
use Rattle.tree_routing.specs.Answers.{IsUpTo, IsLeastOnLoop}
use Rattle.tree_routing.specs.Checks.{Closes}
use Rattle.tree_routing.specs.Known.{plain, vertex_at, vertex_before}

abbrev pub tree_hop : Addr → Addr → LinkHop → TreeHop
tree_hop g s h = record { group = g; source = s; hop = h }

-- the hops of other trees, and behind them these as the tree of the group and source
abbrev pub moved : Addr → Addr → List LinkHop → List TreeHop → List TreeHop
moved g s hops rs = filter (λ r. not (of_tree g s r)) rs ++ each (tree_hop g s) hops

-- the hops as the tree of the group and source, in place of those that it has
abbrev pub rerouted : Net → Addr → Addr → List LinkHop → Net
rerouted net g s hops = record net { hops = moved g s hops net.hops }

-- with other hops
abbrev pub with_hops : Net → List TreeHop → Net
with_hops net rs = record net { hops = rs }

-- a hop of another tree, and of another tree of the group
abbrev pub is_other : Addr → Addr → TreeHop → Bool
is_other g s r = not (of_tree g s r)

abbrev pub is_beside : Addr → Addr → TreeHop → Bool
is_beside g s r = of_group g r && not (r.source.0 == s.0)

-- the network with the hops of one group alone
abbrev pub part : Addr → Net → Net
part g net = record net { hops = filter (of_group g) net.hops }

-- the hops of all other groups stay
abbrev pub StayOthers : Addr → List TreeHop → List TreeHop → Type 0
StayOthers g old new = (h : Addr) → (g ≡ h → ⊥) → filter (of_group h) new ≡ filter (of_group h) old

-- taken: the hops are a tree, and with it no chain of the group is closed. No tree: they are none. A loop: they are one, and
-- with it this is the least hop on a closed chain of the group
abbrev pub RerouteAnswer : {R : Type 0} → Net → Addr → Addr → List LinkHop → Result R HopErr → Type 0
RerouteAnswer net g s hops (Ok r) = IsGrown net s hops × IsLoopFreeIn (rerouted net g s hops) g
RerouteAnswer net g s hops (Err NotTree) = IsGrown net s hops → ⊥
RerouteAnswer net g s hops (Err (Loop group from to)) = IsGrown net s hops × (group ≡ g) × IsLeastOnLoop (rerouted net g s hops) g (record { from = from; to = to })
RerouteAnswer net g s hops (Err NoMemory) = Unit {0}

-- ---- what is kept of hops
-- each is at the place where its hop of its group stands first
abbrev pub ArePlaced : List Known → Type 0
ArePlaced ks = (k : Known) → In k ks → k.vertex ≡ vertex_at ks k.hop.group k.hop.hop

-- one more hop, whose hop before it is not looked for
abbrev pub placed : List Known → TreeHop → Known
placed ks r = record { hop = r; vertex = vertex_at ks r.group r.hop; before = None }

-- with the hop before it
abbrev pub with_before : List End → List Known → Known → Known
with_before ends ks k = record { hop = k.hop; vertex = k.vertex; before = vertex_before ends k.hop ks }

-- the hops are refused: they grow no tree, or there was no room
abbrev pub IsRefused : Net → Addr → List LinkHop → HopErr → Type 0
IsRefused net s hops NotTree = IsGrown net s hops → ⊥
IsRefused net s hops (Loop group from to) = ⊥
IsRefused net s hops NoMemory = Unit {0}

-- the hops grow a tree, and stand behind those before
abbrev pub GrownAnswer : Net → Addr → Addr → List LinkHop → List Known → List Known → Result (Unit {0}) HopErr → Type 0
GrownAnswer net g s hops old new (Ok u) = IsGrown net s hops × (plain new ≡ plain old ++ each (tree_hop g s) hops) × ArePlaced new
GrownAnswer net g s hops old new (Err why) = IsRefused net s hops why

-- ---- closed chains
-- a hop of the group that stands on a closed chain
abbrev pub ClosesIn : List Known → Addr → Known → Type 0
ClosesIn ks g k = (k.hop.group ≡ g) × Closes ks k

-- the least of those of these that stand on a closed chain; none where none does
abbrev pub IsLeastClosed : List Known → List Known → Addr → Option LinkHop → Type 0
IsLeastClosed ks some g None = (k : Known) → In k some → ClosesIn ks g k → ⊥
IsLeastClosed ks some g (Some h) = ((k : Known) × In k some × ClosesIn ks g k × (h ≡ k.hop.hop)) × ((k : Known) → In k some → ClosesIn ks g k → IsUpTo h k.hop.hop)

-- a hop of the group on a closed chain that comes before the least so far
abbrev pub IsLess : LinkHop → Option LinkHop → Type 0
IsLess h None = Unit {0}
IsLess h (Some l) = IsUpTo l h → ⊥

abbrev pub IsLesserClosed : List Known → Addr → Known → Option LinkHop → Type 0
IsLesserClosed ks g k least = IsLess k.hop.hop least × ClosesIn ks g k

-- the vertex of the hop before each is below this number
abbrev pub AreBefore : ℕ → List Known → Type 0
AreBefore n ks = (k : Known) → In k ks → (a : ℕ) → k.before ≡ Some a → a < n
