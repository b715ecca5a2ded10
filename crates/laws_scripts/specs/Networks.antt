-- What keeps a network valid: links of two to eight ends, and a tree in the place of another, as a `reroute` line puts it.
use Rattle.std.specs.Prelude.{ℕ, ◌≤◌, List, length}
use Rattle.rsvp_base.specs.Members.{In}
use Rattle.rsvp_base.specs.declared.addr.Addr.{Addr}
use Rattle.network_model.specs.Steps.{rerouted}
use Rattle.tree_model.specs.declared.hops.LinkHop.{LinkHop}
use Rattle.tree_model.specs.Networks.{Net}
use Rattle.tree_model.specs.Ranks.{IsLoopFreeIn}
use Rattle.tree_model.specs.Trees.{IsGrown}
use Rattle.tree_model.specs.Valid.{IsValid}

-- the hops grow a tree from the source, and with it no chain of the group comes back
abbrev pub ANewTreeKeepsANetworkValid : Type 0
ANewTreeKeepsANetworkValid =
    (net : Net) (g s : Addr) (hs : List LinkHop) → IsValid net → length (rerouted net g s hs).hops ≤ 8192 → IsGrown net s hs → IsLoopFreeIn (rerouted net g s hs) g → IsValid (rerouted net g s hs)

-- each link has two to eight ends
abbrev pub HasFitLinks : Net → Type 0
HasFitLinks net = (l : List ℕ) → In l net.links → (2 ≤ length l) × (length l ≤ 8)
