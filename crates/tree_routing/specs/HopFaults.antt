-- Why a tree cannot grow by a hop: the first rule of a tree that is broken, and by which of several hops.
use Rattle.std.specs.Prelude.{◌≡◌, ℕ, true, false, Bool, List, Some, slice_get, take}
use Rattle.std.specs.List.{list_all}
use Rattle.rsvp_base.specs.declared.addr.Addr.{Addr}
use Rattle.tree_model.specs.declared.hops.LinkHop.{LinkHop}
use Rattle.tree_model.specs.Networks.{Net, node_of}
use Rattle.tree_model.specs.Trees.{IsGrown, is_linked, is_reached, sends_alone}
use Rattle.tree_routing.specs.declared.hop_faults.HopFault.{HopFault}
use Rattle.tree_routing.specs.declared.hop_faults.HopFault.TheVariants.{NoLink, Early, Reversed, Twice, OtherEnd}

-- the hops so far lead to the node that a hop goes out of, and to the one that it goes into
abbrev pub Reach : Net → Addr → List LinkHop → LinkHop → Bool → Bool → Type 0
Reach net s hs h from to = (is_reached net.ends s hs (node_of net.ends h.from) ≡ from) × (is_reached net.ends s hs (node_of net.ends h.to) ≡ to)

-- the tree of the source, which has these hops, cannot grow by this one, for this reason
abbrev pub IsHopFault : Net → Addr → List LinkHop → LinkHop → HopFault → Type 0
IsHopFault net s hs h NoLink = is_linked net.links h ≡ false
IsHopFault net s hs h Early = (is_linked net.links h ≡ true) × Reach net s hs h false false
IsHopFault net s hs h Reversed = (is_linked net.links h ≡ true) × Reach net s hs h false true
IsHopFault net s hs h Twice = (is_linked net.links h ≡ true) × Reach net s hs h true true
IsHopFault net s hs h OtherEnd = (is_linked net.links h ≡ true) × Reach net s hs h true false × (list_all (sends_alone net.links h.from) hs ≡ false)

-- the first of several hops by which the tree cannot grow stands at this place: those before it grow a tree
pub record IsTreeFault (net : Net) (s : Addr) (hops : List LinkHop) (place : ℕ) (why : HopFault) : Type 0 where
  pub hop : LinkHop
  pub stands : slice_get hops place ≡ Some hop
  pub grown : IsGrown net s (take place hops)
  pub fault : IsHopFault net s (take place hops) hop why
