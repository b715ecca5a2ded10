-- The trees of a network move.
use Rattle.std.specs.Prelude.{◌≡◌, ℕ, List}
use Rattle.rsvp_base.specs.declared.addr.Addr.{Addr}
use Rattle.tree_model.specs.declared.hops.LinkHop.{LinkHop}
use Rattle.tree_model.specs.Networks.{Net}
use Rattle.network_flight.specs.Steps.{rerouted}
use Rattle.network_flight.specs.Worlds.{World}
use Rattle.network_replay.specs.Following.{Seen}
use Rattle.network_replay.specs.Agreeing.{AreNodes}

-- the nodes are those of a world, in a network in which these hops are from now on the tree of the group and source
pub record AreMoving {R : Type 0} (see : Seen R) (q : ℕ) (net : Net) (trees : List (Addr × Addr)) (rs : List R) (g s : Addr) (hops : List LinkHop) (w : World) : Type 0 where
  pub net_is : net ≡ rerouted w.net g s hops
  pub trees_are : trees ≡ w.trees
  pub nodes : AreNodes see q w rs
