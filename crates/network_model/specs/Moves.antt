-- Trees that can move.
use Rattle.std.specs.Prelude.{◌≤◌, List, length}
use Rattle.rsvp_base.specs.declared.addr.Addr.{Addr}
use Rattle.tree_model.specs.declared.hops.LinkHop.{LinkHop}
use Rattle.tree_model.specs.Networks.{Net}
use Rattle.tree_model.specs.Ranks.{IsLoopFreeIn}
use Rattle.tree_model.specs.Trees.{IsGrown}
use Rattle.network_model.specs.Steps.{rerouted}

-- hops can be the tree of a group and source: there is room for them beside the other trees, they grow from the node of the
-- source, and with them no chain of the group is closed
pub record CanMove (net : Net) (g s : Addr) (hops : List LinkHop) : Type 0 where
  pub room : length (rerouted net g s hops).hops ≤ 8192
  pub grown : IsGrown net s hops
  pub loop_free : IsLoopFreeIn (rerouted net g s hops) g
