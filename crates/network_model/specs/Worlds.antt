-- Worlds: a network at a moment. The facts of its nodes, what is in flight, and the trees that are in force.
use Rattle.std.specs.Prelude.{ℕ, ◌^◌, Bool, List, [], ◌∷◌, map as each, Option, None, Some, bit_or, slice_get}
use Rattle.rsvp_base.specs.declared.addr.Addr.{Addr}
use Rattle.rsvp_base.specs.declared.iface.Iface.{Iface}
use Rattle.router_examples.specs.RouterRules.declared.route.Route.{Route}
use Rattle.router_examples.specs.RouterRules.Facts.{Facts}
use Rattle.router_examples.specs.RouterRules.Inputs.{Arrival}
use Rattle.router_examples.specs.RouterRules.NodeConfig.{NodeConfig}
use Rattle.tree_model.specs.declared.hops.End.{End}
use Rattle.tree_model.specs.Networks.{Net, ends_of, iface_of}
use Rattle.tree_model.specs.Trees.{iface_in, inward, outward}

-- ---- items: datagrams on their way, each to an end. A copy keeps the number of its original
pub record Item : Type 0 where
  -- the end to which it goes
  pub end : ℕ
  pub dst : Addr
  pub arrival : Arrival
  -- the number of the step that first sent it
  pub born : ℕ

pub record World : Type 0 where
  -- the routing in force is that of its hops
  pub net : Net
  -- the groups and sources for which nodes have a route
  pub trees : List (Addr × Addr)
  -- in milliseconds
  pub clock : ℕ
  -- by the number of the node
  pub nodes : List Facts
  -- the state of the words
  pub words : ℕ
  pub trace : Bool
  -- how many items were delivered, and how many steps made
  pub delivered : ℕ
  pub made : ℕ
  -- in the order of sending
  pub flight : List Item

-- ---- where a node stands
-- numbers as bits: bit i where i is among them
abbrev pub bits_of : List ℕ → ℕ
bits_of [] = 0
bits_of (i ∷ is) = bit_or (bits_of is) (2 ^ i)

-- how a node lies in the tree of a group and source
abbrev pub route_of : Net → ℕ → Addr × Addr → Route
route_of net n t = record {
  group = t.0;
  source = t.1;
  inward = iface_in net.ends (inward net n t.0 t.1);
  outward = bits_of (each (iface_of net.ends) (outward net n t.0 t.1));
}

-- the interfaces of the ends of these numbers
abbrev pub with_iface : Option End → List Iface → List Iface
with_iface None is = is
with_iface (Some e) is = e.iface ∷ is

abbrev pub ifaces_at : List End → List ℕ → List Iface
ifaces_at ends [] = []
ifaces_at ends (e ∷ es) = with_iface (slice_get ends e) (ifaces_at ends es)

-- where a node stands in a network, with routes for these trees; quarter is a quarter of the refresh period
abbrev pub config_of : ℕ → Net → List (Addr × Addr) → ℕ → NodeConfig
config_of quarter net trees n = record { quarter = quarter; ifaces = ifaces_at net.ends (ends_of net.ends n); routes = each (route_of net n) trees }
