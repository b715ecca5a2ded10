-- A network in code agrees with a world of the model.
use Rattle.std.specs.Prelude.{◌≡◌, ℕ, ◌-◌, ◌^◌, ◌≤◌, ◌<◌, ◌*◌, min, Bool, false, List, length, Option, None, Some, slice_get}
use Rattle.std.specs.List.{All, AllZip}
use Rattle.rsvp_base.specs.declared.addr.Addr.{Addr}
use Rattle.router_rules.specs.NodeConfig.{NodeConfig}
use Rattle.tree_model.specs.Networks.{Net, ends_of}
use Rattle.network_flight.specs.Worlds.{Item, World, config_of}
use Rattle.network_flight.specs.Parcels.{Parcel}
use Rattle.network_replay.specs.Posting.{Post}
use Rattle.network_replay.specs.Following.{IsArrival, Seen}
use Rattle.network_replay.specs.Routed.{AreRouted}
use Rattle.network_replay.specs.declared.world_err.WorldErr.{WorldErr}

-- a network of routers of a type
pub record NetworkState (R : Type 0) : Type 0 where
  pub quarter : ℕ
  -- what is in flight, along which wires
  pub post : Post
  pub names : List (List ℕ)
  pub nodes : List R
  -- the group and source of each tree of which nodes have a route
  pub trees : List (Addr × Addr)
  pub words : ℕ
  pub delivered : ℕ
  pub trace : Bool
  -- once it has refused an event, the network stands still
  pub refused : Option WorldErr

abbrev pub most_count : ℕ
most_count = 2 ^ 64 - 1

-- each node has as many interfaces as ends
abbrev pub AreWired : Net → List NodeConfig → Type 0
AreWired net places = (n : ℕ) (p : NodeConfig) → slice_get places n ≡ Some p → length p.ifaces ≡ length (ends_of net.ends n)

-- what holds of the fields of every network
pub record IsSteady (q : ℕ) (net : Net) (trees : List (Addr × Addr)) (places : List NodeConfig) : Type 0 where
  pub few : length places ≤ 256
  pub long : 1 ≤ q
  pub short : 4 * q < 2 ^ 32
  pub timed : All (λ p. p.quarter ≡ q) places
  pub wired : AreWired net places
  pub routed : AreRouted trees places

-- a parcel is an item of the model: its bytes are what arrives
pub record IsItem (p : Parcel) (x : Item) : Type 0 where
  pub end : p.end ≡ x.end
  pub dst : p.dst ≡ x.dst
  pub arrival : IsArrival p.bytes x.arrival

abbrev pub AreItems : List Parcel → List Item → Type 0
AreItems ps xs = AllZip IsItem ps xs

module _ {R : Type 0} (see : Seen R) (q : ℕ) where
  -- the router is the node of this number
  pub record IsNode (w : World) (n : ℕ) (r : R) : Type 0 where
    pub place : see.place r ≡ config_of q w.net w.trees n
    pub facts : slice_get w.nodes n ≡ Some (see.facts r w.clock)

  pub record AreNodes (w : World) (rs : List R) : Type 0 where
    pub many : length rs ≡ length w.nodes
    pub all : (n : ℕ) (r : R) → slice_get rs n ≡ Some r → IsNode w n r

  -- nodes of this network, before words of this state are drawn, are those of the world
  pub record AreReady (net : Net) (words : ℕ) (rs : List R) (w : World) : Type 0 where
    pub wired : w.net ≡ net
    pub words_are : words ≡ w.words
    pub nodes : AreNodes w rs

  pub record Agrees (v : NetworkState R) (w : World) : Type 0 where
    pub going : v.refused ≡ None
    pub roomy : v.post.full ≡ false
    pub quarter : v.quarter ≡ q
    pub trees : v.trees ≡ w.trees
    pub net : w.net ≡ v.post.net
    pub nodes : AreNodes w v.nodes
    pub flight : AreItems v.post.flight w.flight
    pub room : length v.post.flight ≤ 8192
    pub words : v.words ≡ w.words
    pub delivered : v.delivered ≡ min w.delivered most_count
    pub trace : v.trace ≡ w.trace
