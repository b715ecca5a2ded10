-- What the nodes of a network post is put in flight.
use Rattle.std.specs.Prelude.{ℕ, nat_lt, Bool, ◌||◌, ◌&&◌, List, ◌++◌, map as each, length, take}
use Rattle.std.specs.List.{flat_map}
use Rattle.message_codec.specs.Encoding.{encoding}
use Rattle.message_codec.specs.Written.{is_in_range}
use Rattle.router_rules.specs.Inputs.{Send}
use Rattle.tree_model.specs.Networks.{Net, end_at}
use Rattle.network_flight.specs.Links.{goes_to}
use Rattle.network_flight.specs.Parcels.{Parcel, parcel}

-- what is in flight in a network, and the node that posts
pub record Post : Type 0 where
  pub net : Net
  pub from : ℕ
  pub flight : List Parcel
  -- more was posted than there is room for
  pub full : Bool
  -- all messages that were posted are in range, as those of code are
  pub in_range : Bool

-- these are put behind the others, as many as there is room for
abbrev pub put_behind : List Parcel → Post → Post
put_behind ps m = record m { flight = take 8192 (m.flight ++ ps); full = m.full || nat_lt 8192 (length (m.flight ++ ps)) }

-- a datagram for each end to which a send of a node goes
abbrev pub parcels_of : Net → ℕ → Send → List Parcel
parcels_of net n s = each (parcel s.dst (encoding s.message)) (goes_to net (end_at net.ends n s.iface) s.dst)

abbrev pub all_parcels : Net → ℕ → List Send → List Parcel
all_parcels net n ss = flat_map (parcels_of net n) ss

-- a send of the node that posts
abbrev pub with_post : Post → Send → Post
with_post m s = record (put_behind (parcels_of m.net m.from s) m) { in_range = m.in_range && is_in_range s.message }
