-- What is put in flight, as items of the model.
use Rattle.std.specs.Prelude.{◌≡◌, ℕ, List, map as each}
use Rattle.router_rules.specs.Inputs.{Send}
use Rattle.tree_model.specs.Networks.{Net}
use Rattle.network_flight.specs.Links.{all_copies}
use Rattle.network_flight.specs.Worlds.{Item}
use Rattle.network_flight.specs.Parcels.{Parcel}
use Rattle.network_replay.specs.Posting.{Post, put_behind}
use Rattle.network_replay.specs.Agreeing.{AreItems}

-- the items that the sends of a node put in flight, in a step of this number
abbrev pub items_sent : Net → ℕ → ℕ → List Send → List Item
items_sent net born n ss = each (λ x. x.0) (all_copies net born n ss)

-- these items were put behind the others, as many as there is room for
pub record ArePut (old new : Post) (more : List Item) : Type 0 where
  pub parcels : List Parcel
  pub are : AreItems parcels more
  pub net : new.net ≡ old.net
  pub flight : new.flight ≡ (put_behind parcels old).flight
  pub full : new.full ≡ (put_behind parcels old).full
