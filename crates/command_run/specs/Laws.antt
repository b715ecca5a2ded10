-- Laws of the command line.
use Rattle.std.specs.Prelude.{◌≡◌, [], ◌∷◌, None, Some, codes}
use Rattle.command_run.specs.Orders.{order_of}
use Rattle.command_run.specs.declared.order.Order.TheVariants.{Replay, Demand, Show, Grow, Node, Police}

-- the words that a user writes are the orders that they name
pub record EachVerbIsAnOrder : Type 0 where
  pub replay : order_of (codes "replay" ∷ []) ≡ Some Replay
  pub demand : order_of (codes "demand" ∷ []) ≡ Some Demand
  pub show : order_of (codes "show" ∷ []) ≡ Some Show
  pub grow : order_of (codes "grow" ∷ []) ≡ Some (Grow 1)
  pub node : order_of (codes "node" ∷ []) ≡ Some Node
  pub police : order_of (codes "police" ∷ []) ≡ Some Police
  pub seeded : order_of (codes "grow" ∷ codes "--seed" ∷ codes "7" ∷ []) ≡ Some (Grow 7)
  pub zeros_first : order_of (codes "grow" ∷ codes "--seed" ∷ codes "01" ∷ []) ≡ Some (Grow 1)
  pub joined : order_of (codes "--seed=18446744073709551615" ∷ codes "grow" ∷ []) ≡ Some (Grow 18446744073709551615)

-- other words are no order
pub record OtherWordsAreNone : Type 0 where
  pub nothing : order_of [] ≡ None
  pub help : order_of (codes "--help" ∷ []) ≡ None
  pub version : order_of (codes "--version" ∷ []) ≡ None
  pub unknown : order_of (codes "Replay" ∷ []) ≡ None
  pub twice : order_of (codes "replay" ∷ codes "replay" ∷ []) ≡ None
  pub seed_of_another : order_of (codes "replay" ∷ codes "--seed" ∷ codes "3" ∷ []) ≡ None
  pub seed_of_a_router : order_of (codes "node" ∷ codes "--seed" ∷ codes "3" ∷ []) ≡ None
  pub no_seed : order_of (codes "grow" ∷ codes "--seed" ∷ []) ≡ None
  pub no_number : order_of (codes "grow" ∷ codes "--seed" ∷ codes "-1" ∷ []) ≡ None
  pub signed : order_of (codes "grow" ∷ codes "--seed" ∷ codes "+1" ∷ []) ≡ None
  pub too_long : order_of (codes "grow" ∷ codes "--seed" ∷ codes "000000000000000000001" ∷ []) ≡ None
  pub too_large : order_of (codes "grow" ∷ codes "--seed" ∷ codes "18446744073709551616" ∷ []) ≡ None
