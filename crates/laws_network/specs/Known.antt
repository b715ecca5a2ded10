-- Worlds to which quiet steps lead: within bounds, with one network of which the same is asked.
use Rattle.std.specs.Prelude.{◌≡◌, ℕ, Option, slice_get}
use Rattle.std.specs.Option.{option_map}
use Rattle.rsvp_base.specs.Sets.{Set}
use Rattle.network_model.specs.RouterRules.Facts.{sender_keys}
use Rattle.network_model.specs.Bounds.{AreBounds}
use Rattle.network_model.specs.Locals.{locals_of, senders_at}
use Rattle.network_model.specs.Worlds.{World}

-- the local senders of a node that are advertised
abbrev pub advertised_at : World → ℕ → Option (Set sender_keys)
advertised_at w n = option_map (λ f. f.advertised) (slice_get w.nodes n)

-- the network, its routes, the local senders with what they send and which of them are advertised, and the local wants are those of another
-- world. So what is wanted over each hop, the goal of each node and the demand of each end are, which are functions of them, and so is what
-- is told of each sender
pub record IsSameNet (w u : World) : Type 0 where
  pub net : u.net ≡ w.net
  pub trees : u.trees ≡ w.trees
  pub senders : (n : ℕ) → senders_at u n ≡ senders_at w n
  pub advertised : (n : ℕ) → advertised_at u n ≡ advertised_at w n
  pub locals : locals_of u ≡ locals_of w

-- a world within bounds, with the network of w, of which the same is asked
pub record IsKnown (q : ℕ) (w u : World) : Type 0 where
  pub bounds : AreBounds q u
  pub same : IsSameNet w u
