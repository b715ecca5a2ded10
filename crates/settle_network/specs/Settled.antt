-- A settled network: what holds of each world from so many calm rounds on.
use Rattle.std.specs.Prelude.{◌≡◌, ℕ, ◌<◌, true, length, Some, slice_get}
use Rattle.router_rules.specs.Books.{book}
use Rattle.router_rules.specs.Facts.{Facts}
use Rattle.tree_model.specs.Goals.{demand_of}
use Rattle.tree_model.specs.Networks.{node_of, iface_of}
use Rattle.network_model.specs.Locals.{locals_of}
use Rattle.network_model.specs.Sound.{ArePathsComplete, ArePathsSound, AreResvsExact, AreResvsSound, HasNoFlowError, IsFreeOfBlockade, TakesAll}
use Rattle.network_model.specs.Steps.{Step, is_quiet}
use Rattle.network_model.specs.Worlds.{World}

-- the book of each end, as its node keeps it, is the demand of the end: of each session and style, the merge of what is wanted over
-- its hops
abbrev pub AreBooksDemands : World → Type 0
AreBooksDemands u = (e : ℕ) (f : Facts) → e < length u.net.ends → slice_get u.nodes (node_of u.net.ends e) ≡ Some f → book f (iface_of u.net.ends e) ≡ demand_of u.net (locals_of u) e

-- paths are the trees of the live senders, reservations are the wants, books are the demands, whatever arrives is taken whole, and nothing is left of
-- refusals and blockades
pub record HasSettled (q : ℕ) (u : World) : Type 0 where
  pub paths_sound : ArePathsSound u
  pub paths_complete : ArePathsComplete u
  pub resvs_sound : AreResvsSound u
  pub resvs_exact : AreResvsExact u
  pub books : AreBooksDemands u
  pub takes_all : (s : Step) → is_quiet s ≡ true → TakesAll q s u
  pub no_flow_error : HasNoFlowError u
  pub no_blockade : IsFreeOfBlockade u
