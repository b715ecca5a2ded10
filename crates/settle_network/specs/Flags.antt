-- Policing flags of a settled network (RFC 2205, 3.8): where a path says E_Police, and that what `flags` writes is a function of the
-- network, its senders and its wants.
use Rattle.std.specs.Prelude.{◌≡◌, ◌↔◌, ℕ, ◌<◌, Bool, true, List, length, Some, slice_get}
use Rattle.rsvp_base.specs.declared.addr.Addr.{Addr}
use Rattle.rsvp_base.specs.Members.{In}
use Rattle.rsvp_base.specs.Table.{get}
use Rattle.router_rules.specs.Facts.{Facts, PathState, SenderKey}
use Rattle.tree_model.specs.Goals.{addr_of}
use Rattle.tree_model.specs.Networks.{node_of}
use Rattle.network_model.specs.Bounds.{AreBounds}
use Rattle.network_model.specs.Locals.{locals_of, sender_at}
use Rattle.network_model.specs.Runs.{written}
use Rattle.network_model.specs.Steps.{Flags}
use Rattle.network_model.specs.Worlds.{World}
use Rattle.settle_network.specs.Settled.{HasSettled}

-- ---- E_Police
-- what a Path of a sender says from the end with this address: it has E_Police exactly where the sender is one of that end's node
abbrev pub IsPoliced : World → SenderKey → Addr × Bool → Type 0
IsPoliced w k v = (a : ℕ) → a < length w.net.ends → addr_of w.net a ≡ v.0 → (v.1 ≡ true) ↔ In (sender_at (node_of w.net.ends a) k) (locals_of w).senders

abbrev pub ArePathsPoliced : World → Type 0
ArePathsPoliced w = (n : ℕ) (f : Facts) (k : SenderKey) (x : PathState) → slice_get w.nodes n ≡ Some f → get f.paths k ≡ Some x → IsPoliced w k (x.hop.addr, x.police)

-- ---- all flags
-- the same is asked of the same network
pub record AreAlike (u v : World) : Type 0 where
  pub net : u.net ≡ v.net
  pub locals : locals_of u ≡ locals_of v

-- a settled world whose paths say E_Police where they should
pub record HasSettledFlags (q : ℕ) (u : World) : Type 0 where
  pub bounds : AreBounds q u
  pub settled : HasSettled q u
  pub policed : ArePathsPoliced u

-- settled worlds that are alike write the same flags
abbrev pub FlagsAreAFunction : Type 0
FlagsAreAFunction = (q : ℕ) (u v : World) → HasSettledFlags q u → HasSettledFlags q v → AreAlike u v → (names : List (List ℕ)) → written q names Flags u ≡ written q names Flags v
