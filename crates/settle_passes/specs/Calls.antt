-- A host begins to send, or ends: what holds when it does.
use Rattle.std.specs.Prelude.{◌≡◌, ℕ, true, Some, slice_get}
use Rattle.rsvp_base.specs.Members.{In}
use Rattle.rsvp_base.specs.Table.{has}
use Rattle.rsvp_base.specs.TokenBucket.{TokenBucket}
use Rattle.rsvp_messages.specs.declared.message.Message.TheVariants as message
use Rattle.rsvp_messages.specs.declared.message.PathMsg.{PathMsg}
use Rattle.router_rules.specs.Facts.{Facts, SenderKey}
use Rattle.router_rules.specs.Inputs.{DropAs, SendAs, Spelt}
use Rattle.network_model.specs.Bounds.{AreBounds, AreHosts}
use Rattle.network_model.specs.Locals.{IsLive}
use Rattle.network_model.specs.Sound.{ArePathsComplete, ArePathsSound}
use Rattle.network_model.specs.Steps.{At, step}
use Rattle.network_model.specs.Worlds.{Item, World}
use Rattle.settle_passes.specs.Passes.{HasNoPathTear}

-- paths are those of the live senders, at each hop of their trees, and nothing in flight tears one down. So it is when a network has
-- settled and nothing is in flight
pub record HasItsPaths (q : ℕ) (w : World) : Type 0 where
  pub bounds : AreBounds q w
  pub hosts : AreHosts w
  pub sound : ArePathsSound w
  pub complete : ArePathsComplete w
  pub no_tear : HasNoPathTear w

-- nobody sends as this sender
abbrev pub IsNew : World → SenderKey → Type 0
IsNew w k = (t : TokenBucket) → IsLive w k t → ⊥

-- the world after a host at the node begins to send
abbrev pub after_send : ℕ → ℕ → SenderKey → TokenBucket → World → World
after_send q n k t w = step q (At n (SendAs k.0 k.1 t)) w

-- ---- a host ends
-- no Path of the sender is in flight
abbrev pub HasNoPathOf : World → SenderKey → Type 0
HasNoPathOf w k = (y : Item) (m : PathMsg) (t : TokenBucket) → In y w.flight → y.arrival ≡ Spelt (message.Path m) → m.session ≡ k.0 → m.sender ≡ Some (k.1, t) → ⊥

-- a host at the node sends as this sender
pub record SendsAt (w : World) (n : ℕ) (k : SenderKey) : Type 0 where
  pub facts : Facts
  pub there : slice_get w.nodes n ≡ Some facts
  pub sends : has facts.senders k ≡ true

-- the world after it ends
abbrev pub after_drop : ℕ → ℕ → SenderKey → World → World
after_drop q n k w = step q (At n (DropAs k.0 k.1)) w
