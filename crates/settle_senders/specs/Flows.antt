-- A host that sends already says another flow: what its paths keep comes to be the new one, by passes alone.
use Rattle.std.specs.Prelude.{◌≡◌, ℕ}
use Rattle.rsvp_base.specs.Members.{In}
use Rattle.rsvp_base.specs.TokenBucket.{TokenBucket}
use Rattle.rsvp_messages.specs.declared.message.Message.TheVariants as message
use Rattle.rsvp_messages.specs.declared.message.PathMsg.{PathMsg}
use Rattle.router_rules.specs.Inputs.{Spelt}
use Rattle.network_model.specs.Worlds.{Item, World}
use Rattle.settle_passes.specs.Calls.{HasItsPaths}
use Rattle.settle_senders.specs.Readings.{AreOffersKept, ArePathsThere, AreRooted, Reading}

-- what is read is the flow
abbrev pub flows : Reading TokenBucket
flows = record { kept = λ x. x.tspec; carried = λ m t. t; offered = λ on o. o.tspec }

-- ---- a network whose paths are there, whatever flows they keep, and in which over each hop of a tree the flow that the node before it offers
-- is kept behind it once all that is on its way has arrived
pub record IsTelling (q : ℕ) (w : World) : Type 0 where
  pub rooted : AreRooted q w
  pub there : ArePathsThere w
  pub offers : AreOffersKept flows w

-- a network that has its paths, each with the flow that its sender sends, and in which no Path is in flight
pub record HasItsFlows (q : ℕ) (w : World) : Type 0 where
  pub paths : HasItsPaths q w
  pub no_path : (y : Item) (m : PathMsg) → In y w.flight → y.arrival ≡ Spelt (message.Path m) → ⊥
