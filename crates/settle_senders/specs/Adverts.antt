-- A sender is advertised: what its paths keep comes to be the advertisements of their ways, by passes alone.
use Rattle.std.specs.Prelude.{◌≡◌, ℕ, Option}
use Rattle.rsvp_base.specs.Members.{In}
use Rattle.rsvp_messages.specs.RsvpObjects.declared.adspec.Adspec.{Adspec}
use Rattle.rsvp_messages.specs.declared.message.Message.TheVariants as message
use Rattle.rsvp_messages.specs.declared.message.PathMsg.{PathMsg}
use Rattle.router_rules.specs.Facts.{SenderKey}
use Rattle.router_rules.specs.Inputs.{AdvertAs, Spelt}
use Rattle.router_rules.specs.Offers.{advert_by}
use Rattle.network_model.specs.Steps.{At, step}
use Rattle.network_model.specs.Worlds.{Item, World}
use Rattle.settle_adverts.specs.Adverts.{AreAdvertsExact}
use Rattle.settle_passes.specs.Calls.{HasItsPaths}
use Rattle.settle_passes.specs.Passes.{AreSpreading}
use Rattle.settle_senders.specs.Readings.{AreOffersKept, IsFromATree, Reading}

-- what is read is an ADSPEC or none: a node offers what the interface makes of it
abbrev pub adverts : Reading (Option Adspec)
adverts = record { kept = λ x. x.adspec; carried = λ m t. m.adspec; offered = λ on o. advert_by on o.advert }

-- ---- a network in which paths spread, and in which over each hop of a tree the ADSPEC that the node before it offers, or none, is kept behind it
-- once all that is on its way has arrived
pub record AreAdvertising (q : ℕ) (w : World) : Type 0 where
  pub paths : AreSpreading q w
  pub from : (y : Item) → In y w.flight → IsFromATree w.net y
  pub offers : AreOffersKept adverts w

-- a network that has its paths, and with each the advertisement of its way or none, and in which no Path is in flight
pub record HasItsAdverts (q : ℕ) (w : World) : Type 0 where
  pub paths : HasItsPaths q w
  pub exact : AreAdvertsExact w
  pub no_path : (y : Item) (m : PathMsg) → In y w.flight → y.arrival ≡ Spelt (message.Path m) → ⊥

-- the world after a host at the node advertises
abbrev pub after_advert : ℕ → ℕ → SenderKey → World → World
after_advert q n k w = step q (At n (AdvertAs k.0 k.1)) w
