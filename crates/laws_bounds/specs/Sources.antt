-- Where path state and offers come from.
use Rattle.std.specs.Prelude.{◌≡◌, ℕ, true, Some, None, false}
use Rattle.rsvp_base.specs.Orders.{senders}
use Rattle.rsvp_base.specs.Table.{get, has}
use Rattle.rsvp_base.specs.TokenBucket.{TokenBucket}
use Rattle.router_rules.specs.RsvpMessages.declared.message.Message.TheVariants as message
use Rattle.router_rules.specs.RsvpMessages.declared.message.PathMsg.{PathMsg}
use Rattle.router_rules.specs.Facts.{Facts, PathState, SenderKey}
use Rattle.router_rules.specs.Inputs.{Input, Came, Spelt}
use Rattle.router_rules.specs.Paths.{path_state}
use Rattle.router_rules.specs.NodeConfig.{NodeConfig, comes_in}
use Rattle.router_rules.specs.Offers.{Offer, OfferKey, advert_of, own_advert}

-- ---- a Path that counts: it came to its group, with a sender, by the interface that leads to the sender
pub record CameOnTree (p : NodeConfig) (i : Input) (k : SenderKey) : Type 0 where
  pub at : ℕ
  pub path : PathMsg
  pub tspec : TokenBucket
  pub came : i ≡ Came at k.0.group (Spelt (message.Path path))
  pub session : path.session ≡ k.0
  pub sender : path.sender ≡ Some (k.1, tspec)
  pub tree : comes_in p k.0 at k.1 ≡ true

-- what such a Path says
abbrev pub said_by : (p : NodeConfig) (c : ℕ) (i : Input) (k : SenderKey) → CameOnTree p i k → PathState
said_by p c i k by = path_state p c by.at by.path by.tspec

pub record IsLearnt (p : NodeConfig) (c : ℕ) (i : Input) (k : SenderKey) (x : PathState) : Type 0 where
  pub by : CameOnTree p i k
  pub is : x ≡ said_by p c i k by

-- ---- an offer is of a local sender, with its words, and an ADSPEC that begins here where it is advertised; or else of path state, with
-- those of its Path, whose ADSPEC goes on
pub record IsLocalOffer (f : Facts) (k : OfferKey) (o : Offer) : Type 0 where
  pub there : get f.senders (k.session, k.sender) ≡ Some o.tspec
  pub local : o.local ≡ true
  pub advert : o.advert ≡ own_advert (has f.advertised (k.session, k.sender))

pub record IsPathOffer (f : Facts) (k : OfferKey) (o : Offer) : Type 0 where
  pub no_local : get f.senders (k.session, k.sender) ≡ None
  pub path : PathState
  pub there : get f.paths (k.session, k.sender) ≡ Some path
  pub tspec : o.tspec ≡ path.tspec
  pub local : o.local ≡ false
  pub advert : o.advert ≡ advert_of path.adspec
