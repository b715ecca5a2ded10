-- What a node offers: each known sender, by each interface by which its tree goes on (RFC 2205, 3.1.3; RFC 2209, 2:
-- PATH REFRESH, the OutInterface_list of a PSB).
use Rattle.std.specs.Prelude.{◌≡◌, ℕ, Bool, true, false, List, map as each, Option, Some, None, ◌++◌}
use Rattle.std.specs.List.{flat_map}
use Rattle.std.specs.Option.{option_map}
use Rattle.adspec_path.specs.Composing.{pass_on, start}
use Rattle.rsvp_base.specs.declared.iface.Iface.{Iface}
use Rattle.rsvp_base.specs.declared.session.Sender.{Sender}
use Rattle.rsvp_base.specs.declared.session.Session.{Session}
use Rattle.rsvp_base.specs.Keys.{Keys, numbers, by, pairs}
use Rattle.rsvp_base.specs.Orders.{sessions, senders}
use Rattle.rsvp_base.specs.Table.{Table, get, has, keys}
use Rattle.rsvp_base.specs.TokenBucket.{TokenBucket}
use Rattle.rsvp_messages.specs.RsvpObjects.declared.adspec.Adspec.{Adspec}
use Rattle.style_rules.specs.Merge.{table_at}
use Rattle.style_rules.specs.Toward.{or_else}
use Rattle.router_rules.specs.Facts.{Facts, PathState, SenderKey}
use Rattle.router_rules.specs.NodeConfig.{NodeConfig, outward}
use Rattle.router_rules.specs.declared.advert.Advert.{Advert}
use Rattle.router_rules.specs.declared.advert.Advert.TheVariants.{Silent, Begins, Passes}

pub record OfferKey : Type 0 where
  pub session : Session
  pub sender : Sender
  pub iface : ℕ

pub offer_apart : (a b : OfferKey) → ◌≡◌ {A = Session × (Sender × ℕ)} (a.session, (a.sender, a.iface)) (b.session, (b.sender, b.iface)) → a ≡ b
offer_apart a b e = λ i. record { session = (e i).0; sender = (e i).1.0; iface = (e i).1.1 }

abbrev pub offer_keys : Keys OfferKey
offer_keys = by (λ (k : OfferKey). (k.session, (k.sender, k.iface))) offer_apart (pairs sessions (pairs senders numbers))

-- what a sender sends, whether it is a local one, and where what is told of its path comes from
pub record Offer : Type 0 where
  pub tspec : TokenBucket
  pub local : Bool
  pub advert : Advert

abbrev pub Offers : Type 0
Offers = Table offer_keys Offer

-- the ADSPEC that a path keeps goes on (RFC 2210, 3.3)
abbrev pub advert_of : Option Adspec → Advert
advert_of None = Silent
advert_of (Some kept) = Passes kept

-- where a local sender is advertised, what is told begins here
abbrev pub own_advert : Bool → Advert
own_advert true = Begins
own_advert false = Silent

-- of a local sender by its own words, and of a sender that has a path by those of the path
abbrev pub own_offer : Bool → TokenBucket → Offer
own_offer advertised flow = record { tspec = flow; local = true; advert = own_advert advertised }

abbrev pub path_offer : PathState → Offer
path_offer path = record { tspec = path.tspec; local = false; advert = advert_of path.adspec }

-- what is told by an interface: of what came, what the interface makes of it
abbrev pub advert_by : Option Iface → Advert → Option Adspec
advert_by on Silent = None
advert_by on Begins = option_map start on
advert_by on (Passes kept) = option_map (pass_on kept) on

-- of a local sender its own words, else those of its path
abbrev pub offer_at : Facts → OfferKey → Option Offer
offer_at f k =
    or_else (option_map (own_offer (has f.advertised (k.session, k.sender))) (get f.senders (k.session, k.sender))) (option_map path_offer (get f.paths (k.session, k.sender)))

abbrev pub ways_of : NodeConfig → SenderKey → List OfferKey
ways_of p k = each (λ i. record { session = k.0; sender = k.1; iface = i }) (outward p k.0 k.1)

abbrev pub offers : NodeConfig → Facts → Offers
offers p f = table_at (offer_at f) (flat_map (ways_of p) (keys f.senders ++ keys f.paths))
