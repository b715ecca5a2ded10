-- What is offered of a sender whose path is kept anew.
use Rattle.std.specs.Prelude.{◌≡◌, ℕ, Bool, false, Option, Some, None}
use Rattle.std.specs.Option.{option_map}
use Rattle.rsvp_objects.specs.declared.adspec.Adspec.{Adspec}
use Rattle.rsvp_base.specs.TokenBucket.{TokenBucket}
use Rattle.router_rules.specs.NodeConfig.{NodeConfig}
use Rattle.router_rules.specs.Offers.{Offer, own_offer}
use Rattle.router_rules.specs.Sends.{is_new_offer}
use Rattle.path_sends.specs.declared.renewal.Renewal.{Renewal}
use Rattle.path_sends.specs.Offering.{as_offer, passed_offer}

-- of a local sender: whether it is advertised, and what it announces
abbrev pub own_of : Bool → Option TokenBucket → Option (Bool × TokenBucket)
own_of advertised tspec = option_map (λ t. (advertised, t)) tspec

-- by what it announces as a local sender, and whether it is advertised, else by its path: the flow, and the ADSPEC that it keeps
abbrev pub offer_by : Option (Bool × TokenBucket) → TokenBucket → Option Adspec → Offer
offer_by (Some own) tspec kept = own_offer own.0 own.1
offer_by None tspec kept = passed_offer tspec kept

-- what was offered and what is offered now; without them the one is new beside the other at no interface
abbrev pub AreNews : Option Renewal → Offer → Offer → Type 0
AreNews None old now = (p : NodeConfig) (i : ℕ) → is_new_offer p i now (Some old) ≡ false
AreNews (Some r) old now = (option_map as_offer r.before ≡ Some old) × (option_map as_offer r.after ≡ Some now)
