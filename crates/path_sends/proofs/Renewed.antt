-- A path that is kept anew with the same flow and the same ADSPEC.
use Rattle.std.specs.Prelude.{◌≡◌, ℕ, Bool, true, false, is_some, [], map as each, Option, Some, None}
use Rattle.std.proofs.Common.{ap}
use Rattle.adspec_path.specs.Same.{same_told}
use Rattle.adspec_path.proofs.Same.{same_is_equal}
use Rattle.rsvp_objects.specs.declared.adspec.Adspec.{Adspec}
use Rattle.rsvp_base.specs.TokenBucket.{TokenBucket}
use Rattle.router_rules.specs.Facts.{SenderKey}
use Rattle.router_rules.specs.NodeConfig.{NodeConfig, outward}
use Rattle.router_rules.specs.Offers.{Offer, advert_of, own_offer}
use Rattle.laws_bounds.proofs.Tests.{not_new}
use Rattle.router_rules.specs.Sends.{is_new_offer, path_send, same_flow}
use Rattle.laws_sends.specs.Told.{offer_key, told_new}
use Rattle.laws_sends.proofs.Onward.{none_pass}
use Rattle.path_sends.specs.declared.renewal.Renewal.{Renewal}
use Rattle.path_sends.specs.Offering.{passed_offer}
use Rattle.path_sends.specs.Renewing.{AreNews, offer_by}
use Rattle.path_sends.proofs.Telling.{not_new_again}

-- what is offered of a sender that is no local one is new at no interface then
pub same_again : (own : Option (Bool × TokenBucket)) → is_some own ≡ false → (old now : TokenBucket) (was kept : Option Adspec) → same_flow now old ≡ true → same_told kept was ≡ true
    → (p : NodeConfig) (i : ℕ) → is_new_offer p i (offer_by own now kept) (Some (offer_by own old was)) ≡ false
same_again (Some t) e old now was kept flow told p i = absurd (cc)
same_again None e old now was kept flow told p i = not_new_again p i (passed_offer now kept) (passed_offer old was) flow (ap advert_of ((same_is_equal kept was).0 told))

-- nor is that of a local sender, whatever its path
pub local_again : (own : Option (Bool × TokenBucket)) → is_some own ≡ true → (old now : TokenBucket) (was kept : Option Adspec) → (p : NodeConfig) (i : ℕ)
    → is_new_offer p i (offer_by own now kept) (Some (offer_by own old was)) ≡ false
local_again (Some o) e old now was kept p i = not_new p i (own_offer o.0 o.1)
local_again None e old now was kept p i = absurd (cc)

-- so no Path of it is sent
pub is_no_news : (r : Option Renewal) → r ≡ None → (old now : Offer) → AreNews r old now → (p : NodeConfig) (k : SenderKey) → told_new p k (Some old) (Some now) ≡ []
is_no_news None e old now news p k =
    ap (each (λ i. path_send p false (offer_key k i, now))) (none_pass (λ i. is_new_offer p i now (Some old)) (outward p k.0 k.1) (λ i. news p i))
is_no_news (Some r) e old now news p k = absurd (cc)
