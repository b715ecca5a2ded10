-- How hops, errors, flows, units and parts are stored as numbers: what values of models need.
use Rattle.std.specs.Prelude.{◌≡◌, ℕ, Bool, Option, Some, None, refl}
use Rattle.std.specs.Coded.{Coded, code_by, coded×, coded_ℕ, coded_bool, coded_option}
use Rattle.rsvp_base.specs.declared.err_spec.ErrSpec.{ErrSpec}
use Rattle.rsvp_base.specs.declared.flow.Peak.{Peak}
use Rattle.rsvp_base.specs.declared.flow.Peak.TheVariants.{Finite, Infinite}
use Rattle.rsvp_base.specs.declared.hop.Hop.{Hop}
use Rattle.rsvp_base.specs.declared.part.Part.{Part}
use Rattle.rsvp_base.specs.declared.session.Sender.{Sender}
use Rattle.rsvp_base.specs.declared.style.Unit.{Unit as UnitOf}
use Rattle.rsvp_base.specs.declared.style.Unit.TheVariants.{One, Of}
use Rattle.rsvp_base.specs.Orders.{Names, unit_sender, addr_code, sender_code, names_code}
use Rattle.rsvp_base.specs.TokenBucket.{TokenBucket}

abbrev pub hop_code : Coded Hop
hop_code = code_by (_ × ℕ) (coded× addr_code coded_ℕ) (λ h. (h.addr, h.handle)) (λ t. record { addr = t.0; handle = t.1 }) (λ _. refl)

abbrev pub err_spec_code : Coded ErrSpec
err_spec_code =
    code_by ((_ × ℕ) × ((Bool × Bool) × ℕ)) (coded× (coded× addr_code coded_ℕ) (coded× (coded× coded_bool coded_bool) coded_ℕ))
    (λ e. ((e.node, e.code), ((e.in_place, e.not_guilty), e.value))) (λ t. record { node = t.0.0; in_place = t.1.0.0; not_guilty = t.1.0.1; code = t.0.1; value = t.1.1 }) (λ _. refl)

abbrev pub peak_rate : Peak → Option ℕ
peak_rate (Finite x) = Some x
peak_rate Infinite = None

abbrev pub peak_of : Option ℕ → Peak
peak_of (Some x) = Finite x
peak_of None = Infinite

pub peak_again : (p : Peak) → peak_of (peak_rate p) ≡ p
peak_again (Finite x) = refl
peak_again Infinite = refl

abbrev pub peak_code : Coded Peak
peak_code = code_by (Option ℕ) (coded_option coded_ℕ) peak_rate peak_of peak_again

abbrev pub bucket_code : Coded TokenBucket
bucket_code =
    code_by ((ℕ × ℕ) × ((ℕ × ℕ) × Peak)) (coded× (coded× coded_ℕ coded_ℕ) (coded× (coded× coded_ℕ coded_ℕ) peak_code))
    (λ f. ((f.r, f.b), ((f.low, f.most), f.p))) (λ t. record { r = t.0.0; b = t.0.1; p = t.1.1; low = t.1.0.0; most = t.1.0.1 }) (λ _. refl)

abbrev pub unit_from : Option Sender → UnitOf
unit_from None = One
unit_from (Some s) = Of s

pub unit_again : (u : UnitOf) → unit_from (unit_sender u) ≡ u
unit_again One = refl
unit_again (Of s) = refl

abbrev pub unit_code : Coded UnitOf
unit_code = code_by (Option Sender) (coded_option sender_code) unit_sender unit_from unit_again

abbrev pub part_code : Coded Part
part_code = code_by (Names × TokenBucket) (coded× names_code bucket_code) (λ p. (p.senders, p.flow)) (λ t. record { senders = t.0; flow = t.1 }) (λ _. refl)
