-- What is composed hop by hop is told of all hops at once.
use Rattle.std.specs.Prelude.{◌≡◌, ℕ, ◌+◌, min, List, [], ◌∷◌, length, map as each, false, Some, refl}
use Rattle.std.proofs.Common.{arith, ◌∙◌}
use Rattle.rsvp_base.specs.declared.flow.Peak.TheVariants.{Finite}
use Rattle.rsvp_base.specs.declared.iface.Iface.{Iface}
use Rattle.rsvp_objects.specs.declared.adspec.Adspec.{Adspec}
use Rattle.adspec_path.specs.Advertisement.{AnAdvertisementIsComposed, composed, least, total}
use Rattle.adspec_path.specs.Composing.{clamped, pass_on, start}
use Rattle.adspec_path.specs.RateBelow.{rate_below}

-- nothing broken, controlled load, and no other service
abbrev told : ℕ → ℕ → ℕ → ℕ → Adspec
told hops rate latency mtu = record { broken = false; hops = hops; rate = Finite rate; latency = latency; mtu = mtu; load = Some false; others = [] }

one_more : (h r l m : ℕ) (on : Iface) → pass_on (told h r l m) on ≡ told (clamped (h + 1)) (min r (rate_below on.capacity)) (clamped (l + on.latency)) (min m on.mtu)
unfolding pass_on
one_more h r l m on = refl

-- a sum that was cut to its field and grows is the whole sum, cut
cut_again : (n m k : ℕ) → m ≡ n + k → clamped (clamped n + k) ≡ clamped m
cut_again n m k e = omega (arith, e)

composed_told : (ons : List Iface) (h r l m : ℕ) → composed (told (clamped h) r (clamped l) m) ons
    ≡ told (clamped (h + length ons)) (least r (each (λ on. rate_below on.capacity) ons)) (clamped (l + total (each (λ on. on.latency) ons))) (least m (each (λ on. on.mtu) ons))
composed_told [] h r l m =
    let hops : clamped h ≡ clamped (h + 0) = omega arith in
    let latency : clamped l ≡ clamped (l + 0) = omega arith in
    λ i. told (hops i) r (latency i) m
composed_told (on ∷ ons) h r l m =
    let hops = cut_again h (h + 1) 1 refl in
    let latency = cut_again l (l + on.latency) on.latency refl in
    let all_hops : clamped (h + 1 + length ons) ≡ clamped (h + length (on ∷ ons)) = omega arith in
    let rest = total (each (λ (on : Iface). on.latency) ons) in
    let all_latency : clamped (l + on.latency + rest) ≡ clamped (l + (on.latency + rest)) = omega arith in
    (λ i. composed (one_more (clamped h) r (clamped l) m on i) ons)
    ∙ (λ i. composed (told (hops i) (min r (rate_below on.capacity)) (latency i) (min m on.mtu)) ons)
    ∙ composed_told ons (h + 1) (min r (rate_below on.capacity)) (l + on.latency) (min m on.mtu)
    ∙ (λ i. told (all_hops i) (least r (each (λ on. rate_below on.capacity) (on ∷ ons))) (all_latency i) (least m (each (λ on. on.mtu) (on ∷ ons))))

pub an_advertisement_is_composed : AnAdvertisementIsComposed
unfolding start
an_advertisement_is_composed first rest = composed_told rest 1 (rate_below first.capacity) first.latency (clamped first.mtu)
