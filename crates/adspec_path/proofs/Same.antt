-- ADSPECs are the same exactly where they are equal.
use Rattle.std.specs.Prelude.{◌≡◌, ◌==◌, ◌&&◌, ℕ, Bool, true, false, Option, Some, None, refl}
use Rattle.std.specs.Bool.{beq}
use Rattle.std.specs.Str.{bytes_eq}
use Rattle.std.proofs.Common.{ap, subst}
use Rattle.std.proofs.lemmas.Bool.{eqb-true, eq-eqb}
use Rattle.std.proofs.lemmas.Slice.Eq.{bytes_eq-Decides}
use Rattle.rsvp_base.proofs.SetLaws.{and_both, and_made}
use Rattle.rsvp_base.specs.declared.flow.Peak.{Peak}
use Rattle.rsvp_base.specs.declared.flow.Peak.TheVariants.{Finite, Infinite}
use Rattle.rsvp_objects.specs.declared.adspec.Adspec.{Adspec}
use Rattle.adspec_path.specs.Same.{SameIsEqual, same_adspec, same_load, same_rate, same_told}

bit_told : (b c : Bool) → beq b c ≡ true → b ≡ c
bit_told true true e = refl
bit_told true false e = absurd (cc)
bit_told false true e = absurd (cc)
bit_told false false e = refl

bit_itself : (b : Bool) → beq b b ≡ true
bit_itself true = refl
bit_itself false = refl

rate_told : (r s : Peak) → same_rate r s ≡ true → r ≡ s
rate_told Infinite Infinite e = refl
rate_told Infinite (Finite s) e = absurd (cc)
rate_told (Finite r) Infinite e = absurd (cc)
rate_told (Finite r) (Finite s) e = ap Finite (eqb-true r s e)

rate_itself : (r : Peak) → same_rate r r ≡ true
rate_itself Infinite = refl
rate_itself (Finite r) = eq-eqb r r refl

load_told : (v w : Option Bool) → same_load v w ≡ true → v ≡ w
load_told None None e = refl
load_told None (Some c) e = absurd (cc)
load_told (Some b) None e = absurd (cc)
load_told (Some b) (Some c) e = ap Some (bit_told b c e)

load_itself : (v : Option Bool) → same_load v v ≡ true
load_itself None = refl
load_itself (Some b) = bit_itself b

pub adspec_told : (a b : Adspec) → same_adspec a b ≡ true → a ≡ b
adspec_told a b e =
    let broken = and_both (beq a.broken b.broken) _ e in
    let hops = and_both (a.hops == b.hops) _ broken.1 in
    let rate = and_both (same_rate a.rate b.rate) _ hops.1 in
    let latency = and_both (a.latency == b.latency) _ rate.1 in
    let mtu = and_both (a.mtu == b.mtu) _ latency.1 in
    let load = and_both (same_load a.load b.load) (bytes_eq a.others b.others) mtu.1 in
    let broken_is = bit_told a.broken b.broken broken.0 in
    let hops_is = eqb-true a.hops b.hops hops.0 in
    let rate_is = rate_told a.rate b.rate rate.0 in
    let latency_is = eqb-true a.latency b.latency latency.0 in
    let mtu_is = eqb-true a.mtu b.mtu mtu.0 in
    let load_is = load_told a.load b.load load.0 in
    let others_is = (bytes_eq-Decides a.others b.others).0 load.1 in
    λ i. record { broken = broken_is i; hops = hops_is i; rate = rate_is i; latency = latency_is i; mtu = mtu_is i; load = load_is i; others = others_is i }

adspec_itself : (a : Adspec) → same_adspec a a ≡ true
adspec_itself a =
    and_made _ _ (bit_itself a.broken)
    (and_made _ _ (eq-eqb a.hops a.hops refl)
    (and_made _ _ (rate_itself a.rate)
    (and_made _ _ (eq-eqb a.latency a.latency refl)
    (and_made _ _ (eq-eqb a.mtu a.mtu refl) (and_made _ _ (load_itself a.load) ((bytes_eq-Decides a.others a.others).1 refl))))))

pub told : (a b : Option Adspec) → same_told a b ≡ true → a ≡ b
told None None e = refl
told None (Some b) e = absurd (cc)
told (Some a) None e = absurd (cc)
told (Some a) (Some b) e = ap Some (adspec_told a b e)

pub itself : (a : Option Adspec) → same_told a a ≡ true
itself None = refl
itself (Some a) = adspec_itself a

pub same_is_equal : SameIsEqual
same_is_equal = λ a b. (told a b, λ e. subst (λ (c : Option Adspec). same_told a c ≡ true) e (itself a))
