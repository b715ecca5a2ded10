-- What is composed can be written.
use Rattle.std.specs.Prelude.{◌≡◌, ℕ, zero, suc, min, ◌+◌, ◌/◌, ◌%◌, ◌<◌, ◌≤◌, ◌^◌, Bool, true, false, List, [], ◌∷◌, if◌then◌else◌}
use Rattle.std.specs.List.{AllByRecursion}
use Rattle.std.proofs.Common.{arith, refl, lit<, ⊎_elim}
use Rattle.std.proofs.lemmas.Bool.{eqb-false, cases_lt}
use Rattle.rsvp_base.specs.Rates.{IsRate}
use Rattle.rsvp_base.specs.declared.flow.Peak.{Peak}
use Rattle.rsvp_base.specs.declared.flow.Peak.TheVariants.{Finite, Infinite}
use Rattle.rsvp_objects.specs.Fragment.{counted, is_broken, marked}
use Rattle.rsvp_objects.specs.RateLaws.{IsPeak}
use Rattle.rsvp_objects.proofs.Lists.{marked_fragments}
use Rattle.adspec_path.specs.Composing.{WhatIsComposedCanBeWritten, least_rate, pass_on, start}
use Rattle.adspec_path.specs.RateBelow.{rate_below}
use Rattle.adspec_path.proofs.Largest.{of_rate_below}

-- the break bit makes no word longer
with_bit : (w : ℕ) (b : Bool) → is_broken w ≡ b → w < 2 ^ 32 → (if b then w else w + 2 ^ 23) < 2 ^ 32
with_bit w true e small = small
with_bit w false e small = let not_set : w / 2 ^ 23 % 2 ≡ 1 → ⊥ = eqb-false (w / 2 ^ 23 % 2) 1 e in omega (arith, not_set, small)

marked_words : (due : ℕ) (ws : List ℕ) → AllByRecursion (λ w. w < 2 ^ 32) ws → AllByRecursion (λ w. w < 2 ^ 32) (marked due ws)
marked_words due [] all = tt
marked_words zero (w ∷ ws) all = (with_bit w (is_broken w) refl all.0, marked_words (counted w) ws all.1)
marked_words (suc due) (w ∷ ws) all = (all.0, marked_words due ws all.1)

one_of_both : (s r : ℕ) → IsRate s → IsRate r → IsRate (min s r)
one_of_both s r is_s is_r = ⊎_elim
    (λ (h : s < r). let same : min s r ≡ s = omega (arith, h) in rw same is_s)
    (λ (h : r ≤ s). let same : min s r ≡ r = omega (arith, h) in rw same is_r)
    (cases_lt s r)

least_is_rate : (p : Peak) (r : ℕ) → IsPeak p → IsRate r → IsRate (least_rate p r)
least_is_rate Infinite r is_p is_r = is_r
least_is_rate (Finite s) r is_p is_r = one_of_both s r is_p is_r

pub what_is_composed_can_be_written : WhatIsComposedCanBeWritten
unfolding start pass_on
what_is_composed_can_be_written = record {
  start = λ on. record {
    hops = lit< tt;
    rate = (of_rate_below on.capacity).rate;
    latency = omega arith;
    mtu = omega arith;
    others = record { few = omega arith; whole = refl; other = refl };
    words = tt;
  };
  pass_on = λ a on is. record {
    hops = omega arith;
    rate = least_is_rate a.rate (rate_below on.capacity) is.rate (of_rate_below on.capacity).rate;
    latency = omega arith;
    mtu = let mtu = is.mtu in omega (arith, mtu);
    others = marked_fragments a.others is.others;
    words = marked_words 0 a.others is.words;
  };
}
