-- Peaks are a chain in which no peak at all is the largest.
use Rattle.std.specs.Prelude.{◌≡◌, true, refl}
use Rattle.std.proofs.Common.{ap, arith}
use Rattle.std.proofs.lemmas.Bool.{leb-true, le-leb}
use Rattle.rsvp_base.specs.declared.flow.Peak.{Peak}
use Rattle.rsvp_base.specs.declared.flow.Peak.TheVariants.{Finite, Infinite}
use Rattle.flow_merge.specs.FlowOrder.{IsPeakAtMost, peak_le, larger_peak, smaller_peak}

pub peak_reflexive : (p : Peak) → IsPeakAtMost p p
peak_reflexive (Finite x) = omega arith
peak_reflexive Infinite = tt

pub peak_transitive : (p q r : Peak) → IsPeakAtMost p q → IsPeakAtMost q r → IsPeakAtMost p r
peak_transitive p q Infinite h g = tt
peak_transitive (Finite x) (Finite y) (Finite z) h g = omega arith
peak_transitive (Finite x) Infinite (Finite z) h g = absurd g
peak_transitive Infinite (Finite y) (Finite z) h g = absurd h
peak_transitive Infinite Infinite (Finite z) h g = absurd g

pub peak_antisymmetric : (p q : Peak) → IsPeakAtMost p q → IsPeakAtMost q p → p ≡ q
peak_antisymmetric (Finite x) (Finite y) h g = let e : x ≡ y = omega arith in ap Finite e
peak_antisymmetric (Finite x) Infinite h g = absurd g
peak_antisymmetric Infinite (Finite y) h g = absurd h
peak_antisymmetric Infinite Infinite h g = refl

-- ---- the larger of two
pub larger_left : (p q : Peak) → IsPeakAtMost p (larger_peak p q)
larger_left (Finite x) (Finite y) = omega arith
larger_left (Finite x) Infinite = tt
larger_left Infinite q = tt

pub larger_right : (p q : Peak) → IsPeakAtMost q (larger_peak p q)
larger_right (Finite x) (Finite y) = omega arith
larger_right (Finite x) Infinite = tt
larger_right Infinite q = tt

pub larger_least : (p q r : Peak) → IsPeakAtMost p r → IsPeakAtMost q r → IsPeakAtMost (larger_peak p q) r
larger_least p q Infinite h g = tt
larger_least (Finite x) (Finite y) (Finite z) h g = omega arith
larger_least (Finite x) Infinite (Finite z) h g = absurd g
larger_least Infinite q (Finite z) h g = absurd h

-- ---- the smaller of two
pub smaller_left : (p q : Peak) → IsPeakAtMost (smaller_peak p q) p
smaller_left (Finite x) (Finite y) = omega arith
smaller_left (Finite x) Infinite = omega arith
smaller_left Infinite q = tt

pub smaller_right : (p q : Peak) → IsPeakAtMost (smaller_peak p q) q
smaller_right (Finite x) (Finite y) = omega arith
smaller_right (Finite x) Infinite = tt
smaller_right Infinite q = peak_reflexive q

pub smaller_greatest : (p q r : Peak) → IsPeakAtMost r p → IsPeakAtMost r q → IsPeakAtMost r (smaller_peak p q)
smaller_greatest (Finite x) (Finite y) (Finite z) h g = omega arith
smaller_greatest (Finite x) (Finite y) Infinite h g = absurd h
smaller_greatest (Finite x) Infinite r h g = h
smaller_greatest Infinite q r h g = g

-- ---- the test
pub peak_told : (p q : Peak) → peak_le p q ≡ true → IsPeakAtMost p q
peak_told p Infinite e = tt
peak_told (Finite x) (Finite y) e = leb-true x y e
peak_told Infinite (Finite y) e = cc

pub peak_tested : (p q : Peak) → IsPeakAtMost p q → peak_le p q ≡ true
peak_tested p Infinite h = refl
peak_tested (Finite x) (Finite y) h = le-leb x y h
peak_tested Infinite (Finite y) h = absurd h
