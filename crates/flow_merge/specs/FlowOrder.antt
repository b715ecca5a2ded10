-- The order of flows, and what is least above and greatest below two of them: this project's own, after the ordering and
-- merging of RFC 2211.
use Rattle.std.specs.Prelude.{◌≤◌, min, max, Bool, true, false, ◌&&◌, nat_le}
use Rattle.rsvp_base.specs.TokenBucket.{TokenBucket}
use Rattle.rsvp_base.specs.declared.flow.Peak.{Peak}
use Rattle.rsvp_base.specs.declared.flow.Peak.TheVariants.{Finite, Infinite}

-- no peak rate at all is the largest
abbrev pub IsPeakAtMost : Peak → Peak → Type 0
IsPeakAtMost p Infinite = Unit {0}
IsPeakAtMost (Finite x) (Finite y) = x ≤ y
IsPeakAtMost Infinite (Finite y) = ⊥

abbrev pub larger_peak : Peak → Peak → Peak
larger_peak (Finite x) (Finite y) = Finite (max x y)
larger_peak (Finite x) Infinite = Infinite
larger_peak Infinite q = Infinite

abbrev pub smaller_peak : Peak → Peak → Peak
smaller_peak (Finite x) (Finite y) = Finite (min x y)
smaller_peak (Finite x) Infinite = Finite x
smaller_peak Infinite q = q

-- b can stand for a: it has no smaller r, b, p and M, and no larger m
pub record IsAtMost (a b : TokenBucket) : Type 0 where
  pub rate : a.r ≤ b.r
  pub depth : a.b ≤ b.b
  pub peak : IsPeakAtMost a.p b.p
  pub low : b.low ≤ a.low
  pub most : a.most ≤ b.most

-- the same as a test
abbrev pub peak_le : Peak → Peak → Bool
peak_le p Infinite = true
peak_le (Finite x) (Finite y) = nat_le x y
peak_le Infinite (Finite y) = false

abbrev pub flow_le : TokenBucket → TokenBucket → Bool
flow_le a b = nat_le a.r b.r && (nat_le a.b b.b && (peak_le a.p b.p && (nat_le b.low a.low && nat_le a.most b.most)))

-- the largest r, b, p and M, and the smallest m
abbrev pub flow_join : TokenBucket → TokenBucket → TokenBucket
flow_join a b = record { r = max a.r b.r; b = max a.b b.b; p = larger_peak a.p b.p; low = min a.low b.low; most = max a.most b.most }

-- the smallest r, b, p and M, and the largest m
abbrev pub flow_meet : TokenBucket → TokenBucket → TokenBucket
flow_meet a b = record { r = min a.r b.r; b = min a.b b.b; p = smaller_peak a.p b.p; low = max a.low b.low; most = min a.most b.most }
