-- Counts of faults, and what may be answered because of them.
use Rattle.std.specs.Prelude.{ℕ, ◌+◌, ◌-◌, ◌^◌, ◌≤◌, min, Result, OnErr}

-- the last value of a count in 64 bits
abbrev pub last_count : ℕ
last_count = 2 ^ 64 - 1

-- a count that rises by one, and stands still at its last value
abbrev pub one_more : ℕ → ℕ
one_more n = min (n + 1) last_count

-- the count rose, or stands at its last value
abbrev pub Rose : ℕ → ℕ → Type 0
Rose before now = one_more before ≤ now

-- the count did not fall, and an `Err` comes only where it rose or stands at its last value
pub record HasCause {T E : Type 0} (before now : ℕ) (result : Result T E) : Type 0 where
  pub later : before ≤ now
  pub failed : OnErr result (Rose before now)
