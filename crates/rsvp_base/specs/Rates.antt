-- Which numbers are rates (RFC 2210, 3.1: a 32-bit floating-point number; this profile has the whole ones).
use Rattle.std.specs.Prelude.{◌≡◌, ℕ, ◌+◌, ◌<◌, ◌≤◌, ◌^◌}
use Rattle.std.specs.Int.{bit_at}

-- below 2^46, and no two set bits more than 23 places apart
pub record IsRate (n : ℕ) : Type 0 where
  pub small : n < 2 ^ 46
  pub near : (i j : ℕ) → bit_at n i ≡ 1 → bit_at n j ≡ 1 → j ≤ i + 23
