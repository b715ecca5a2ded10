-- Numbers of 32 and of 16 bits from their bytes.
use Rattle.std.proofs.Common.{◌≡◌, ℕ, ◌+◌, ◌*◌, ◌/◌, ◌%◌, ◌^◌, ◌<◌, arith}

pub word_again : (n : ℕ) → n < 2 ^ 32 → n / 16777216 % 256 * 16777216 + (n / 65536 % 256 * 65536 + (n / 256 % 256 * 256 + (n % 256 * 1 + 0))) ≡ n
word_again n h = omega arith

pub half_again : (n : ℕ) → n < 2 ^ 16 → n / 256 % 256 * 256 + (n % 256 * 1 + 0) ≡ n
half_again n h = omega arith
