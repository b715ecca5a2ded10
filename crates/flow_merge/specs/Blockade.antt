-- Whether a refused flow blockades a request (RFC 2205, 3.5).
use Rattle.std.specs.Prelude.{◌≡◌, ℕ, ◌≤◌, ◌⊎◌, Bool, cond, ◌&&◌, ◌==◌, nat_le}
use Rattle.rsvp_base.specs.TokenBucket.{TokenBucket}

-- the refusal was for the rate, and the request asks for no smaller one; or for the packet size, likewise. The
-- refusal says which by the value of its admission control failure: 2 for the rate, 3 for the size (RFC 2205, B, 01)
abbrev pub Blockades : TokenBucket → ℕ → TokenBucket → Type 0
Blockades refused sub request = ((sub ≡ 2) × (refused.r ≤ request.r)) ⊎ ((sub ≡ 3) × (refused.most ≤ request.most))

-- the same as a test
abbrev pub does_blockade : TokenBucket → ℕ → TokenBucket → Bool
does_blockade refused sub request = cond (sub == 2) (nat_le refused.r request.r) ((sub == 3) && nat_le refused.most request.most)
