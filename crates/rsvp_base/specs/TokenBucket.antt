-- Token buckets (RFC 2210, 3.1 and 3.2): what a flow is seen as.
use Rattle.std.specs.Prelude.{ℕ, ◌≤◌}
use Rattle.rsvp_base.specs.declared.flow.Peak.{Peak}

-- rate r, depth b, peak rate p, minimum policed unit m (low) and maximum packet size M (most)
pub record TokenBucket : Type 0 where
  pub r : ℕ
  pub b : ℕ
  pub p : Peak
  pub low : ℕ
  pub most : ℕ

-- none of the four numbers is 0
pub record IsSound (f : TokenBucket) : Type 0 where
  pub rate : 1 ≤ f.r
  pub depth : 1 ≤ f.b
  pub low : 1 ≤ f.low
  pub most : 1 ≤ f.most
