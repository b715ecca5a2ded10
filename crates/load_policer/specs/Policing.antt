-- Which packets of a flow conform to its token bucket (RFC 2211, 6): in any time T at most r T + b bytes, a packet smaller than m
-- counted as m. Times are in microseconds, and bytes are compared in millionths of a byte.
use Rattle.std.specs.Prelude.{◌≡◌, ◌↔◌, ℕ, ◌+◌, ◌*◌, ◌-◌, ◌<◌, ◌≤◌, max, List, [], ◌∷◌, ◌++◌}
use Rattle.rsvp_base.specs.TokenBucket.{TokenBucket}
use Rattle.load_policer.specs.declared.policer.Verdict.{Verdict}
use Rattle.load_policer.specs.declared.policer.Verdict.TheVariants.{Pass, Over, Big}

-- when it came, and how many bytes it has
pub record Packet : Type 0 where
  pub at : ℕ
  pub size : ℕ

abbrev pub packet : ℕ → ℕ → Packet
packet at size = record { at = at; size = size }

-- the bytes that a packet counts for
abbrev pub counted : TokenBucket → Packet → ℕ
counted f x = max x.size f.low

abbrev pub counted_all : TokenBucket → List Packet → ℕ
counted_all f [] = 0
counted_all f (x ∷ xs) = counted f x + counted_all f xs

-- ---- what a packet is told
-- some stretch of the packets passed and this one, which ends with it, has more than its time allows
pub record IsOver (f : TokenBucket) (passed : List Packet) (x : Packet) : Type 0 where
  pub before : List Packet
  pub first : Packet
  pub rest : List Packet
  pub stretch : passed ++ x ∷ [] ≡ before ++ first ∷ rest
  pub above : f.r * (x.at - first.at) + f.b * 1000000 < counted_all f (first ∷ rest) * 1000000

abbrev pub IsVerdict : TokenBucket → List Packet → Packet → Verdict → Type 0
IsVerdict f passed x Big = f.most < x.size
IsVerdict f passed x Over = (x.size ≤ f.most) × IsOver f passed x
IsVerdict f passed x Pass = (x.size ≤ f.most) × (IsOver f passed x → ⊥)

-- the packets passed, when this one was told so
abbrev pub with_passed : Verdict → List Packet → Packet → List Packet
with_passed Pass passed x = passed ++ x ∷ []
with_passed Over passed x = passed
with_passed Big passed x = passed

-- a packet is told one thing
abbrev pub OneVerdict : Type 0
OneVerdict = (f : TokenBucket) (passed : List Packet) (x : Packet) (v w : Verdict) → IsVerdict f passed x v → IsVerdict f passed x w → v ≡ w

-- ---- the bucket
-- its flow, the millionths of a byte in it that have not drained, and when the last packet passed
pub record Bucket : Type 0 where
  pub flow : TokenBucket
  pub level : ℕ
  pub at : ℕ

abbrev pub empty_bucket : TokenBucket → Bucket
empty_bucket f = record { flow = f; level = 0; at = 0 }

abbrev pub level_with : TokenBucket → ℕ → ℕ → Packet → ℕ
level_with f l t x = (l - f.r * (x.at - t)) + counted f x * 1000000

-- behind these packets, where the level was l at the time t
abbrev pub level : TokenBucket → ℕ → ℕ → List Packet → ℕ
level f l t [] = l
level f l t (x ∷ xs) = level f (level_with f l t x) x.at xs

abbrev pub last_at : ℕ → List Packet → ℕ
last_at t [] = t
last_at t (x ∷ xs) = last_at x.at xs

-- none comes before the one before it
abbrev pub Rises : ℕ → List Packet → Type 0
Rises t [] = Unit {0}
Rises t (x ∷ xs) = (t ≤ x.at) × Rises x.at xs

-- these are the packets that passed
pub record Agrees (b : Bucket) (passed : List Packet) : Type 0 where
  pub level : b.level ≡ level b.flow 0 0 passed
  pub at : b.at ≡ last_at 0 passed
  pub rises : Rises 0 passed

abbrev pub TheLevelTells : Type 0
TheLevelTells = (f : TokenBucket) (passed : List Packet) (x : Packet) → Rises 0 (passed ++ x ∷ [])
    → IsOver f passed x ↔ (f.b * 1000000 < level f 0 0 (passed ++ x ∷ []))

-- ---- whole lists
-- the packets, offered one after another behind those that passed before, all pass
abbrev pub AllPass : TokenBucket → List Packet → List Packet → Type 0
AllPass f before [] = Unit {0}
AllPass f before (x ∷ xs) = IsVerdict f before x Pass × AllPass f (before ++ x ∷ []) xs

-- in each stretch at most r times its time and b bytes
abbrev pub KeepsTheBound : TokenBucket → List Packet → Type 0
KeepsTheBound f xs =
    (before : List Packet) (first : Packet) (rest after : List Packet) → xs ≡ before ++ ((first ∷ rest) ++ after)
    → counted_all f (first ∷ rest) * 1000000 ≤ f.r * (last_at first.at rest - first.at) + f.b * 1000000

-- none is larger than the largest packet of the flow
abbrev pub AreFit : TokenBucket → List Packet → Type 0
AreFit f [] = Unit {0}
AreFit f (x ∷ xs) = (x.size ≤ f.most) × AreFit f xs

abbrev pub WhatPassesKeepsTheBound : Type 0
WhatPassesKeepsTheBound = (f : TokenBucket) (xs : List Packet) → AllPass f [] xs → KeepsTheBound f xs

abbrev pub WhatKeepsTheBoundPasses : Type 0
WhatKeepsTheBoundPasses = (f : TokenBucket) (xs : List Packet) → AreFit f xs → KeepsTheBound f xs → AllPass f [] xs
