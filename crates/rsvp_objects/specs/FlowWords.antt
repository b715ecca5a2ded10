-- The eight words of a FLOWSPEC (RFC 2205, A.8; RFC 2210, 3.2) and of a SENDER_TSPEC (RFC 2205, A.11; RFC 2210, 3.1).
--
--     +-------------+-------------+-------------+-------------+
--     |  0  | ///   |   //////    |        length 7           |
--     +-------------+-------------+-------------+-------------+
--     |   service   |   //////    |        length 6           |
--     +-------------+-------------+-------------+-------------+
--     |     127     |   //////    |        length 5           |
--     +-------------+-------------+-------------+-------------+
--     |           token bucket rate r (a rate word)           |
--     +-------------+-------------+-------------+-------------+
--     |           token bucket size b (a rate word)           |
--     +-------------+-------------+-------------+-------------+
--     |            peak data rate p (a rate word)             |
--     +-------------+-------------+-------------+-------------+
--     |              minimum policed unit m                   |
--     +-------------+-------------+-------------+-------------+
--     |              maximum packet size M                    |
--     +-------------+-------------+-------------+-------------+
--
-- A length counts the words behind its own. What is not named is not looked at.
use Rattle.std.specs.Prelude.{ℕ, ◌/◌, Bool, ◌&&◌, ◌||◌, ◌==◌, List, ◌∷◌, ◌++◌, length, Option, Some, None, if◌then◌else◌}
use Rattle.rsvp_base.specs.TokenBucket.{TokenBucket}
use Rattle.rsvp_base.specs.declared.flow.Peak.{Peak}
use Rattle.rsvp_base.specs.declared.flow.Peak.TheVariants.{Finite, Infinite}
use Rattle.rsvp_objects.specs.Fields.{byte_at, half_at, word_at, half, word}
use Rattle.rsvp_objects.specs.RateWord.{word_of}
use Rattle.rsvp_objects.specs.RateFields.{◌>>=◌, peak_at}

-- the service of a FLOWSPEC (controlled load) and of a SENDER_TSPEC (default, general parameters)
abbrev pub controlled_load : ℕ
controlled_load = 5

abbrev pub general : ℕ
general = 1

abbrev pub finite : Peak → Option ℕ
finite (Finite n) = Some n
finite Infinite = None

-- a rate that is not infinite
abbrev pub rate_at : ℕ → List ℕ → Option ℕ
rate_at place body = peak_at place body >>= finite

-- the first three words
abbrev pub has_heads : ℕ → List ℕ → Bool
has_heads service body =
    byte_at 0 body / 16 == 0 && half_at 2 body == 7
    && byte_at 4 body == service && half_at 6 body == 6
    && byte_at 8 body == 127 && half_at 10 body == 5

-- r, b, m and M are at least 1
abbrev pub sound_bucket : ℕ → ℕ → Peak → ℕ → ℕ → Option TokenBucket
sound_bucket r b p low most = if r == 0 || b == 0 || low == 0 || most == 0 then None else Some (record { r = r; b = b; p = p; low = low; most = most })

-- the other five
unfoldable pub bucket_in : List ℕ → Option TokenBucket
bucket_in body = do
  r ← rate_at 12 body
  b ← rate_at 16 body
  p ← peak_at 20 body
  sound_bucket r b p (word_at 24 body) (word_at 28 body)

unfoldable pub flow_in : ℕ → List ℕ → Option TokenBucket
flow_in service body = if length body == 32 && has_heads service body then bucket_in body else None

abbrev pub flow_bytes : ℕ → TokenBucket → List ℕ
flow_bytes service f =
    0 ∷ 0 ∷ half 7 ++ service ∷ 0 ∷ half 6 ++ 127 ∷ 0 ∷ half 5
    ++ word (word_of (Finite f.r)) ++ word (word_of (Finite f.b)) ++ word (word_of f.p) ++ word f.low ++ word f.most
