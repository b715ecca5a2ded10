-- The contents of an ADSPEC, behind the head of four bytes (RFC 2205, A.12; RFC 2210, 3.3.1).
--
--     +-------------+-------------+-------------+-------------+
--     |  0  | ///   |   //////    |   words behind this one   |
--     +-------------+-------------+-------------+-------------+
--     | service 1   |b|  //////   |        length 8           |
--     +-------------+-------------+-------------+-------------+
--     | parameter 4 |   //////    |        length 1           |
--     +-------------+-------------+-------------+-------------+
--     |                    IS hop count                       |
--     +-------------+-------------+-------------+-------------+
--     | parameter 6 |   //////    |        length 1           |
--     +-------------+-------------+-------------+-------------+
--     |            path bandwidth (a rate word)               |
--     +-------------+-------------+-------------+-------------+
--     | parameter 8 |   //////    |        length 1           |
--     +-------------+-------------+-------------+-------------+
--     |          minimum path latency (microseconds)          |
--     +-------------+-------------+-------------+-------------+
--     | parameter 10|   //////    |        length 1           |
--     +-------------+-------------+-------------+-------------+
--     |                    composed MTU                       |
--     +-------------+-------------+-------------+-------------+
--     //                     fragments                       //
--     +-------------+-------------+-------------+-------------+
--
-- b is the break bit. A length counts the words behind its own. What is not named is not looked at.
use Rattle.std.specs.Prelude.{ℕ, ◌+◌, ◌*◌, ◌/◌, Bool, ◌&&◌, ◌==◌, nat_le, List, [], ◌∷◌, length, drop, Option, Some, None, if◌then◌else◌}
use Rattle.rsvp_objects.specs.Fields.{byte_at, half_at, word_at}
use Rattle.rsvp_objects.specs.RateFields.{◌>>=◌, peak_at}
use Rattle.rsvp_objects.specs.declared.adspec.Adspec.{Adspec}
use Rattle.rsvp_objects.specs.Fragment.{is_broken, behind_in}

-- the words that bytes spell, four bytes each
unfoldable pub words_in : List ℕ → List ℕ
words_in (a ∷ b ∷ c ∷ d ∷ rest) = word_at 0 (a ∷ b ∷ c ∷ d ∷ []) ∷ words_in rest
words_in _ = []

-- the number of all words, and the first words of the general part and of its four parameters
abbrev pub has_general_part : List ℕ → Bool
has_general_part body =
    byte_at 0 body / 16 == 0 && 4 + 4 * half_at 2 body == length body
    && byte_at 4 body == 1 && half_at 6 body == 8
    && byte_at 8 body == 4 && half_at 10 body == 1
    && byte_at 16 body == 6 && half_at 18 body == 1
    && byte_at 24 body == 8 && half_at 26 body == 1
    && byte_at 32 body == 10 && half_at 34 body == 1

-- the values, where the first words are right: a bandwidth that is a rate or infinite, and fragments that may stand there
unfoldable pub values_in : List ℕ → Option Adspec
values_in body = do
  rate ← peak_at 20 body
  behind ← behind_in (words_in (drop 40 body))
  Some (record { broken = is_broken (word_at 4 body); hops = word_at 12 body; rate = rate; latency = word_at 28 body; mtu = word_at 36 body; load = behind.0; others = behind.1 })

unfoldable pub adspec_in : List ℕ → Option Adspec
adspec_in body = if nat_le 40 (length body) && has_general_part body then values_in body else None
