-- How an ADSPEC is spelt: the general part, the controlled-load fragment where there is one, the other fragments. What the
-- figure does not name is 0.
use Rattle.std.specs.Prelude.{ℕ, ◌+◌, ◌*◌, ◌^◌, Bool, List, [], ◌∷◌, ◌++◌, length, Option, Some, None}
use Rattle.std.specs.List.{flat_map}
use Rattle.rsvp_objects.specs.Fields.{half, word, flag_if, spelt}
use Rattle.rsvp_objects.specs.RateWord.{word_of}
use Rattle.rsvp_objects.specs.declared.adspec.Adspec.{Adspec}

abbrev pub load_word : Bool → ℕ
load_word broken = 5 * 2 ^ 24 + flag_if broken (2 ^ 23)

abbrev pub load_words : Option Bool → List ℕ
load_words None = []
load_words (Some broken) = load_word broken ∷ []

-- the words behind the general part
abbrev pub behind : Adspec → List ℕ
behind a = load_words a.load ++ a.others

-- the general part: a parameter is its number, 0, a length of 1, and its value
abbrev pub parameter : ℕ → ℕ → List ℕ
parameter n value = n ∷ 0 ∷ half 1 ++ word value

abbrev pub general_bytes : Adspec → List ℕ
general_bytes a =
    0 ∷ 0 ∷ half (9 + length (behind a)) ++ 1 ∷ flag_if a.broken 128 ∷ half 8
    ++ parameter 4 a.hops ++ parameter 6 (word_of a.rate) ++ parameter 8 a.latency ++ parameter 10 a.mtu

unfoldable pub adspec_bytes : Adspec → List ℕ
adspec_bytes a = general_bytes a ++ flat_map word (behind a)

-- the Class-Num of an ADSPEC (RFC 2205, A.12)
abbrev pub adspec_class : ℕ
adspec_class = 13

-- the object, whose C-Type is 2
abbrev pub object_bytes : Adspec → List ℕ
object_bytes a = spelt adspec_class 2 (adspec_bytes a)
