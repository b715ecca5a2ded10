-- The checksum of a message (RFC 2205, 3.1.1): the one's complement of the one's complement sum of its 16-bit words.
use Rattle.std.specs.Prelude.{ℕ, ◌+◌, ◌*◌, ◌/◌, ◌%◌, Bool, ◌||◌, ◌==◌, List, [], ◌∷◌}
use Rattle.rsvp_objects.specs.Fields.{half_at}

-- the 16-bit words of bytes; an odd last byte is the high byte of a word
abbrev pub words_in : List ℕ → List ℕ
words_in [] = []
words_in (a ∷ []) = a * 256 ∷ []
words_in (a ∷ b ∷ rest) = (a * 256 + b) ∷ words_in rest

-- the one's complement sum of two words: what passes 16 bits comes in again at the low end
abbrev pub plus : ℕ → ℕ → ℕ
plus x y = (x + y) % 65536 + (x + y) / 65536

-- of words, after another sum
abbrev pub sum_from : ℕ → List ℕ → ℕ
sum_from x [] = x
sum_from x (w ∷ ws) = sum_from (plus x w) ws

abbrev pub ones_sum : List ℕ → ℕ
ones_sum bytes = sum_from 0 (words_in bytes)

-- no checksum was sent, or all words, the checksum among them, sum to ffff
abbrev pub is_right : List ℕ → Bool
is_right bytes = half_at 2 bytes == 0 || ones_sum bytes == 65535
