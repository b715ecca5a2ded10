-- A line of 2,048 bytes has at most 1,024 words: each but the last has a space behind it.
use Rattle.std.proofs.Common.{ℕ, suc, ◌+◌, ◌*◌, ◌<◌, ◌≤◌, ◌==◌, List, [], ◌∷◌, Bool, true, false, cond, length, drop, arith}
use Rattle.std.specs.Prelude.{filter, nat_lt}
use Rattle.std.specs.List.{onto_first}
use Rattle.script_words.specs.Parts.{parts_of}
use Rattle.script_words.specs.Words.{words_of}

abbrev some_of : List (List ℕ) → List (List ℕ)
some_of parts = filter (λ word. nat_lt 0 (length word)) parts

-- so many bytes: of their parts half as many at most are not empty, or, where the first may be as well, one more
abbrev AreFew : List (List ℕ) → ℕ → Type 0
AreFew parts n = (2 * length (some_of parts) ≤ n + 1) × (2 * length (some_of (drop 1 parts)) ≤ n) × (0 < length parts)

-- a part more is a word more at most
if_more : (b : Bool) (word : List ℕ) (words : List (List ℕ)) → length (cond b (word ∷ words) words) ≤ length words + 1
if_more true word words = omega arith
if_more false word words = omega arith

one_more : (part : List ℕ) (parts : List (List ℕ)) → length (some_of (part ∷ parts)) ≤ length (some_of parts) + 1
one_more part parts = if_more (nat_lt 0 (length part)) part (some_of parts)

one_byte : (x : ℕ) (parts : List (List ℕ)) (n : ℕ) (b : Bool) → AreFew parts n → AreFew (cond b ([] ∷ parts) (onto_first x parts)) (suc n)
one_byte x [] n b few = let some = few.2 in absurd (omega (arith, some))
one_byte x (part ∷ parts) n true few = let all = few.0 in (omega (arith, all), omega (arith, all), omega arith)
one_byte x (part ∷ parts) n false few =
    let others = few.1 in
    let more = one_more (x ∷ part) parts in
    (omega (arith, others, more), omega (arith, others), omega arith)

parts_few : (line : List ℕ) → AreFew (parts_of 32 line) (length line)
parts_few [] = (omega arith, omega arith, omega arith)
parts_few (c ∷ line) = one_byte c (parts_of 32 line) (length line) (c == 32) (parts_few line)

pub words_few : (line : List ℕ) → length line ≤ 2048 → length (words_of line) ≤ 1024
words_few line short = let few = (parts_few line).0 in omega (arith, few, short)
