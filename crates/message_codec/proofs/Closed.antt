-- In closed form the one's complement sum is the plain sum modulo 65,535, and 0 only where all words are.
use Rattle.std.proofs.Common.{◌≡◌, ℕ, zero, suc, ◌+◌, ◌*◌, ◌-◌, ◌/◌, ◌≤◌, ◌<◌, List, [], ◌∷◌, length, length-drop, take, drop, get_or, ap, ◌∙◌, arith}
use Rattle.std.proofs.lemmas.List.{take_all}
use Rattle.byteorder.specs.Endian.{big_number}
use Rattle.message_codec.specs.Sum.{plus, sum_from, words_in}

abbrev pub closed : ℕ → ℕ
closed n = n - (n - 1) / 65535 * 65535

pub plus_closed : (n w : ℕ) → w ≤ 65535 → plus (closed n) w ≡ closed (n + w)
plus_closed n w h = omega arith

-- 65,536 is 1 modulo 65,535: two words weigh the same as the number that both are
two_closed : (n a b : ℕ) → closed (n + a + b) ≡ closed (n + (a * 65536 + b))
two_closed n a b = omega arith

-- each is a byte
abbrev pub AreSmall : List ℕ → Type 0
AreSmall xs = (i : ℕ) → get_or xs i 0 < 256

pub small_behind : (n : ℕ) (xs : List ℕ) → AreSmall xs → AreSmall (drop n xs)
small_behind zero xs h = h
small_behind (suc n) [] h = λ i. omega arith
small_behind (suc n) (x ∷ xs) h = small_behind n xs (λ i. h (suc i))

pub pair_closed : (n : ℕ) (rest : List ℕ) → 4 ≤ length rest → AreSmall rest → sum_from (closed n) (words_in rest) ≡ sum_from (closed (n + big_number 4 rest)) (words_in (drop 4 rest))
pair_closed n [] long small = omega arith
pair_closed n (a ∷ []) long small = omega arith
pair_closed n (a ∷ b ∷ []) long small = omega arith
pair_closed n (a ∷ b ∷ c ∷ []) long small = omega arith
pair_closed n (a ∷ b ∷ c ∷ d ∷ rest) long small =
    let first : a * 256 + b ≤ 65535 = omega (arith, small 0, small 1) in
    let second : c * 256 + d ≤ 65535 = omega (arith, small 2, small 3) in
    let both : (a * 256 + b) * 65536 + (c * 256 + d) ≡ big_number 4 (a ∷ b ∷ c ∷ d ∷ rest) = omega arith in
    ap (λ (x : ℕ). sum_from (plus x (c * 256 + d)) (words_in rest)) (plus_closed n (a * 256 + b) first)
    ∙ ap (λ (x : ℕ). sum_from x (words_in rest)) (plus_closed (n + (a * 256 + b)) (c * 256 + d) second ∙ two_closed n (a * 256 + b) (c * 256 + d) ∙ ap (λ (x : ℕ). closed (n + x)) both)

pub word_closed : (n : ℕ) (rest : List ℕ) → 2 ≤ length rest → AreSmall rest → sum_from (closed n) (words_in rest) ≡ sum_from (closed (n + big_number 2 rest)) (words_in (drop 2 rest))
word_closed n [] long small = omega arith
word_closed n (a ∷ []) long small = omega arith
word_closed n (a ∷ b ∷ rest) long small =
    let word : a * 256 + b ≤ 65535 = omega (arith, small 0, small 1) in
    let is : a * 256 + b ≡ big_number 2 (a ∷ b ∷ rest) = omega arith in
    ap (λ (x : ℕ). sum_from x (words_in rest)) (plus_closed n (a * 256 + b) word ∙ ap (λ (x : ℕ). closed (n + x)) is)

pub rest_is : (n : ℕ) (xs : List ℕ) → take (length xs - n) (drop n xs) ≡ drop n xs
rest_is n xs = take_all (length xs - n) (drop n xs) (let e = length-drop n xs in omega arith)
