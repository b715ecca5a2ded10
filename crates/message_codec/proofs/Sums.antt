-- The checksum that is written is right, by the closed form of the one's complement sum.
use Rattle.std.proofs.Common.{◌≡◌, ℕ, suc, ◌+◌, ◌*◌, ◌-◌, ◌/◌, ◌%◌, ◌≤◌, ◌<◌, List, [], ◌∷◌, ◌++◌, length, get_or, ap, ◌∙◌, arith}
use Rattle.std.specs.List.{AllByRecursion}
use Rattle.rsvp_messages.specs.declared.message.Kind.{Kind}
use Rattle.rsvp_messages.specs.declared.message.Kind.TheVariants as kind
use Rattle.message_codec.specs.Sum.{words_in, sum_from, ones_sum}
use Rattle.message_codec.proofs.Closed.{closed, plus_closed}
use Rattle.message_codec.specs.Encoding.{kind_number, header, checksum}

abbrev total : List ℕ → ℕ
total [] = 0
total (w ∷ ws) = w + total ws

abbrev IsWord : ℕ → Type 0
IsWord w = w ≤ 65535

sum_closed : (ws : List ℕ) (n : ℕ) → AllByRecursion IsWord ws → sum_from (closed n) ws ≡ closed (n + total ws)
sum_closed [] n h = let e : n ≡ n + 0 = omega arith in ap closed e
sum_closed (w ∷ ws) n h = ap (λ x. sum_from x ws) (plus_closed n w h.0) ∙ sum_closed ws (n + w) h.1 ∙ (let e : n + w + total ws ≡ n + (w + total ws) = omega arith in ap closed e)

sum_is : (ws : List ℕ) → AllByRecursion IsWord ws → sum_from 0 ws ≡ closed (total ws)
sum_is ws h = sum_closed ws 0 h ∙ (let e : 0 + total ws ≡ total ws = omega arith in ap closed e)

filled : (n c : ℕ) → c ≡ 65535 - closed n → closed (n + c) ≡ 65535
filled n c e = omega arith

abbrev pub AreSmall : List ℕ → Type 0
AreSmall bytes = (i : ℕ) → get_or bytes i 0 < 256

words_small : (bytes : List ℕ) → AreSmall bytes → AllByRecursion IsWord (words_in bytes)
words_small [] h = tt
words_small (a ∷ []) h = (omega (arith, h 0), tt)
words_small (a ∷ b ∷ rest) h = (omega (arith, h 0, h 1), words_small rest (λ i. h (suc (suc i))))

half_again : (n : ℕ) → n < 65536 → n / 256 % 256 * 256 + n % 256 ≡ n
half_again n h = omega arith

kind_small : (k : Kind) → kind_number k < 256
kind_small kind.Path = omega arith
kind_small kind.Resv = omega arith
kind_small kind.PathErr = omega arith
kind_small kind.ResvErr = omega arith
kind_small kind.PathTear = omega arith
kind_small kind.ResvTear = omega arith
kind_small kind.ResvConf = omega arith

pub sealed_right : (k : Kind) (body : List ℕ) → length body ≤ 1016 → AreSmall body → ones_sum (header k (checksum k body) (8 + length body) ++ body) ≡ 65535
sealed_right k body short fits =
    let n = 8 + length body in
    let c = checksum k body in
    let small = words_small body fits in
    let kind = kind_small k in
    let zero_sum : ones_sum (header k 0 n ++ body) ≡ closed (total (words_in (header k 0 n ++ body))) =
    sum_is (words_in (header k 0 n ++ body)) (omega arith, (omega arith, (omega arith, (omega arith, small)))) in
    let sum : ones_sum (header k c n ++ body) ≡ closed (total (words_in (header k c n ++ body))) =
    sum_is (words_in (header k c n ++ body)) (omega arith, (omega arith, (omega arith, (omega arith, small)))) in
    let t0 = total (words_in (header k 0 n ++ body)) in
    let c-is : c ≡ 65535 - closed t0 = omega (arith, zero_sum) in
    let more : total (words_in (header k c n ++ body)) ≡ t0 + c = omega (arith, half_again c (omega arith)) in
    sum ∙ ap closed more ∙ filled t0 c c-is
