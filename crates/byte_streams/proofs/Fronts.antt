-- The first line of bytes whose front is known.
use Rattle.std.proofs.Common.{◌≡◌, ℕ, zero, suc, ◌+◌, ◌<◌, ◌≤◌, List, [], ◌∷◌, ◌++◌, ◌==◌, not, Bool, true, false, None, Some, length, take, drop, refl, sym, ap, ◌∙◌, arith, ltb-true}
use Rattle.std.proofs.Common.{ltb-false, length-append}
use Rattle.std.specs.Prelude.{nat_lt}
use Rattle.std.specs.List.{position, position_or_len, prefix_len}
use Rattle.std.proofs.lemmas.List.{take-append-le, drop-append-le, length-take-le, drop-drop}
use Rattle.std.proofs.lemmas.List.Sums.{fails_before_first}
use Rattle.std.proofs.lemmas.List.Splits.{slice_split_none, slice_split_first}
use Rattle.script_words.specs.Lines.{text_lines}
use Rattle.script_words.proofs.PartLemmas.{lines_found, lines_none}
use Rattle.byte_streams.specs.Streams.{IsLong}

-- ---- the first place is the same with more behind
front_same : (P : ℕ → Bool) (h rest : List ℕ) → prefix_len P h < length h → prefix_len P (h ++ rest) ≡ prefix_len P h
front_same P [] rest lt = absurd (omega arith)
front_same P (x ∷ xs) rest lt = by (P x) refl (λ l. front_same P xs rest l) lt
  where
    by : (b : Bool) → P x ≡ b → (prefix_len P xs < length xs → prefix_len P (xs ++ rest) ≡ prefix_len P xs) → prefix_len P (x ∷ xs) < length (x ∷ xs)
        → prefix_len P (x ∷ (xs ++ rest)) ≡ prefix_len P (x ∷ xs)
    by true t more l = let l' : 1 + prefix_len P xs < length (x ∷ xs) = rw t at l in rw t (ap (λ n. 1 + n) (more (omega (arith, l'))))
    by false t more l = rw t refl

front_more : (P : ℕ → Bool) (h rest : List ℕ) → length h ≤ prefix_len P h → length h ≤ prefix_len P (h ++ rest)
front_more P [] rest le = omega arith
front_more P (x ∷ xs) rest le = by (P x) refl (λ l. front_more P xs rest l) le
  where
    by : (b : Bool) → P x ≡ b → (length xs ≤ prefix_len P xs → length xs ≤ prefix_len P (xs ++ rest)) → length (x ∷ xs) ≤ prefix_len P (x ∷ xs) → length (x ∷ xs) ≤ prefix_len P (x ∷ (xs ++ rest))
    by true t more l = let l' : length (x ∷ xs) ≤ 1 + prefix_len P xs = rw t at l in rw t (let m = more (omega (arith, l')) in omega (arith, m))
    by false t more l = let l' : length (x ∷ xs) ≤ 0 = rw t at l in absurd (omega (arith, l'))

abbrev feed : ℕ → Bool
feed c = c == 10

pub place_of : (h : List ℕ) (n : ℕ) → position feed h ≡ Some n → (n ≡ position_or_len feed h) × (n < length h)
place_of h n e = by (nat_lt (position_or_len feed h) (length h)) refl
  where
    by : (b : Bool) → nat_lt (position_or_len feed h) (length h) ≡ b → (n ≡ position_or_len feed h) × (n < length h)
    by true t =
        let z : Some (position_or_len feed h) ≡ Some n = rw t at e in
        let same : position_or_len feed h ≡ n = cc in
        (sym same, omega (arith, same, ltb-true (position_or_len feed h) (length h) t))
    by false t = absurd (let z : None ≡ Some n = rw t at e in cc)

no_place : (h : List ℕ) → position feed h ≡ None → length h ≤ position_or_len feed h
no_place h e = by (nat_lt (position_or_len feed h) (length h)) refl
  where
    by : (b : Bool) → nat_lt (position_or_len feed h) (length h) ≡ b → length h ≤ position_or_len feed h
    by true t = absurd (let z : Some (position_or_len feed h) ≡ None = rw t at e in cc)
    by false t = ltb-false (position_or_len feed h) (length h) t

-- ---- lines
first_line : (text : List ℕ) → position_or_len feed text < length text → text_lines text ≡ take (position_or_len feed text) text ∷ text_lines (drop (position_or_len feed text + 1) text)
first_line text lt = lines_found text (take (position_or_len feed text) text) (drop (position_or_len feed text + 1) text) (slice_split_first feed text 0 lt)

-- a whole line stands at the front
pub line_found : (h rest : List ℕ) (n : ℕ) → position feed h ≡ Some n → text_lines (h ++ rest) ≡ take n h ∷ text_lines (drop (n + 1) h ++ rest)
line_found h rest n e =
    let at = place_of h n e in
    let same : position_or_len feed (h ++ rest) ≡ n = front_same (λ c. not (feed c)) h rest (omega (arith, at.0, at.1)) ∙ sym at.0 in
    let lt : position_or_len feed (h ++ rest) < length (h ++ rest) = omega (arith, same, at.1, length-append h rest) in
    let front : take n (h ++ rest) ≡ take n h = take-append-le n h rest (omega (arith, at.1)) in
    let behind : drop (n + 1) (h ++ rest) ≡ drop (n + 1) h ++ rest = drop-append-le (n + 1) h rest (omega (arith, at.1)) in
    first_line (h ++ rest) lt ∙ ap (λ m. take m (h ++ rest) ∷ text_lines (drop (m + 1) (h ++ rest))) same ∙ ap (λ l. l ∷ text_lines (drop (n + 1) (h ++ rest))) front
    ∙ ap (λ t. take n h ∷ text_lines t) behind

pub long_found : (h : List ℕ) (n : ℕ) → position feed h ≡ Some n → 2048 < n → (rest : List ℕ) → IsLong 2048 (Some (h ++ rest))
long_found h n e lt = λ rest.
    let at = place_of h n e in
    (take n h, text_lines (drop (n + 1) h ++ rest), line_found h rest n e, omega (arith, lt, length-take-le n h (omega (arith, at.1))))

-- no whole line stands at the front, and it is long
pub long_part : (h : List ℕ) → position feed h ≡ None → 2048 < length h → (rest : List ℕ) → IsLong 2048 (Some (h ++ rest))
long_part h e lt = λ rest. by rest (nat_lt (position_or_len feed (h ++ rest)) (length (h ++ rest))) refl
  where
    by : (rest : List ℕ) (b : Bool) → nat_lt (position_or_len feed (h ++ rest)) (length (h ++ rest)) ≡ b → IsLong 2048 (Some (h ++ rest))
    by rest true t =
        let text = h ++ rest in
        let n = position_or_len feed text in
        let less = ltb-true n (length text) t in
        let more : length h ≤ n = front_more (λ c. not (feed c)) h rest (no_place h e) in
        (take n text, text_lines (drop (n + 1) text), first_line text less, omega (arith, lt, more, length-take-le n text (omega (arith, less))))
    by rest false t =
        let text = h ++ rest in
        let le = ltb-false (position_or_len feed text) (length text) t in
        let some : 0 < length text = omega (arith, lt, length-append h rest) in
        (text, [], lines_none text some (slice_split_none feed text (λ k d l. fails_before_first feed text k d (omega (arith, l, le)))), omega (arith, lt, length-append h rest))

-- the last line lacks its line feed
pub last_line : (h : List ℕ) → position feed h ≡ None → 0 < length h → text_lines h ≡ h ∷ []
last_line h e some = lines_none h some (slice_split_none feed h (λ k d l. fails_before_first feed h k d (omega (arith, l, no_place h e))))

-- the line that is taken off bytes of which some were given before
pub taken_line : (taken : List ℕ) (at n : ℕ) (rest : List ℕ) → position feed (drop at taken) ≡ Some n
    → text_lines (drop at taken ++ rest) ≡ take n (drop at taken) ∷ text_lines (drop (at + (n + 1)) taken ++ rest)
taken_line taken at n rest e = line_found (drop at taken) rest n e ∙ ap (λ (t : List ℕ). take n (drop at taken) ∷ text_lines (t ++ rest))
    (drop-drop (n + 1) at taken ∙ ap (λ m. drop m taken) (let s : at + (n + 1) ≡ at + (n + 1) = refl in s))

pub nothing_behind : (xs : List ℕ) (n : ℕ) → length xs ≤ n → drop n xs ≡ []
nothing_behind [] zero le = refl
nothing_behind [] (suc n) le = refl
nothing_behind (x ∷ xs) zero le = absurd (omega arith)
nothing_behind (x ∷ xs) (suc n) le = nothing_behind xs n (omega arith)
