-- The number that the last line of a text says is read back: two texts that are one say one number.
use Rattle.std.proofs.Common.{◌≡◌, ℕ, ◌<◌, ◌≤◌, ◌^◌, List, [], ◌∷◌, ◌++◌, length, Bool, true, false, sym, refl, ap, subst, ◌∙◌, arith, append_assoc, get_or, length-append}
use Rattle.std.specs.Prelude.{codes, drop, nat_lt}
use Rattle.std.specs.Fmt.{decimal}
use Rattle.std.specs.Str.Parse.{AllDigits}
use Rattle.std.proofs.lemmas.Bool.{le-ltb}
use Rattle.std.proofs.lemmas.Fmt.{decimal_injective, decimal_is_IsNumeral}
use Rattle.std.proofs.lemmas.List.{append_cancel_right}
use Rattle.script_demand.specs.Texts.{crowds_text, room_line}

-- ---- the digits at the end of a text
-- a text with a space in it is not all digits
not_digits : (xs ys : List ℕ) → AllDigits 10 (xs ++ 32 ∷ ys) → ⊥
not_digits [] ys d = let here = d.0 in omega (arith, here)
not_digits (x ∷ xs) ys d = not_digits xs ys d.1

last_digits : (xs ys ds es : List ℕ) → AllDigits 10 ds → AllDigits 10 es → xs ++ 32 ∷ ds ≡ ys ++ 32 ∷ es → ds ≡ es
last_digits [] [] ds es a b e = ap (drop 1) e
last_digits [] (y ∷ ys) ds es a b e = let rest : ds ≡ ys ++ 32 ∷ es = ap (drop 1) e in absurd (not_digits ys es (subst (AllDigits 10) rest a))
last_digits (x ∷ xs) [] ds es a b e = let rest : xs ++ 32 ∷ ds ≡ es = ap (drop 1) e in absurd (not_digits xs ds (subst (AllDigits 10) (sym rest) b))
last_digits (x ∷ xs) (y ∷ ys) ds es a b e = last_digits xs ys ds es a b (ap (drop 1) e)

-- the byte before a common end
byte_before : (xs ys zs : List ℕ) (a b : ℕ) → xs ++ a ∷ zs ≡ ys ++ b ∷ zs → a ≡ b
byte_before [] [] zs a b e = ap (λ (z : List ℕ). get_or z 0 0) e
byte_before [] (y ∷ ys) zs a b e =
    let n = ap length e in
    let m = length-append ys (b ∷ zs) in
    absurd (omega (arith, n, m))
byte_before (x ∷ xs) [] zs a b e =
    let n = ap length e in
    let m = length-append xs (a ∷ zs) in
    absurd (omega (arith, n, m))
byte_before (x ∷ xs) (y ∷ ys) zs a b e = byte_before xs ys zs a b (ap (drop 1) e)

-- ---- the line
abbrev before : List ℕ
before = codes "room: settled, a round has at most"

abbrev behind : List ℕ
behind = codes " refreshes in flight, and 8192 datagrams may be: "

-- by the byte before its last two words
abbrev crowd_words : Bool → List ℕ
crowd_words true = codes "refreshes may crowd "
crowd_words false = codes "refreshes crowd n"

abbrev crowd_byte : Bool → ℕ
crowd_byte true = 97
crowd_byte false = 111

abbrev crowded : List ℕ
crowded = codes " later round\n"

crowds_parts : (b : Bool) → crowds_text b ≡ crowd_words b ++ crowd_byte b ∷ crowded
crowds_parts true = refl
crowds_parts false = refl

-- a text up to the number that the line says
abbrev number_front : List ℕ → ℕ → List ℕ
number_front xs n = (xs ++ before) ++ 32 ∷ decimal n

-- and up to the byte that tells whether rounds may be crowded
abbrev crowd_front : List ℕ → ℕ → Bool → List ℕ
crowd_front xs n b = number_front xs n ++ (behind ++ crowd_words b)

room_is : (n : ℕ) → room_line n ≡ ((before ++ 32 ∷ decimal n) ++ behind) ++ crowds_text (nat_lt 8192 n)
unfolding room_line
room_is n = refl

module _ (xs : List ℕ) (n : ℕ) (b : Bool) (is : nat_lt 8192 n ≡ b) where
  number_parts : xs ++ room_line n ≡ number_front xs n ++ (behind ++ crowds_text b)
  number_parts =
      ap (λ (z : List ℕ). xs ++ z) (room_is n)
      ∙ ap (λ (c : Bool). xs ++ (((before ++ 32 ∷ decimal n) ++ behind) ++ crowds_text c)) is
      ∙ ap (λ (z : List ℕ). xs ++ z) (append_assoc (before ++ 32 ∷ decimal n) behind (crowds_text b))
      ∙ sym (append_assoc xs (before ++ 32 ∷ decimal n) (behind ++ crowds_text b))
      ∙ ap (λ (z : List ℕ). z ++ (behind ++ crowds_text b)) (sym (append_assoc xs before (32 ∷ decimal n)))

  crowd_parts : xs ++ room_line n ≡ crowd_front xs n b ++ crowd_byte b ∷ crowded
  crowd_parts =
      number_parts
      ∙ ap (λ (z : List ℕ). number_front xs n ++ (behind ++ z)) (crowds_parts b)
      ∙ ap (λ (z : List ℕ). number_front xs n ++ z) (sym (append_assoc behind (crowd_words b) (crowd_byte b ∷ crowded)))
      ∙ sym (append_assoc (number_front xs n) (behind ++ crowd_words b) (crowd_byte b ∷ crowded))

few_not_many : (n : ℕ) → nat_lt 8192 n ≡ false → n ≤ 8192
few_not_many n f = grind (arith, f)

module _ (xs ys : List ℕ) (m n : ℕ) (few : m ≤ 8192) (same : xs ++ room_line m ≡ ys ++ room_line n) where
  here : nat_lt 8192 m ≡ false
  here = le-ltb 8192 m few

  -- the other is as few
  there : (b : Bool) → nat_lt 8192 n ≡ b → nat_lt 8192 n ≡ false
  there false is = is
  there true is =
      let z : 111 ≡ 97 = byte_before (crowd_front xs m false) (crowd_front ys n true) crowded 111 97 (sym (crowd_parts xs m false here) ∙ same ∙ crowd_parts ys n true is) in
      absurd (omega (arith, z))

  pub last_number : m ≡ n
  last_number =
      let f = there (nat_lt 8192 n) refl in
      let few_too = few_not_many n f in
      let fronts = append_cancel_right (number_front xs m) (number_front ys n) (behind ++ crowds_text false)
      (sym (number_parts xs m false here) ∙ same ∙ number_parts ys n false f) in
      let small : m < 2 ^ 64 = omega (arith, few) in
      let small_too : n < 2 ^ 64 = omega (arith, few_too) in
      decimal_injective m n small small_too
      (last_digits (xs ++ before) (ys ++ before) (decimal m) (decimal n) (decimal_is_IsNumeral m small).0.1 (decimal_is_IsNumeral n small_too).0.1 fronts)
