-- No advice is longer than the room that there is for it.
use Rattle.std.proofs.Common.{◌≡◌, ℕ, ◌+◌, ◌*◌, ◌<◌, ◌≤◌, ◌^◌, ◌==◌, ◌/◌, ◌%◌, List, [], ◌∷◌, ◌++◌, Bool, true, false, ◌||◌, Option, None, Some, length, take, arith, length-append, length-take}
use Rattle.std.proofs.lemmas.Fmt.{length-decimal-le}
use Rattle.std.specs.Prelude.{codes, find, not, nat_eq, nat_le, if◌then◌else◌}
use Rattle.std.specs.List.{flat_map, starts_with}
use Rattle.std.specs.Fmt.{decimal}
use Rattle.std.specs.Str.{byte}
use Rattle.value_texts.specs.Quotes.{backslash, byte_text, cut_mark, hex_digit, is_visible, kind_text, most_shown, named_byte, order_mark, quote, quoted, strange_text}
use Rattle.line_advice.specs.Blamed.{blamed_text, most_advice, most_wanted}

if_short : (b : Bool) (x y : List ℕ) (k : ℕ) → length x ≤ k → length y ≤ k → length (if b then x else y) ≤ k
if_short true x y k h g = h
if_short false x y k h g = g

byte_short : (c : ℕ) → length (byte_text c) ≤ 4
unfolding byte_text
byte_short c =
    let named : List ℕ = backslash ∷ byte "x" ∷ hex_digit (c / 16) ∷ hex_digit (c % 16) ∷ [] in
    let plain : List ℕ = if is_visible c then c ∷ [] else named in
    let marked : List ℕ = if c == backslash || c == quote then backslash ∷ c ∷ [] else plain in
    let other : List ℕ = if c == 13 then backslash ∷ byte "r" ∷ [] else marked in
    let plain_short : length plain ≤ 4 = if_short (is_visible c) (c ∷ []) named 4 (omega arith) (omega arith) in
    let marked_short : length marked ≤ 4 = if_short (c == backslash || c == quote) (backslash ∷ c ∷ []) plain 4 (omega arith) plain_short in
    let other_short : length other ≤ 4 = if_short (c == 13) (backslash ∷ byte "r" ∷ []) marked 4 (omega arith) marked_short in
    if_short (c == 9) (backslash ∷ byte "t" ∷ []) other 4 (omega arith) other_short

bytes_short : (bs : List ℕ) → length (flat_map byte_text bs) ≤ 4 * length bs
bytes_short [] = omega arith
bytes_short (b ∷ bs) = omega (arith, length-append (byte_text b) (flat_map byte_text bs), byte_short b, bytes_short bs)

mark_short : (word : List ℕ) → length (cut_mark word) ≤ 2
mark_short word = if_short (nat_le (length word) most_shown) [] (codes "..") 2 (omega arith) (omega arith)

pub quoted_short : (word : List ℕ) → length (quoted word) ≤ 164
unfolding quoted
quoted_short word =
    let few : length (take most_shown word) ≤ 40 = omega (arith, length-take most_shown word) in
    omega (
      arith,
      length-append (flat_map byte_text (take most_shown word)) (quote ∷ []),
      length-append (flat_map byte_text (take most_shown word) ++ (quote ∷ [])) (cut_mark word),
      bytes_short (take most_shown word),
      few,
      mark_short word,
    )

kind_short : (c : ℕ) → length (kind_text c) ≤ 40
kind_short c =
    let last : List ℕ = codes " is no printable ASCII character" in
    let null : List ℕ = if c == 0 then codes " is a NUL" else last in
    let return : List ℕ = if c == 13 then codes " is a carriage return" else null in
    let null_short : length null ≤ 40 = if_short (c == 0) (codes " is a NUL") last 40 (omega arith) (omega arith) in
    let return_short : length return ≤ 40 = if_short (c == 13) (codes " is a carriage return") null 40 (omega arith) null_short in
    if_short (c == 9) (codes " is a tab") return 40 (omega arith) return_short

named_short : (found : Option ℕ) → length (named_byte found) ≤ 64
named_short None = omega arith
named_short (Some c) = omega (arith, length-append (byte_text c) (kind_text c), byte_short c, kind_short c)

pub strange_short : (word : List ℕ) → length (strange_text word) ≤ 64
unfolding strange_text
strange_short word =
    let mark : List ℕ = codes "; " ++ flat_map byte_text order_mark ++ codes " is a byte order mark" in
    let named : List ℕ = named_byte (find (λ c. not (is_visible c)) word) in
    let shown : length (flat_map byte_text order_mark) ≤ 12 = bytes_short order_mark in
    let mark_fits : length mark ≤ 64 = omega (arith, length-append (flat_map byte_text order_mark) (codes " is a byte order mark"), shown) in
    if_short (starts_with nat_eq word order_mark) mark named 64 mark_fits (named_short (find (λ c. not (is_visible c)) word))

pub joined : (a b c d e f g : List ℕ) → length (a ++ b ++ c ++ d ++ e ++ f ++ g) ≡ length a + (length b + (length c + (length d + (length e + (length f + length g)))))
joined a b c d e f g =
    omega (
      arith,
      length-append a b,
      length-append (a ++ b) c,
      length-append (a ++ b ++ c) d,
      length-append (a ++ b ++ c ++ d) e,
      length-append (a ++ b ++ c ++ d ++ e) f,
      length-append (a ++ b ++ c ++ d ++ e ++ f) g,
    )

pub whole_short : (wanted : List ℕ) → length wanted ≤ most_wanted → length (blamed_text None wanted) ≤ most_advice
unfolding blamed_text
whole_short wanted few = omega (arith, few)

pub word_short : (column : ℕ) (word wanted : List ℕ) → column < 2 ^ 64 → length wanted ≤ most_wanted → length (blamed_text (Some (column, word)) wanted) ≤ most_advice
unfolding blamed_text
word_short column word wanted small few =
    let all = joined (codes "  column ") (decimal column) (codes ", ") (quoted word) (codes ": ") wanted (strange_text word) in
    let digits : length (decimal column) ≤ 20 = length-decimal-le 20 column (omega arith) (omega (arith, small)) small in
    omega (arith, all, digits, quoted_short word, strange_short word, few)
