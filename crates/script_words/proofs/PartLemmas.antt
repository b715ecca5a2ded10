-- Parts and lines of a text, by the place of the first separator.
use Rattle.std.proofs.Common.{◌≡◌, ℕ, suc, ◌<◌, ◌≤◌, ◌+◌, ◌-◌, List, [], ◌∷◌, ◌==◌, cond, Bool, refl, sym, ap, ◌∙◌, length, take, drop, inl, inr, arith, None, Some, option_map}
use Rattle.std.specs.List.{position, position_or_len}
use Rattle.std.proofs.lemmas.Bool.Decides.{leb_tells, eqb_tells}
use Rattle.std.proofs.lemmas.List.{take_rest, drop-drop}
use Rattle.std.proofs.lemmas.List.Sums.{fails_before_first}
use Rattle.std.proofs.lemmas.List.Splits.{slice_split_none, slice_split_first, length-slice_split}
use Rattle.script_words.specs.Parts.{parts_of, two, three, four, five}
use Rattle.script_words.specs.Lines.{text_lines, without_empty_last}

-- the place of the first element that passes
place_of : {X : Type 0} (p : X → Bool) (xs : List X) (at : ℕ) → position p xs ≡ Some at → (at ≡ position_or_len p xs) × (at < length xs)
place_of p xs at is = elim (leb_tells (suc (position_or_len p xs)) (length xs)) [
  | inl t ↦ (let e : position p xs ≡ Some (position_or_len p xs) = ap (λ b. cond b (Some (position_or_len p xs)) None) t.0 in
      let same : at ≡ position_or_len p xs = cc in (same, omega arith))
  | inr f ↦ (let e : position p xs ≡ None = ap (λ b. cond b (Some (position_or_len p xs)) None) f.0 in absurd (cc))
]

-- no element passes
none_passes : {X : Type 0} (p : X → Bool) (xs : List X) → position p xs ≡ None → length xs ≤ position_or_len p xs
none_passes p xs is = elim (leb_tells (suc (position_or_len p xs)) (length xs)) [
  | inl t ↦ (let e : position p xs ≡ Some (position_or_len p xs) = ap (λ b. cond b (Some (position_or_len p xs)) None) t.0 in absurd (cc))
  | inr f ↦ omega arith
]

-- a text without a separator is one part
pub parts_none : (separator : ℕ) (text : List ℕ) → position (λ c. c == separator) text ≡ None → parts_of separator text ≡ text ∷ []
parts_none separator text is =
    slice_split_none (λ c. c == separator) text (λ k d h. fails_before_first (λ c. c == separator) text k d (omega (arith, none_passes (λ c. c == separator) text is)))

-- what is in front of the first separator is the first part
pub parts_found : (separator : ℕ) (text first behind : List ℕ) (at : ℕ) → position (λ c. c == separator) text ≡ Some at → first ≡ take at text → behind ≡ drop at text
    → parts_of separator text ≡ first ∷ parts_of separator (take (length behind - 1) (drop 1 behind))
parts_found separator text first behind at is f b =
    let place = place_of (λ c. c == separator) text at is in
    let more : position_or_len (λ c. c == separator) text < length text = omega (arith, place.0, place.1) in
    let e : take (length behind - 1) (drop 1 behind) ≡ drop (position_or_len (λ c. c == separator) text + 1) text =
    take_rest behind 1 ∙ ap (drop 1) b ∙ drop-drop 1 at text ∙ ap (λ n. drop n text) (let s : at + 1 ≡ position_or_len (λ c. c == separator) text + 1 = ap (λ n. n + 1) place.0 in s) in
    slice_split_first (λ c. c == separator) text 0 more ∙ ap (λ x. x ∷ parts_of separator (drop (position_or_len (λ c. c == separator) text + 1) text)) (sym (f ∙ ap (λ n. take n text) place.0))
    ∙ ap (λ x. first ∷ parts_of separator x) (sym e)

-- behind a line feed the lines go on
on_first : (line : List ℕ) (parts : List (List ℕ)) → 0 < length parts → without_empty_last (line ∷ parts) ≡ line ∷ without_empty_last parts
on_first line [] h = absurd (omega arith)
on_first line (part ∷ parts) h = refl

pub lines_found : (text first behind : List ℕ) → parts_of 10 text ≡ first ∷ parts_of 10 behind → text_lines text ≡ first ∷ text_lines behind
lines_found text first behind e =
    ap without_empty_last e ∙ on_first first (parts_of 10 behind) (omega (arith, length-slice_split (λ c. c == 10) behind))

is_last : (line : List ℕ) → 0 < length line → without_empty_last (line ∷ []) ≡ line ∷ []
is_last [] some = absurd (omega arith)
is_last (c ∷ cs) some = elim (eqb_tells (suc (length cs)) 0) [
  | inl t ↦ absurd (omega arith)
  | inr f ↦ ap (λ b. cond b [] ((c ∷ cs) ∷ [])) f.0
]

-- a text without a line feed is one line
pub lines_none : (text : List ℕ) → 0 < length text → parts_of 10 text ≡ text ∷ [] → text_lines text ≡ text ∷ []
lines_none text some e = ap without_empty_last e ∙ is_last text some

-- two members in front of others are no pair
pub two_none : {X : Type 0} (a b : X) (rest : List X) → 0 < length rest → two (a ∷ b ∷ rest) ≡ None
two_none a b [] some = absurd (omega arith)
two_none a b (x ∷ rest) some = refl

pub some_parts : (separator : ℕ) (text : List ℕ) → 0 < length (parts_of separator text)
some_parts separator text = omega (arith, length-slice_split (λ c. c == separator) text)

-- one member in front of three, of four
pub four_of : {X : Type 0} (a : X) (rest : List X) → four (a ∷ rest) ≡ option_map (λ p. (a, p.0, p.1, p.2)) (three rest)
four_of a [] = refl
four_of a (b ∷ []) = refl
four_of a (b ∷ c ∷ []) = refl
four_of a (b ∷ c ∷ d ∷ []) = refl
four_of a (b ∷ c ∷ d ∷ e ∷ rest) = refl

pub five_of : {X : Type 0} (a : X) (rest : List X) → five (a ∷ rest) ≡ option_map (λ p. (a, p.0, p.1, p.2, p.3)) (four rest)
five_of a [] = refl
five_of a (b ∷ []) = refl
five_of a (b ∷ c ∷ []) = refl
five_of a (b ∷ c ∷ d ∷ []) = refl
five_of a (b ∷ c ∷ d ∷ e ∷ []) = refl
five_of a (b ∷ c ∷ d ∷ e ∷ f ∷ rest) = refl
