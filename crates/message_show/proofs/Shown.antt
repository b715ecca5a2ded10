-- Lines of digits, one after another: what is shown of them, and which is the first bad one.
use Rattle.std.specs.Prelude.{◌≡◌, ◌⊎◌, ℕ, ◌≤◌, ◌<◌, List, [], ◌∷◌, ◌++◌, Result, Ok, IsErr, length, suc, refl}
use Rattle.std.specs.List.{All}
use Rattle.std.proofs.Common.{sym, ap, subst, ◌∙◌, append_assoc, append-nil, inl, inr, arith}
use Rattle.std.proofs.lemmas.List.Elements.{All-cons, All-nil, All-get_or, All-tail}
use Rattle.hex.specs.Hex.{decode_of, decode_pairs}
use Rattle.hex.specs.declared.error.FromHexError.{FromHexError}
use Rattle.script_words.specs.Lines.{text_lines, line_number}
use Rattle.script_words.specs.declared.fault.LineErr.{LineErr}
use Rattle.script_words.specs.declared.fault.LineWhy.{LineWhy}
use Rattle.script_words.specs.declared.fault.LineWhy.TheVariants.{Word, Late, Range, Name, Twice, Limit, Over}
use Rattle.message_codec.specs.Laws.{AMessageIsOne, NoFaultWhereSpelt, TheFirstFaultIsOne}
use Rattle.message_show.specs.MessageText.{message_text}
use Rattle.message_show.specs.RefusalText.{refusal_text}
use Rattle.message_show.specs.Readings.{IsReading}
use Rattle.message_show.specs.ShowLines.{most_digits, Says, IsRight, AreRight, IsWrong, IsBadDigits, IsShownOf, AreShown, IsShown}

-- one line more
pub shown_on : (lines : List (List ℕ)) (text : List ℕ) (line more : List ℕ) → AreShown lines text → IsShownOf line more → AreShown (lines ++ line ∷ []) (text ++ more)
shown_on [] text line more e s = (more, [], s, refl, ap (λ t. t ++ more) e ∙ sym (append-nil more))
shown_on (x ∷ xs) text line more a s =
    (a.0, a.1 ++ more, a.2, shown_on xs a.1 line more a.3 s, ap (λ t. t ++ more) a.4 ∙ append_assoc a.0 a.1 more)

-- ---- right lines
empty_says : Says [] []
unfolding decode_pairs
empty_says = record { short = omega arith; digits = refl }

right_of : (line text : List ℕ) → IsShownOf line text → IsRight line
right_of [] text s = ([], empty_says)
right_of (digit ∷ digits) text s = (s.0, s.1)

pub all_right : (lines : List (List ℕ)) (text : List ℕ) → AreShown lines text → All IsRight lines
all_right [] text e = All-nil IsRight
all_right (x ∷ xs) text a = All-cons IsRight x xs (right_of x a.0 a.2) (all_right xs a.1 a.3)

-- a wrong line is not right
err_is : (r : Result (List ℕ) FromHexError) (bytes : List ℕ) → IsErr r → r ≡ Ok bytes → ⊥
err_is r bytes e o = cc

-- the two reasons
wrong_by : (line : List ℕ) (why : LineWhy) → IsWrong line why → ((why ≡ Limit) × (most_digits < length line)) ⊎ ((why ≡ Word) × (length line ≤ most_digits) × IsErr (decode_of line))
wrong_by line Limit w = inl (refl, w)
wrong_by line Word w = inr (refl, w.0, w.1)
wrong_by line Late w = absurd w
wrong_by line Range w = absurd w
wrong_by line Name w = absurd w
wrong_by line Twice w = absurd w
wrong_by line Over w = absurd w

right_or_wrong : (line : List ℕ) (why : LineWhy) → IsRight line → IsWrong line why → ⊥
right_or_wrong line why r w =
    let short = r.1.short in
    elim (wrong_by line why w) [ inl long ↦ omega (arith, long.1) | inr word ↦ err_is (decode_of line) r.0 word.2 r.1.digits ]

in_the_middle : (xs : List (List ℕ)) (line : List ℕ) (after : List (List ℕ)) → All IsRight (xs ++ line ∷ after) → IsRight line
in_the_middle [] line after all = All-get_or IsRight (line ∷ after) 0 line (omega arith) all
in_the_middle (x ∷ xs) line after all = in_the_middle xs line after (All-tail IsRight x (xs ++ line ∷ after) all)

pub bad_is_not_right_law : (input : List ℕ) (e : LineErr) → AreRight input → IsBadDigits input e → ⊥
bad_is_not_right_law input e all bad = right_or_wrong bad.line e.why (in_the_middle bad.before bad.line bad.after (subst (All IsRight) bad.parts all)) bad.fault

-- ---- one bad line
wrong_one : (line : List ℕ) (a b : LineWhy) → IsWrong line a → IsWrong line b → a ≡ b
wrong_one line a b v w =
    elim (wrong_by line a v) [
      | inl x ↦ elim (wrong_by line b w) [ inl y ↦ x.0 ∙ sym y.0 | inr y ↦ absurd (omega (arith, x.1, y.1)) ]
      | inr x ↦ elim (wrong_by line b w) [ inl y ↦ absurd (omega (arith, x.1, y.1)) | inr y ↦ x.0 ∙ sym y.0 ]
    ]

same_head : {A : Type 0} (x y : A) (xs ys : List A) → x ∷ xs ≡ y ∷ ys → (x ≡ y) × (xs ≡ ys)
same_head x y xs ys e =
    let head : x ≡ y = cc in
    let tail : xs ≡ ys = cc in
    (head, tail)

-- where two lines of one input are wrong behind right ones, they are one line with one fault
first_wrong : (xs : List (List ℕ)) (t : List ℕ) (after : List (List ℕ)) (ys : List (List ℕ)) (u : List ℕ) (behind : List (List ℕ)) (a b : LineWhy)
    → xs ++ t ∷ after ≡ ys ++ u ∷ behind → All IsRight xs → All IsRight ys → IsWrong t a → IsWrong u b → (length xs ≡ length ys) × (a ≡ b)
first_wrong [] t after [] u behind a b e l k f g =
    let same = same_head t u after behind e in
    (refl, wrong_one u a b (subst (λ x. IsWrong x a) same.0 f) g)
first_wrong [] t after (y ∷ ys) u behind a b e l k f g =
    let same = same_head t y after (ys ++ u ∷ behind) e in
    absurd (right_or_wrong y a (All-get_or IsRight (y ∷ ys) 0 y (omega arith) k) (subst (λ x. IsWrong x a) same.0 f))
first_wrong (x ∷ xs) t after [] u behind a b e l k f g =
    let same = same_head x u (xs ++ t ∷ after) behind e in
    absurd (right_or_wrong x b (All-get_or IsRight (x ∷ xs) 0 x (omega arith) l) (subst (λ z. IsWrong z b) (sym same.0) g))
first_wrong (x ∷ xs) t after (y ∷ ys) u behind a b e l k f g =
    let same = same_head x y (xs ++ t ∷ after) (ys ++ u ∷ behind) e in
    let rest = first_wrong xs t after ys u behind a b same.1 (All-tail IsRight x xs l) (All-tail IsRight y ys k) f g in
    (ap suc rest.0, rest.1)

pub one_bad_line_law : (input : List ℕ) (d e : LineErr) → IsBadDigits input d → IsBadDigits input e → d ≡ e
one_bad_line_law input d e x y =
    let one = first_wrong x.before x.line x.after y.before y.line y.after d.why e.why (sym x.parts ∙ y.parts) x.right y.right x.fault y.fault in
    let number : d.line ≡ e.line = x.number ∙ ap line_number one.0 ∙ sym y.number in
    λ i. record { line = number i; why = one.1 i }

-- ---- one text
one_reading : AMessageIsOne → NoFaultWhereSpelt → TheFirstFaultIsOne → (bytes a b : List ℕ) → IsReading bytes a → IsReading bytes b → a ≡ b
one_reading one none first bytes a b (inl x) (inl y) = x.line ∙ ap message_text (one bytes x.message y.message x.spelt y.spelt) ∙ sym y.line
one_reading one none first bytes a b (inl x) (inr y) = absurd (none bytes x.message y.error x.spelt y.first)
one_reading one none first bytes a b (inr x) (inl y) = absurd (none bytes y.message x.error y.spelt x.first)
one_reading one none first bytes a b (inr x) (inr y) = x.line ∙ ap (λ e. refusal_text e.fault) (first bytes x.error y.error x.first y.first) ∙ sym y.line

same_bytes : (line a b : List ℕ) → Says line a → Says line b → a ≡ b
same_bytes line a b x y = let e : ◌≡◌ {A = Result (List ℕ) FromHexError} (Ok a) (Ok b) = sym x.digits ∙ y.digits in cc

one_line : AMessageIsOne → NoFaultWhereSpelt → TheFirstFaultIsOne → (line a b : List ℕ) → IsShownOf line a → IsShownOf line b → a ≡ b
one_line one none first [] a b x y = x ∙ sym y
one_line one none first (digit ∷ digits) a b x y =
    let same = same_bytes (digit ∷ digits) x.0 y.0 x.1 y.1 in
    one_reading one none first y.0 a b (subst (λ bytes. IsReading bytes a) same x.2) y.2

one_text : AMessageIsOne → NoFaultWhereSpelt → TheFirstFaultIsOne → (lines : List (List ℕ)) (a b : List ℕ) → AreShown lines a → AreShown lines b → a ≡ b
one_text one none first [] a b x y = x ∙ sym y
one_text one none first (line ∷ lines) a b x y =
    let here = one_line one none first line x.0 y.0 x.2 y.2 in
    let there = one_text one none first lines x.1 y.1 x.3 y.3 in
    x.4 ∙ (λ i. here i ++ there i) ∙ sym y.4

pub one_text_law : AMessageIsOne → NoFaultWhereSpelt → TheFirstFaultIsOne → (input a b : List ℕ) → IsShown input a → IsShown input b → a ≡ b
one_text_law one none first input a b x y = one_text one none first (text_lines input) a b x y
