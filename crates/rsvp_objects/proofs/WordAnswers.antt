-- What a word stands for, or its first fault, as a relation and as a function.
use Rattle.std.proofs.Common.{◌≡◌, ℕ, ◌+◌, ◌*◌, ◌/◌, ◌%◌, ◌^◌, ◌<◌, ◌≤◌, Result, Ok, Err, refl, sym, ◌∙◌, arith, inl, inr}
use Rattle.std.specs.Prelude.{IfOk, IfErr}
use Rattle.std.proofs.lemmas.Bool.{ne_eqb, le-leb, lt-leb}
use Rattle.rsvp_base.specs.declared.flow.Peak.{Peak}
use Rattle.rsvp_base.specs.declared.flow.Peak.TheVariants.{Finite, Infinite}
use Rattle.rsvp_objects.specs.declared.rate_err.RateErr.{RateErr}
use Rattle.rsvp_objects.specs.declared.rate_err.RateErr.TheVariants.{Signed, NotANumber, Fraction, Large}
use Rattle.rsvp_objects.specs.RateWord.{exponent, fraction, IsNormal, StandsFor}
use Rattle.rsvp_objects.specs.RateFault.{IsFirstFault, whole_number, rate_word}

abbrev answer : Result Peak RateErr → Result Peak RateErr
answer r = r

whole_some : (x n : ℕ) → n * 2 ^ 150 ≡ x → n < 2 ^ 46 → whole_number x ≡ answer (Ok (Finite n))
whole_some x n e lt =
    let q : x / 2 ^ 150 ≡ n = omega arith in
    let r : x % 2 ^ 150 ≡ 0 = omega arith in
    rw (q, r, lt-leb (2 ^ 46) n lt) refl

whole_large : (x n : ℕ) → n * 2 ^ 150 ≡ x → 2 ^ 46 ≤ n → whole_number x ≡ answer (Err Large)
whole_large x n e le =
    let q : x / 2 ^ 150 ≡ n = omega arith in
    let r : x % 2 ^ 150 ≡ 0 = omega arith in
    rw (q, r, le-leb (2 ^ 46) n le) refl

whole_none : (x : ℕ) → ((n : ℕ) → n * 2 ^ 150 ≡ x → ⊥) → whole_number x ≡ answer (Err Fraction)
whole_none x never =
    let r : x % 2 ^ 150 ≡ 0 → ⊥ = λ e. never (x / 2 ^ 150) (omega arith) in
    rw (ne_eqb (x % 2 ^ 150) 0 r) refl

normal : (w : ℕ) → IsNormal w → rate_word w ≡ whole_number ((2 ^ 23 + fraction w) * 2 ^ exponent w)
unfolding rate_word
normal w h = rw (h.unsigned, ne_eqb (exponent w) 255 (λ e. let l = h.not_most in omega arith), ne_eqb (exponent w) 0 (λ e. let l = h.not_least in omega arith)) refl

pub read_rate : (w : ℕ) (p : Peak) → StandsFor w p → rate_word w ≡ Ok p
unfolding rate_word
read_rate w (Finite n) (inl h) = rw (h.0, h.1) refl
read_rate w (Finite n) (inr h) = normal w h.normal ∙ whole_some _ n h.scaled h.below
read_rate w Infinite h = rw (h.0, h.1, h.2) refl

pub read_fault : (w : ℕ) (e : RateErr) → IsFirstFault w e → rate_word w ≡ Err e
unfolding rate_word
read_fault w Signed h = rw h refl
read_fault w NotANumber h = rw (h.0, h.1, ne_eqb (fraction w) 0 h.2) refl
read_fault w Fraction (inl h) = rw (h.0, h.1, ne_eqb (fraction w) 0 h.2) refl
read_fault w Fraction (inr h) = normal w h.0 ∙ whole_none _ h.1
read_fault w Large h = normal w h.0 ∙ whole_large _ h.1.0 h.1.1 h.1.2

-- an answer that is right is that of the function
pub rate_word_is : (w : ℕ) (r : Result Peak RateErr) → IfOk r (StandsFor w) → IfErr r (IsFirstFault w) → r ≡ rate_word w
rate_word_is w (Ok p) ok err = sym (read_rate w p ok)
rate_word_is w (Err e) ok err = sym (read_fault w e err)

pub only_answer : (w : ℕ) (r : Result Peak RateErr) → IfOk r (StandsFor w) → IfErr r (IsFirstFault w) → (p : Peak) → StandsFor w p → r ≡ Ok p
only_answer w r ok err p is = rate_word_is w r ok err ∙ read_rate w p is
