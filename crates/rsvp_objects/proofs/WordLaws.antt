-- The laws of rates and words.
use Rattle.std.proofs.Common.{◌≡◌, ◌^◌, ◌<◌, Result, Ok, refl, sym, ◌∙◌, arith}
use Rattle.rsvp_base.specs.declared.flow.Peak.{Peak}
use Rattle.rsvp_base.specs.declared.flow.Peak.TheVariants.{Finite, Infinite}
use Rattle.rsvp_objects.specs.declared.rate_err.RateErr.{RateErr}
use Rattle.rsvp_objects.specs.RateWord.{StandsFor, word_of}
use Rattle.rsvp_objects.specs.RateLaws.{IsPeak, EachRateHasOneWord, RatesAreTheNumbersWithAWord, AWordStandsForOneRate}
use Rattle.rsvp_objects.proofs.Normal.{word_spells, word_short}
use Rattle.rsvp_objects.proofs.Scaled.{one_word, rate_of_word_number}
use Rattle.rsvp_objects.proofs.WordAnswers.{read_rate}

stands : (p : Peak) → IsPeak p → StandsFor (word_of p) p
unfolding word_of
stands (Finite n) h = word_spells n h
stands Infinite h = (refl, refl, refl)

pub word_small : (p : Peak) → IsPeak p → word_of p < 2 ^ 32
unfolding word_of
word_small (Finite n) h = word_short n h
word_small Infinite h = omega arith

pub each_rate_has_one_word : EachRateHasOneWord
each_rate_has_one_word p h =
    let s = stands p h in
    record { short = word_small p h; stands = s; only = λ w is. one_word p w (word_of p) is s; read = read_rate (word_of p) p s }

pub rates_are_the_numbers_with_a_word : RatesAreTheNumbersWithAWord
rates_are_the_numbers_with_a_word n = (λ h. (word_of (Finite n), stands (Finite n) h), λ w. rate_of_word_number w.0 n w.1)

is_read : {x y : Peak} → ◌≡◌ {A = Result Peak RateErr} (Ok x) (Ok y) → x ≡ y
is_read e = cc

pub a_word_stands_for_one_rate : AWordStandsForOneRate
a_word_stands_for_one_rate w p q s t = is_read (sym (read_rate w p s) ∙ read_rate w q t)
