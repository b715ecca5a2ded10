-- The laws of rates and words.
use Rattle.std.specs.Prelude.{◌≡◌, ℕ, ◌<◌, ◌^◌, ◌↔◌, Ok}
use Rattle.rsvp_base.specs.Rates.{IsRate}
use Rattle.rsvp_base.specs.declared.flow.Peak.{Peak}
use Rattle.rsvp_base.specs.declared.flow.Peak.TheVariants.{Finite, Infinite}
use Rattle.rsvp_objects.specs.RateWord.{StandsFor, word_of}
use Rattle.rsvp_objects.specs.RateFault.{rate_word}

-- infinity, or a number that is a rate
abbrev pub IsPeak : Peak → Type 0
IsPeak (Finite n) = IsRate n
IsPeak Infinite = Unit {0}

-- the word of a rate has 32 bits, stands for it, is read as it, and no other word stands for it
pub record HasOneWord (p : Peak) : Type 0 where
  pub short : word_of p < 2 ^ 32
  pub stands : StandsFor (word_of p) p
  pub only : (w : ℕ) → StandsFor w p → w ≡ word_of p
  pub read : rate_word (word_of p) ≡ Ok p

abbrev pub EachRateHasOneWord : Type 0
EachRateHasOneWord = (p : Peak) → IsPeak p → HasOneWord p

-- the rates are the numbers that some word stands for
abbrev pub RatesAreTheNumbersWithAWord : Type 0
RatesAreTheNumbersWithAWord = (n : ℕ) → IsRate n ↔ ((w : ℕ) × StandsFor w (Finite n))

-- a word stands for one rate at most
abbrev pub AWordStandsForOneRate : Type 0
AWordStandsForOneRate = (w : ℕ) (p q : Peak) → StandsFor w p → StandsFor w q → p ≡ q
