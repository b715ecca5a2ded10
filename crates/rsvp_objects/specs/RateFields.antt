-- Rates in fields.
use Rattle.std.specs.Prelude.{ℕ, List, Option, Some, None, Result, Ok, Err, option_and_then}
use Rattle.rsvp_base.specs.declared.flow.Peak.{Peak}
use Rattle.rsvp_objects.specs.declared.rate_err.RateErr.{RateErr}
use Rattle.rsvp_objects.specs.Fields.{word_at}
use Rattle.rsvp_objects.specs.RateFault.{rate_word}

infixl 10 ◌>>=◌
abbrev pub ◌>>=◌ : {A B : Type 0} → Option A → (A → Option B) → Option B
o >>= f = option_and_then f o

abbrev pub peak_in : Result Peak RateErr → Option Peak
peak_in (Ok p) = Some p
peak_in (Err e) = None

-- the rate or infinity of the word at a place
abbrev pub peak_at : ℕ → List ℕ → Option Peak
peak_at place body = peak_in (rate_word (word_at place body))
