-- Flows in words.
use Rattle.std.specs.Prelude.{ℕ, ◌≤◌, ◌<◌, ◌^◌, List, Option, None, Some, codes, option_map, if◌then◌else◌}
use Rattle.std.specs.Str.{bytes_eq, byte}
use Rattle.rsvp_base.specs.Rates.{IsRate}
use Rattle.rsvp_base.specs.TokenBucket.{TokenBucket}
use Rattle.rsvp_base.specs.declared.flow.Peak.{Peak}
use Rattle.rsvp_base.specs.declared.flow.Peak.TheVariants.{Finite, Infinite}
use Rattle.script_words.specs.Steps.{◌>>=◌}
use Rattle.script_words.specs.Parts.{parts_of, five}
use Rattle.script_words.specs.Numbers.{number_of}
use Rattle.script_words.specs.declared.raw.FlowWord.{FlowWord}

-- a peak rate: a number, or `inf`
abbrev pub peak_of : List ℕ → Option (Option ℕ)
peak_of word = if bytes_eq word (codes "inf") then Some None else option_map Some (number_of word)

-- r/b/p/m/M
unfoldable pub flow_of : List ℕ → Option FlowWord
flow_of word = do
  p ← five (parts_of (byte "/") word)
  r ← number_of p.0
  b ← number_of p.1
  peak ← peak_of p.2
  low ← number_of p.3
  most ← number_of p.4
  Some (record { r = r; b = b; p = peak; low = low; most = most })

abbrev pub IsPeak : Option ℕ → Type 0
IsPeak None = Unit {0}
IsPeak (Some n) = IsRate n

abbrev pub peak_value : Option ℕ → Peak
peak_value None = Infinite
peak_value (Some n) = Finite n

-- the numbers of a flow are in range
pub record IsFlow (w : FlowWord) : Type 0 where
  pub rate : IsRate w.r
  pub some_rate : 1 ≤ w.r
  pub depth : IsRate w.b
  pub some_depth : 1 ≤ w.b
  pub peak : IsPeak w.p
  pub some_low : 1 ≤ w.low
  pub low : w.low ≤ w.most
  pub most : w.most < 2 ^ 32

abbrev pub flow_value : FlowWord → TokenBucket
flow_value w = record { r = w.r; b = w.b; p = peak_value w.p; low = w.low; most = w.most }
