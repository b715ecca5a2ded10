-- What the words of a command line order.
use Rattle.std.specs.Prelude.{ℕ, ◌^◌, ◌==◌, nat_le, nat_lt, Bool, ◌&&◌, List, ◌∷◌, length, Option, None, Some, codes, option_and_then, if◌then◌else◌}
use Rattle.std.specs.Char.{is_ascii_digit}
use Rattle.std.specs.List.{list_all}
use Rattle.std.specs.Str.{bytes_eq}
use Rattle.std.specs.Str.Parse.{digits_value}
use Rattle.clap.specs.Words.{Text}
use Rattle.command_run.specs.CommandLine.{faults_at, value_at}
use Rattle.command_run.specs.declared.order.Order.{Order}
use Rattle.command_run.specs.declared.order.Order.TheVariants.{Replay, Demand, Show, Grow, Node, Police}

-- an order that no seed stands with
abbrev pub unseeded : Order → Option Text → Option Order
unseeded order None = Some order
unseeded order (Some text) = None

-- 1 to 20 decimal digits, which may begin with zeros
abbrev pub is_numeral : Text → Bool
is_numeral text = nat_le 1 (length text) && (nat_le (length text) 20 && list_all is_ascii_digit text)

abbrev pub below_2_to_64 : ℕ → Option ℕ
below_2_to_64 n = if nat_lt n (2 ^ 64) then Some n else None

-- a seed: what such digits stand for, where that is below 2^64
abbrev pub seed_of : Text → Option ℕ
seed_of text = if is_numeral text then below_2_to_64 (digits_value 10 text) else None

-- `grow` with its seed, which is 1 where none is given
abbrev pub grown : Option Text → Option Order
grown None = Some (Grow 1)
grown (Some text) = option_and_then (λ n. Some (Grow n)) (seed_of text)

-- a verb and the seed that stands with it, if one does
abbrev pub ordered : Text → Option Text → Option Order
ordered verb seed =
    if bytes_eq verb (codes "replay") then unseeded Replay seed else (
    if bytes_eq verb (codes "demand") then unseeded Demand seed else (
    if bytes_eq verb (codes "show") then unseeded Show seed else (
    if bytes_eq verb (codes "grow") then grown seed else (
    if bytes_eq verb (codes "node") then unseeded Node seed else (
    if bytes_eq verb (codes "police") then unseeded Police seed else None)))))

-- the order of a line, which begins with the program's name
abbrev pub order_at : List Text → Option Order
order_at line =
    if length (faults_at line) == 0 then option_and_then (λ verb. ordered verb (value_at (codes "seed") line)) (value_at (codes "verb") line) else None

-- the order of the words behind the program's name: None where they are a faulty command line
abbrev pub order_of : List Text → Option Order
order_of words = order_at (codes "rsvpd" ∷ words)
