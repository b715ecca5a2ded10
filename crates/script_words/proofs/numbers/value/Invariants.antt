use Rattle.std.proofs.Common.{◌≡◌, ◌<◌, ◌^◌, take}
use Rattle.script_words.specs.Numbers.{value_of}
use Rattle.script_words.proofs.numbers.value.Given as goal

abbrev pub invariant-loop-c : goal.invariant-loop-c
invariant-loop-c l = record { front : l.n ≡ value_of (take l.c-index l.digits); small : l.n < 10 ^ l.c-index }
