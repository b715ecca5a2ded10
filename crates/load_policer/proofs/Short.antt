-- No text of what is wanted of a line is longer than there is room for.
use Rattle.std.proofs.Common.{ℕ, ◌<◌, ◌≤◌, ◌^◌, length, arith, length-append}
use Rattle.std.proofs.lemmas.Fmt.{length-decimal-le}
use Rattle.std.specs.Prelude.{codes}
use Rattle.std.specs.Fmt.{decimal}
use Rattle.line_advice.specs.Blamed.{most_wanted}
use Rattle.load_policer.specs.Advice.{early_text, wanted_text}
use Rattle.load_policer.specs.declared.blame.Blame.{Blame}
use Rattle.load_policer.specs.declared.blame.Blame.TheVariants.{Long, NoFlow, SecondFlow, FlowCount, FlowForm, FlowRange, PacketCount, TimeForm, TimeRange, Early, SizeForm, SizeRange}

pub early_short : (last : ℕ) → last < 2 ^ 64 → length (early_text last) ≤ most_wanted
unfolding early_text
early_short last small =
    let digits : length (decimal last) ≤ 20 = length-decimal-le 20 last (omega arith) (omega (arith, small)) small in
    omega (arith, length-append (decimal last) (codes " microseconds, and none comes before it"), digits)

-- all but a time that is too early, whose text names a number
abbrev IsPlain : Blame → Type 0
IsPlain (Early last) = ⊥
IsPlain _ = Unit {0}

pub wanted_short : (blame : Blame) → IsPlain blame → length (wanted_text blame) ≤ most_wanted
wanted_short (Early last) plain = absurd plain
wanted_short Long plain = omega arith
wanted_short NoFlow plain = omega arith
wanted_short SecondFlow plain = omega arith
wanted_short (FlowCount word) plain = omega arith
wanted_short FlowForm plain = omega arith
wanted_short FlowRange plain = omega arith
wanted_short (PacketCount word) plain = omega arith
wanted_short TimeForm plain = omega arith
wanted_short TimeRange plain = omega arith
wanted_short SizeForm plain = omega arith
wanted_short SizeRange plain = omega arith
