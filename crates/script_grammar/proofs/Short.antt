-- No text of what is wanted of a line is longer than there is room for.
use Rattle.std.proofs.Common.{ℕ, ◌+◌, ◌<◌, ◌≤◌, ◌^◌, List, ◌++◌, length, arith, length-append}
use Rattle.std.proofs.lemmas.Fmt.{length-decimal-le, length-decimal-le_wide}
use Rattle.std.specs.Prelude.{codes}
use Rattle.std.specs.Fmt.{decimal}
use Rattle.line_advice.specs.Blamed.{most_wanted}
use Rattle.line_advice.specs.FlowTexts.{flow_fault_text, large_text, letter_text, nearest_head, nearest_text}
use Rattle.line_advice.specs.declared.flow_faults.FlowFault.{FlowFault}
use Rattle.line_advice.specs.declared.flow_faults.FlowFault.TheVariants.{Zero, Large, NoRate, NoUnit, LargeUnit, LargePacket}
use Rattle.line_advice.specs.declared.flow_faults.FlowRate.{FlowRate}
use Rattle.line_advice.specs.declared.flow_faults.FlowRate.TheVariants.{R, B, P}
use Rattle.network_model.specs.declared.excess.Excess.TheVariants.{Packet, Rate}
use Rattle.rsvp_base.specs.declared.style.StyleKind.TheVariants.{Wild, Fixed, Shared}
use Rattle.script_grammar.specs.Draft.{lifetime_of_period, wall_lifetime_of_period}
use Rattle.script_grammar.specs.declared.field.Field.{Field}
use Rattle.script_grammar.specs.declared.field.Field.TheVariants as field
use Rattle.script_grammar.specs.Advice.{capacity_head, excess_text, style_head, sum_head, wanted_text}
use Rattle.script_grammar.specs.FieldTexts.{range_text}
use Rattle.script_grammar.specs.declared.blame.Blame.{Blame}
use Rattle.script_grammar.specs.declared.blame.Blame.TheVariants.{Returns, First, Comment, Count, Form, Range, Flow, Unknown, Linked, Styled, Over, Long, Hop, Rule}

-- ---- numbers
pub number_short : (n : ℕ) → n < 2 ^ 64 → length (decimal n) ≤ 20
number_short n small = length-decimal-le 20 n (omega arith) (omega (arith, small)) small

pub wide_short : (n : ℕ) → n < 2 ^ 128 → length (decimal n) ≤ 39
wide_short n small = length-decimal-le_wide 39 n (omega arith) (omega (arith, small)) (omega (arith, small))

-- ---- blames whose text is the same each time, but for the style
abbrev IsPlain : Blame → Type 0
IsPlain Returns = Unit {0}
IsPlain (Comment word) = Unit {0}
IsPlain (Linked word) = Unit {0}
IsPlain (Styled style) = Unit {0}
IsPlain Long = Unit {0}
IsPlain _ = ⊥

pub plain_short : (blame : Blame) → IsPlain blame → length (wanted_text blame) ≤ most_wanted
unfolding style_head
plain_short Returns plain = omega arith
plain_short (Comment word) plain = omega arith
plain_short (Linked word) plain = omega arith
plain_short (Styled Wild) plain = omega arith
plain_short (Styled Fixed) plain = omega arith
plain_short (Styled Shared) plain = omega arith
plain_short Long plain = omega arith
plain_short First plain = absurd plain
plain_short (Count kind) plain = absurd plain
plain_short (Form word field) plain = absurd plain
plain_short (Range word field period) plain = absurd plain
plain_short (Flow word fault) plain = absurd plain
plain_short (Unknown word what) plain = absurd plain
plain_short (Over much) plain = absurd plain
plain_short (Hop word why) plain = absurd plain
plain_short (Rule rule kind) plain = absurd plain

-- ---- ranges
abbrev HasRange : Field → Type 0
HasRange field.Left = ⊥
HasRange field.WallLeft = ⊥
HasRange _ = Unit {0}

pub range_short : (period : ℕ) (f : Field) → HasRange f → length (range_text period f) ≤ most_wanted
range_short period field.Left plain = absurd plain
range_short period field.WallLeft plain = absurd plain
range_short period field.Period plain = omega arith
range_short period field.Seed plain = omega arith
range_short period field.Name plain = omega arith
range_short period field.Host plain = omega arith
range_short period field.Capacity plain = omega arith
range_short period field.Mtu plain = omega arith
range_short period field.Latency plain = omega arith
range_short period field.Group plain = omega arith
range_short period field.Address plain = omega arith
range_short period field.Session plain = omega arith
range_short period field.Sender plain = omega arith
range_short period field.Senders plain = omega arith
range_short period field.Addresses plain = omega arith
range_short period field.Anyone plain = omega arith
range_short period field.Style plain = omega arith
range_short period field.Flow plain = omega arith
range_short period field.Sub plain = omega arith
range_short period field.Target plain = omega arith
range_short period field.Switch plain = omega arith
range_short period field.Digits plain = omega arith
range_short period field.Confirm plain = omega arith
range_short period field.Wait plain = omega arith
range_short period field.Passes plain = omega arith
range_short period field.Rounds plain = omega arith
range_short period field.Place plain = omega arith

pub lifetime_short : (period : ℕ) → length (decimal (lifetime_of_period period)) ≤ 20 → length (range_text period field.Left) ≤ most_wanted
lifetime_short period digits = omega (arith, digits)

pub wall_lifetime_short : (period : ℕ) → length (decimal (wall_lifetime_of_period period)) ≤ 20 → length (range_text period field.WallLeft) ≤ most_wanted
wall_lifetime_short period digits = omega (arith, digits)

-- ---- flows
letter_short : (rate : FlowRate) → length (letter_text rate) ≤ 1
letter_short R = omega arith
letter_short B = omega arith
letter_short P = omega arith

pub nearest_short : (rate : FlowRate) (below above : ℕ) → length (decimal below) ≤ 20 → length (decimal above) ≤ 20 → length (flow_fault_text (NoRate rate below above)) ≤ most_wanted
unfolding nearest_text nearest_head
nearest_short rate below above first second =
    omega (
      arith,
      length-append (letter_text rate) (nearest_text below above),
      length-append nearest_head (decimal below),
      length-append (nearest_head ++ decimal below) (codes " and "),
      length-append (nearest_head ++ decimal below ++ codes " and ") (decimal above),
      letter_short rate,
      first,
      second,
    )

abbrev IsConstant : FlowFault → Type 0
IsConstant (NoRate rate below above) = ⊥
IsConstant _ = Unit {0}

pub flow_short : (fault : FlowFault) → IsConstant fault → length (flow_fault_text fault) ≤ most_wanted
unfolding large_text
flow_short (NoRate rate below above) constant = absurd constant
flow_short (Zero rate) constant = omega (arith, length-append (letter_text rate) (codes " is at least 1"), letter_short rate)
flow_short (Large rate) constant = omega (arith, length-append (letter_text rate) large_text, letter_short rate)
flow_short NoUnit constant = omega arith
flow_short LargeUnit constant = omega arith
flow_short LargePacket constant = omega arith

-- ---- what an end has too little of
pub mtu_short : (most mtu : ℕ) → length (decimal mtu) ≤ 20 → length (excess_text (Packet most mtu)) ≤ most_wanted
mtu_short most mtu digits = omega (arith, digits)

pub sum_short : (sum capacity : ℕ) → length (decimal capacity) ≤ 20 → length (decimal sum) ≤ 39 → length (excess_text (Rate sum capacity)) ≤ most_wanted
unfolding capacity_head sum_head
sum_short sum capacity first second =
    omega (
      arith,
      length-append capacity_head (decimal capacity),
      length-append (capacity_head ++ decimal capacity) sum_head,
      length-append (capacity_head ++ decimal capacity ++ sum_head) (decimal sum),
      first,
      second,
    )
