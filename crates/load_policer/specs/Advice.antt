-- The line of text that says what is wrong with a line.
use Rattle.std.specs.Prelude.{◌≡◌, ℕ, ◌^◌, List, [], ◌++◌, Bool, true, false, Option, None, Some, codes, is_some, nat_lt, option_map, unwrap_or, if◌then◌else◌}
use Rattle.std.specs.Fmt.{decimal}
use Rattle.script_words.specs.Numbers.{number_of}
use Rattle.script_words.specs.declared.fault.LineWhy.{LineWhy}
use Rattle.script_words.specs.declared.fault.LineWhy.TheVariants as why
use Rattle.value_texts.specs.Places.{word_at}
use Rattle.line_advice.specs.Blamed.{blamed_line}
use Rattle.load_policer.specs.Drafts.{Draft}
use Rattle.load_policer.specs.Endings.{IsFirstBad}
use Rattle.load_policer.specs.Grammar.{is_flow_word}
use Rattle.load_policer.specs.declared.blame.Blame.{Blame}
use Rattle.load_policer.specs.declared.blame.Blame.TheVariants.{Long, NoFlow, SecondFlow, FlowCount, FlowForm, FlowRange, PacketCount, TimeForm, TimeRange, Early, SizeForm, SizeRange}
use Rattle.load_policer.specs.declared.ending.Ending.{Ending}
use Rattle.load_policer.specs.declared.ending.Ending.TheVariants.{BadLine}

-- ---- what is to blame
-- the first word; nothing, where there is none
abbrev pub first_of : List ℕ → List ℕ
first_of line = unwrap_or (option_map (λ (p : ℕ × List ℕ). p.1) (word_at line 0)) []

-- there is a word of this number, from 0
abbrev pub has_word : List ℕ → ℕ → Bool
has_word line number = is_some (word_at line number)

-- of a flow line, by whether there are two words and three
abbrev pub flow_blame : Bool → Bool → Blame
flow_blame second true = FlowCount 2
flow_blame false false = FlowCount 0
flow_blame true false = FlowForm

abbrev pub form_blame : List ℕ → Blame
form_blame first = if is_some (number_of first) then SizeForm else TimeForm

-- of a line of a packet
abbrev pub packet_blame : List ℕ → Bool → Bool → Blame
packet_blame first second true = PacketCount 2
packet_blame first false false = PacketCount 0
packet_blame first true false = form_blame first

-- of a line of which a word is wrong, or its place, behind lines with the flow or without it
abbrev pub word_blame : Bool → List ℕ → Bool → Bool → Blame
word_blame true first second third = if is_flow_word first then SecondFlow else packet_blame first second third
word_blame false first second third = if is_flow_word first then flow_blame second third else NoFlow

abbrev pub size_or_time : Option ℕ → Blame
size_or_time None = SizeRange
size_or_time (Some at) = if nat_lt at (2 ^ 63) then SizeRange else TimeRange

-- of a line with a number out of range
abbrev pub range_blame : List ℕ → Blame
range_blame first = if is_flow_word first then FlowRange else size_or_time (number_of first)

-- of a line with this fault, behind lines with the flow or without it, the last packet of which came at this time
abbrev pub blame_of : Bool → ℕ → List ℕ → LineWhy → Blame
blame_of has_flow last line why.Word = word_blame has_flow (first_of line) (has_word line 1) (has_word line 2)
blame_of has_flow last line why.Late = Early last
blame_of has_flow last line why.Range = range_blame (first_of line)
blame_of has_flow last line _ = Long

-- ---- the advice
abbrev pub number_of_word : Blame → Option ℕ
number_of_word Long = None
number_of_word NoFlow = Some 0
number_of_word SecondFlow = Some 0
number_of_word (FlowCount word) = Some word
number_of_word FlowForm = Some 1
number_of_word FlowRange = Some 1
number_of_word (PacketCount word) = Some word
number_of_word TimeForm = Some 0
number_of_word TimeRange = Some 0
number_of_word (Early last) = Some 0
number_of_word SizeForm = Some 1
number_of_word SizeRange = Some 1

unfoldable pub early_text : ℕ → List ℕ
early_text last = codes "the packet before came at " ++ decimal last ++ codes " microseconds, and none comes before it"

abbrev pub wanted_text : Blame → List ℕ
wanted_text Long = codes "a line has at most 2048 bytes"
wanted_text NoFlow = codes "the first line is that of the flow: flow FLOW"
wanted_text SecondFlow = codes "the flow stands once, before all packets"
wanted_text (FlowCount word) = codes "a flow line is: flow FLOW"
wanted_text FlowForm = codes "a flow is r/b/p/m/M: five numbers, of which p may be inf"
wanted_text FlowRange = codes
    "r and b are rates of at least 1, p is a rate or inf, m is from 1 to M, M at most 4294967295; a rate is below 70368744177664 and has no two set bits more than 23 places apart"
wanted_text (PacketCount word) = codes "a packet line is: MICROSECONDS BYTES"
wanted_text TimeForm = codes "microseconds, without a unit: a number is 0, or 1 to 20 digits of which the first is not 0"
wanted_text TimeRange = codes "a time is at most 9223372036854775807 microseconds"
wanted_text (Early last) = early_text last
wanted_text SizeForm = codes "bytes, without a unit: a number is 0, or 1 to 20 digits of which the first is not 0"
wanted_text SizeRange = codes "a packet has 1 to 65535 bytes"

abbrev pub advice_text : List ℕ → Blame → List ℕ
advice_text line blame = blamed_line line (number_of_word blame) (wanted_text blame)

-- the advice on a line of this fault, behind lines with the flow or without it, the last packet of which came at this time
abbrev pub IsAdviceFor : Bool → ℕ → List ℕ → LineWhy → List ℕ → Type 0
IsAdviceFor has_flow last line fault text = text ≡ advice_text line (blame_of has_flow last line fault)

abbrev pub IsAdvice : Draft → List ℕ → LineWhy → List ℕ → Type 0
IsAdvice d line fault text = IsAdviceFor (is_some d.flow) d.last line fault text

-- and of the bad line of these bytes
pub record IsAdvisedLine (number : ℕ) (fault : LineWhy) (bytes text : List ℕ) : Type 0 where
  pub said : List ℕ
  pub bad : IsFirstBad number fault bytes said
  pub advised : IsAdvice bad.at.ran.draft bad.at.line fault text

-- where no line is bad, there is no advice
abbrev pub IsAdvised : Ending → List ℕ → List ℕ → Type 0
IsAdvised (BadLine number fault) bytes text = IsAdvisedLine number fault bytes text
IsAdvised _ bytes text = text ≡ []
