-- The line of text that says what is wrong with a line.
use Rattle.std.specs.Prelude.{◌≡◌, ℕ, List, [], ◌++◌, Option, None, Some, Result, Ok, Err, codes}
use Rattle.std.specs.Fmt.{decimal}
use Rattle.rsvp_base.specs.declared.room.NoMemory.{NoMemory}
use Rattle.script_grammar.specs.Asking.{AsksToBeTaken}
use Rattle.script_grammar.specs.Draft.{Draft}
use Rattle.script_grammar.specs.Grammar.{HasFault, IsBadLine}
use Rattle.network_model.specs.declared.excess.Excess.{Excess}
use Rattle.network_model.specs.declared.excess.Excess.TheVariants.{Packet, Rate}
use Rattle.script_grammar.specs.declared.fault.Fault.{Fault}
use Rattle.line_advice.specs.Blamed.{blamed_line}
use Rattle.line_advice.specs.FlowTexts.{flow_fault_text}
use Rattle.script_grammar.specs.Blames.{IsBlamed}
use Rattle.script_grammar.specs.FieldTexts.{form_text, range_text}
use Rattle.script_grammar.specs.KindTexts.{first_text, usage_text}
use Rattle.script_grammar.specs.Known.{named_text}
use Rattle.script_grammar.specs.RuleTexts.{rule_word, rule_text}
use Rattle.script_grammar.specs.TreeBlames.{hop_text}
use Rattle.script_grammar.specs.declared.blame.Blame.{Blame}
use Rattle.value_texts.specs.Texts.{style_text}
use Rattle.script_grammar.specs.declared.blame.Blame.TheVariants.{Returns, First, Comment, Count, Form, Range, Flow, Unknown, Linked, Styled, Over, Long, Hop, Rule}

-- what an end has, and where it is a capacity, what is asked of it
unfoldable pub capacity_head : List ℕ
capacity_head = codes "the rates of the reservations on END are together at most its CAPACITY, "

unfoldable pub sum_head : List ℕ
sum_head = codes "; with this one they are "

abbrev pub excess_text : Excess → List ℕ
excess_text (Packet most mtu) = codes "M is at most the MTU of END, " ++ decimal mtu
excess_text (Rate sum capacity) = capacity_head ++ decimal capacity ++ sum_head ++ decimal sum

-- what style stands
unfoldable pub style_head : List ℕ
style_head = codes "the wishes of NODE in this session are of the style "

-- the flow, where its packets are too large
abbrev pub excess_word : Excess → Option ℕ
excess_word (Packet most mtu) = Some 6
excess_word (Rate sum capacity) = None

-- what is wanted
abbrev pub wanted_text : Blame → List ℕ
wanted_text Returns = codes "a line ends with a line feed, and here carriage returns stand in its place"
wanted_text First = first_text
wanted_text (Comment word) = codes "a comment is a line of its own, and # is its very first byte"
wanted_text (Count kind) = usage_text kind
wanted_text (Form word field) = form_text field
wanted_text (Range word field period) = range_text period field
wanted_text (Flow word fault) = flow_fault_text fault
wanted_text (Unknown word what) = named_text what
wanted_text (Linked word) = codes "an end is in one link at most, and an earlier line has this one"
wanted_text (Styled style) = style_head ++ style_text style
wanted_text (Over much) = excess_text much
wanted_text Long = codes "a line has at most 2048 bytes, and ends with a line feed"
wanted_text (Hop word why) = hop_text why
wanted_text (Rule rule kind) = rule_text rule kind

-- the number of the word that is to blame, from 0; none where it is the line as a whole
abbrev pub number_of_word : Blame → Option ℕ
number_of_word Returns = None
number_of_word First = Some 0
number_of_word (Comment word) = Some word
number_of_word (Count kind) = None
number_of_word (Form word field) = Some word
number_of_word (Range word field period) = Some word
number_of_word (Flow word fault) = Some word
number_of_word (Unknown word what) = Some word
number_of_word (Linked word) = Some word
number_of_word (Styled style) = Some 3
number_of_word (Over much) = excess_word much
number_of_word (Hop word why) = Some word
number_of_word Long = None
number_of_word (Rule rule kind) = rule_word rule kind

abbrev pub advice_text : List ℕ → Blame → List ℕ
advice_text line blame = blamed_line line (number_of_word blame) (wanted_text blame)

-- this tells what is to blame
pub record IsAdvice (d : Draft) (line : List ℕ) (why : Fault) (text : List ℕ) : Type 0 where
  pub blame : Blame
  pub blamed : IsBlamed d line why blame
  pub told : text ≡ advice_text line blame

-- this does, or nothing was told: memory for it ran out, and a line that has this fault asks for memory
abbrev pub IsAdviceOrNone : Draft → List ℕ → Fault → Result (Unit {0}) NoMemory → List ℕ → Type 0
IsAdviceOrNone d line why (Ok _) text = IsAdvice d line why text
IsAdviceOrNone d line why (Err _) text = (text ≡ []) × (HasFault d line why → AsksToBeTaken d line)

-- the line of this number of these bytes is the first bad one, and what is wrong with it was told
pub record IsToldLine (number : ℕ) (why : Fault) (bytes text : List ℕ) : Type 0 where
  pub bad : IsBadLine bytes number why
  pub told : IsAdvice bad.lines bad.text why text
