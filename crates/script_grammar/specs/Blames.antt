-- What of a bad line breaks the rule: the first word that does, where one alone does; else the line as a whole.
use Rattle.std.specs.Prelude.{◌≡◌, ◌⊎◌, ℕ, ◌+◌, ◌-◌, ◌<◌, ◌≤◌, ◌==◌, List, [], ◌∷◌, Bool, false, ◌||◌, Option, None, Some, drop, length, slice_index, take, if◌then◌else◌}
use Rattle.std.specs.List.{list_any}
use Rattle.std.specs.Str.{byte}
use Rattle.script_words.specs.Flows.{flow_of}
use Rattle.script_words.specs.Words.{words_of}
use Rattle.script_words.specs.declared.raw.FlowWord.{FlowWord}
use Rattle.script_grammar.specs.Draft.{Draft, period_of}
use Rattle.script_grammar.specs.Grammar.{most_line}
use Rattle.script_grammar.specs.declared.fault.Fault.{Fault}
use Rattle.script_grammar.specs.declared.fault.Fault.TheVariants as fault
use Rattle.script_grammar.specs.FirstWords.{IsFirstOut, unformed_from}
use Rattle.script_grammar.specs.KindLaws.{are_formed}
use Rattle.script_grammar.specs.Kinds.{field_at, has_count, kind_of}
use Rattle.script_grammar.specs.LineKinds.{script_line_of}
use Rattle.script_grammar.specs.Names.{named_at}
use Rattle.script_grammar.specs.declared.field.Field.{Field}
use Rattle.script_grammar.specs.declared.field.Field.TheVariants as field
use Rattle.script_grammar.specs.declared.kind.Kind.{Kind}
use Rattle.script_grammar.specs.declared.line.ScriptLine.{ScriptLine}
use Rattle.script_grammar.specs.declared.named.Named.{Named}
use Rattle.line_advice.specs.FlowFaults.{IsFlowFault}
use Rattle.line_advice.specs.declared.flow_faults.FlowFault.{FlowFault}
use Rattle.script_grammar.specs.Breaks.{IsFirstLinked, IsLimit, IsOtherStyle, new_rule, word_behind}
use Rattle.script_grammar.specs.Known.{unknown_from}
use Rattle.script_grammar.specs.declared.blame.Blame.{Blame}
use Rattle.script_grammar.specs.declared.blame.Blame.TheVariants.{Returns, First, Comment, Count, Form, Range, Flow, Unknown, Linked, Styled, Over, Long, Rule}
use Rattle.script_grammar.specs.TreeBlames.{IsTreeBlame}
use Rattle.script_grammar.specs.declared.rule.Rule.{Rule as ARule}
use Rattle.script_grammar.specs.declared.rule.Rule.TheVariants as rule

-- the words of a line behind the first one
abbrev pub behind_first : List (List ℕ) → List (List ℕ)
behind_first words = drop 1 words

-- ---- words that are not of their form: carriage returns stand for line feeds; or the first one is unknown; or a comment stands behind
-- them; or there are too few or too many; or one has not the form of its field
abbrev pub has_return : List ℕ → Bool
has_return word = list_any (λ c. c == 13) word

-- before the last byte
abbrev pub has_inner_return : List ℕ → Bool
has_inner_return word = has_return (take (length word - 1) word)

abbrev pub have_inner_return : List (List ℕ) → Bool
have_inner_return [] = false
have_inner_return (word ∷ []) = has_inner_return word
have_inner_return (word ∷ other ∷ words) = has_return word || have_inner_return (other ∷ words)

-- the place of the first word that begins as a comment, where the first one is at this place
abbrev pub begins_comment : List ℕ → Bool
begins_comment word = slice_index word 0 == byte "#"

abbrev pub comment_from : ℕ → List (List ℕ) → Option ℕ
comment_from place [] = None
comment_from place (word ∷ words) = if begins_comment word then Some place else comment_from (place + 1) words

abbrev pub form_blame : Kind → Option ℕ → Blame
form_blame kind None = Count kind
form_blame kind (Some place) = Form (place + 1) (field_at kind place)

abbrev pub count_blame : Kind → List (List ℕ) → Blame
count_blame kind behind = if has_count kind (length behind) then form_blame kind (unformed_from kind 0 behind) else Count kind

abbrev pub comment_blame : Kind → List (List ℕ) → Option ℕ → Blame
comment_blame kind behind None = count_blame kind behind
comment_blame kind behind (Some place) = Comment (place + 1)

abbrev pub kind_blame : Option Kind → List (List ℕ) → Blame
kind_blame None behind = First
kind_blame (Some kind) behind = comment_blame kind behind (comment_from 0 behind)

abbrev pub word_blame : List (List ℕ) → Blame
word_blame words = if have_inner_return words then Returns else kind_blame (kind_of words) (behind_first words)

-- the words are misread, and this is to blame
pub record IsMisread (words : List (List ℕ)) (blame : Blame) : Type 0 where
  pub unformed : are_formed (kind_of words) (behind_first words) ≡ false
  pub blame_is : blame ≡ word_blame words

-- ---- words out of range: one alone, and of a flow the number; or, where each is in range, all of them together
-- of the word of this number, which is that of a field
abbrev pub IsRangeBlame : ℕ → Field → ℕ → List ℕ → Blame → Type 0
IsRangeBlame period field.Flow number word blame = (flow : FlowWord) × (fault : FlowFault) × (flow_of word ≡ Some flow) × IsFlowFault flow fault × (blame ≡ Flow number fault)
IsRangeBlame period field number word blame = blame ≡ Range number field period

abbrev pub IsPlaceBlame : ℕ → Kind → List (List ℕ) → Option ℕ → Blame → Type 0
IsPlaceBlame period kind behind None blame = blame ≡ Rule rule.InRange kind
IsPlaceBlame period kind behind (Some place) blame = IsRangeBlame period (field_at kind place) (place + 1) (word_behind behind place) blame

abbrev pub IsOutOfRange : ℕ → Option Kind → List (List ℕ) → Blame → Type 0
IsOutOfRange period None behind blame = blame ≡ First
IsOutOfRange period (Some kind) behind blame = (found : Option ℕ) × IsFirstOut period kind behind found × IsPlaceBlame period kind behind found blame

-- ---- names of what no line so far declares: the first such word; or, where each name is declared, the rule for all of them
abbrev pub named_blame : Kind → ℕ → Option Named → Blame
named_blame kind place None = Rule rule.Known kind
named_blame kind place (Some what) = Unknown (place + 1) what

abbrev pub name_blame : Kind → Option ℕ → Blame
name_blame kind None = Rule rule.Known kind
name_blame kind (Some place) = named_blame kind place (named_at kind place)

abbrev pub unknown_blame : Draft → Option Kind → List (List ℕ) → Blame
unknown_blame d None behind = First
unknown_blame d (Some kind) behind = name_blame kind (unknown_from d kind 0 behind)

-- ---- what is there already: of a link the first end that is in another one; else by the kind of the line
abbrev pub linked_blame : Kind → Option ℕ → Blame
linked_blame kind None = Count kind
linked_blame kind (Some place) = Linked (place + 1)

abbrev pub IsNewBlame : Draft → Kind → List (List ℕ) → Option ARule → Blame → Type 0
IsNewBlame d kind behind (Some broken) blame = blame ≡ Rule broken kind
IsNewBlame d kind behind None blame = (found : Option ℕ) × IsFirstLinked d behind found × (blame ≡ linked_blame kind found)

abbrev pub IsThere : Draft → Option Kind → List (List ℕ) → Blame → Type 0
IsThere d None behind blame = blame ≡ First
IsThere d (Some kind) behind blame = IsNewBlame d kind behind (new_rule d kind behind) blame

-- ---- a limit that is passed
abbrev pub IsPassed : Draft → Option Kind → List (List ℕ) → Blame → Type 0
IsPassed d None behind blame = blame ≡ First
IsPassed d (Some kind) behind blame = (broken : ARule) × IsLimit d kind behind broken × (blame ≡ Rule broken kind)

-- ---- another style than the one that stands
abbrev pub IsOfOtherStyle : Draft → List (List ℕ) → Blame → Type 0
IsOfOtherStyle d words (Styled style) = IsOtherStyle d (behind_first words) style
IsOfOtherStyle d words _ = ⊥

-- ---- another rule, by the kind of the line
abbrev pub rule_blame : ARule → Option Kind → Blame
rule_blame broken None = First
rule_blame broken (Some kind) = Rule broken kind

-- ---- what is to blame for a fault behind these lines, of a line that says this in these words
abbrev pub IsBlamedOf : Draft → Option ScriptLine → List (List ℕ) → Fault → Blame → Type 0
IsBlamedOf d said words fault.Word blame = blame ≡ word_blame words
IsBlamedOf d said words fault.Late blame = blame ≡ rule_blame rule.InTime (kind_of words)
IsBlamedOf d said words fault.Range blame = IsOutOfRange (period_of d) (kind_of words) (behind_first words) blame
IsBlamedOf d said words fault.Name blame = blame ≡ unknown_blame d (kind_of words) (behind_first words)
IsBlamedOf d said words fault.Twice blame = IsThere d (kind_of words) (behind_first words) blame
IsBlamedOf d said words fault.Style blame = IsOfOtherStyle d words blame
IsBlamedOf d said words fault.Limit blame = IsPassed d (kind_of words) (behind_first words) blame
IsBlamedOf d said words fault.NotTree blame = IsTreeBlame d said blame
IsBlamedOf d said words (fault.Over much) blame = blame ≡ Over much
IsBlamedOf d said words (fault.Loop group from to) blame = blame ≡ rule_blame rule.LoopFree (kind_of words)

-- of a line that is too long its length
abbrev pub IsBlamed : Draft → List ℕ → Fault → Blame → Type 0
IsBlamed d line why blame = ((most_line < length line) × (blame ≡ Long)) ⊎ ((length line ≤ most_line) × IsBlamedOf d (script_line_of line) (words_of line) why blame)
