-- The script grammar: which bytes are a script, and which line is the first bad one.
use Rattle.std.specs.Prelude.{◌≡◌, ℕ, ◌+◌, ◌-◌, ◌^◌, ◌<◌, ◌≤◌, min, List, [], ◌∷◌, ◌++◌, None, Some, length}
use Rattle.script_words.specs.Lines.{text_lines}
use Rattle.network_model.specs.Runs.{Plan}
use Rattle.script_grammar.specs.Adds.{Adds}
use Rattle.script_grammar.specs.Draft.{Draft, nothing, plan_of}
use Rattle.script_grammar.specs.LineKinds.{script_line_of}
use Rattle.script_grammar.specs.Rules.{BreaksFirst, Closes, Exceeds, Keeps, KeepsAll}
use Rattle.script_grammar.specs.declared.fault.Fault.{Fault}
use Rattle.script_grammar.specs.declared.fault.Fault.TheVariants.{Limit, Word}
use Rattle.script_grammar.specs.declared.line.ScriptLine.{ScriptLine}
use Rattle.script_grammar.specs.declared.line.ScriptLine.TheVariants as line

-- the most bytes of a line, its line feed not counted
abbrev pub most_line : ℕ
most_line = 2048

-- the text is a line that may follow these lines, and leads to those
pub record Follows (d : Draft) (text : List ℕ) (new : Draft) : Type 0 where
  pub short : length text ≤ most_line
  pub said : ScriptLine
  pub reads : script_line_of text ≡ Some said
  pub valid : KeepsAll (Keeps d said)
  pub adds : Adds d said new

-- behind these lines the text has this fault
pub data HasFault (d : Draft) (text : List ℕ) : Fault → Type 0 where
  too_long : most_line < length text → HasFault d text Limit
  unread : length text ≤ most_line → script_line_of text ≡ None → HasFault d text Word
  broken : (said : ScriptLine) (why : Fault) → length text ≤ most_line → script_line_of text ≡ Some said → BreaksFirst (Keeps d said) (Exceeds d said) (Closes d said) why → HasFault d text why

-- these lines lead from the one to the other
abbrev pub Leads : Draft → List (List ℕ) → Draft → Type 0
Leads d [] new = new ≡ d
Leads d (text ∷ texts) new = (next : Draft) × Follows d text next × Leads next texts new

-- the bytes are the lines of this script
pub record IsScript (bytes : List ℕ) (plan : Plan) : Type 0 where
  pub lines : Draft
  pub leads : Leads nothing (text_lines bytes) lines
  pub says : plan ≡ plan_of lines

-- the line is one of part 3: something happens
abbrev pub Happens : ScriptLine → Type 0
Happens line.Skipped = ⊥
Happens (line.Period ms) = ⊥
Happens (line.Seed n) = ⊥
Happens (line.Node name) = ⊥
Happens (line.End l) = ⊥
Happens (line.Link names) = ⊥
Happens (line.Latency l) = ⊥
Happens (line.Hop l) = ⊥
Happens (line.StalePath l) = ⊥
Happens (line.StaleResv l) = ⊥
Happens (line.StaleHopWall l) = ⊥
Happens (line.StaleSenderWall l) = ⊥
Happens _ = Unit {0}

-- line numbers count from 1, and stand still at the end of their type
abbrev pub line_number : ℕ → ℕ
line_number before = min (before + 1) (2 ^ 32 - 1)

-- the lines before form a valid script, and the line of this number behind them has this fault
pub record IsBadLine (bytes : List ℕ) (number : ℕ) (why : Fault) : Type 0 where
  pub before : List (List ℕ)
  pub text : List ℕ
  pub after : List (List ℕ)
  pub parts : text_lines bytes ≡ before ++ text ∷ after
  pub counted : number ≡ line_number (length before)
  pub lines : Draft
  pub leads : Leads nothing before lines
  pub fault : HasFault lines text why
