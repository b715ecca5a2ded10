-- What the text of a replay says of the ends, read back from its lines.
use Rattle.std.specs.Prelude.{◌≡◌, ℕ, ◌<◌, ◌≤◌, ◌^◌, true, List, [], ◌∷◌, Some, codes}
use Rattle.rsvp_base.specs.Members.{In}
use Rattle.value_texts.specs.Reports.{head_text}
use Rattle.rsvp_base.specs.EndNames.{is_name}
use Rattle.script_words.specs.Numbers.{number_of}
use Rattle.script_words.specs.Words.{words_of}
use Rattle.network_model.specs.Runs.{Plan, run_text}
use Rattle.script_grammar.specs.Grammar.{IsScript}
use Rattle.script_run.specs.Lines.{whole_lines}

-- the line reads as the head of a report: end NAME held SUM of CAPACITY
pub record IsHead (line : List ℕ) (held capacity : ℕ) : Type 0 where
  pub name : List ℕ
  pub sum : List ℕ
  pub most : List ℕ
  pub words : words_of line ≡ codes "end" ∷ name ∷ codes "held" ∷ sum ∷ codes "of" ∷ most ∷ []
  pub held_is : number_of sum ≡ Some held
  pub capacity_is : number_of most ≡ Some capacity

-- a head that is written is one line, which reads as what it says
abbrev pub HeadsAreRead : Type 0
HeadsAreRead =
    (name : List ℕ) (held capacity : ℕ) → is_name name ≡ true → held < 2 ^ 64 → capacity < 2 ^ 64
    → (line : List ℕ) × (whole_lines (head_text name held capacity) ≡ line ∷ []) × IsHead line held capacity

-- where it reads as one, the sum is at most the capacity
abbrev pub IsWithin : List ℕ → Type 0
IsWithin line = (held capacity : ℕ) → IsHead line held capacity → held ≤ capacity

-- no line that stands whole in the text, with its line feed, says of an end that it holds more than its capacity
abbrev pub TellsWithinCapacity : List ℕ → Type 0
TellsWithinCapacity text = (line : List ℕ) → In line (whole_lines text) → IsWithin line

abbrev pub EachScriptTellsWithinCapacity : Type 0
EachScriptTellsWithinCapacity = (bytes : List ℕ) (p : Plan) → IsScript bytes p → TellsWithinCapacity (run_text p)
