-- The claims of the public laws: what a run comes to, in the words of the grammar.
use Rattle.std.specs.Prelude.{◌≡◌, ◌≢◌, ℕ, ◌≤◌, false, List, [], ◌∷◌, codes, length}
use Rattle.rsvp_base.specs.Members.{In}
use Rattle.script_words.specs.Words.{words_of}
use Rattle.script_grammar.specs.Draft.{Draft, plan_of}
use Rattle.script_grammar.specs.Runs.{Plan, is_crowded_run, last_world, run_text}
use Rattle.script_grammar.specs.Grammar.{IsBadLine, IsScript}
use Rattle.script_grammar.specs.declared.fault.Fault.{Fault}
use Rattle.script_run.specs.Asking.{AsksToBeRun}
use Rattle.script_run.specs.Endings.{ComesTo}
use Rattle.script_run.specs.declared.ending.Ending.{Ending}
use Rattle.script_run.specs.declared.ending.Ending.TheVariants.{Done, BadLine}

-- over the same bytes, runs that end neither by a fault of a device nor out of memory come to one ending and one text
abbrev pub OneEnding : Type 0
OneEnding = (bytes x y : List ℕ) (a b : Ending) → ComesTo a bytes x → ComesTo b bytes y → (a ≡ b) × (x ≡ y)

-- the run of a script that is never crowded writes the text of its plan
abbrev pub AScriptIsRun : Type 0
AScriptIsRun = (bytes : List ℕ) (p : Plan) → IsScript bytes p → is_crowded_run p ≡ false → ComesTo Done bytes (run_text p)

-- and nothing else comes to its end
pub record IsRunOfScript (bytes text : List ℕ) : Type 0 where
  pub plan : Plan
  pub script : IsScript bytes plan
  pub roomy : is_crowded_run plan ≡ false
  pub text_is : text ≡ run_text plan

abbrev pub OnlyScriptsAreDone : Type 0
OnlyScriptsAreDone = (bytes text : List ℕ) → ComesTo Done bytes text → IsRunOfScript bytes text

-- a line that ends a run is the first bad one of the script
abbrev pub ABadLineIsFirst : Type 0
ABadLineIsFirst = (bytes text : List ℕ) (number : ℕ) (why : Fault) → ComesTo (BadLine number why) bytes text → IsBadLine bytes number why

-- ---- lines that ask for no memory
abbrev pub free_words : List (List ℕ)
free_words = codes "wait" ∷ codes "pass" ∷ codes "rounds" ∷ codes "deliver" ∷ codes "lose" ∷ codes "copy" ∷ codes "clear" ∷ []

-- one of these is the first of at most nine words
pub record IsFreeLine (text : List ℕ) : Type 0 where
  pub first : List ℕ
  pub behind : List (List ℕ)
  pub words : words_of text ≡ first ∷ behind
  pub free : In first free_words
  pub few : length behind ≤ 8

-- behind the first event, and while the trace is off
abbrev pub FreeLinesAskForNoMemory : Type 0
FreeLinesAskForNoMemory = (d : Draft) (text : List ℕ) → IsFreeLine text → d.events ≢ [] → (last_world (plan_of d)).trace ≡ false → AsksToBeRun d text → ⊥
