-- What it is to run a line behind those that were run.
use Rattle.std.specs.Prelude.{◌≡◌, ℕ, true, List, ◌++◌, Result, Ok, Err}
use Rattle.script_grammar.specs.Runs.{is_crowded_run}
use Rattle.script_grammar.specs.Draft.{Draft, plan_of}
use Rattle.script_grammar.specs.Grammar.{Follows, HasFault}
use Rattle.script_run.specs.Asking.{AsksToBeRun}
use Rattle.script_run.specs.Written.{IsRunSoFar}
use Rattle.script_grammar.specs.declared.stop.Stop.{Stop}
use Rattle.script_grammar.specs.declared.stop.Stop.TheVariants.{Bad, Crowded, NoMemory}

-- the line was added and run, and wrote this
pub record IsRunOn (stands : Draft → Type 0) (draft : Draft) (line said own : List ℕ) : Type 0 where
  pub new : Draft
  pub follows : Follows draft line new
  pub stands_there : stands new
  pub run : IsRunSoFar new (said ++ own)

-- the line is that of an event, by which the run is crowded
pub record IsCrowdedBy (draft : Draft) (line : List ℕ) : Type 0 where
  pub new : Draft
  pub follows : Follows draft line new
  pub crowded : is_crowded_run (plan_of new) ≡ true

-- why a line is not run behind those of this draft: it has this fault, or the run is crowded by it, or it asks for memory, which ran out
abbrev pub Stops : Stop → Draft → List ℕ → Type 0
Stops (Bad why) draft line = HasFault draft line why
Stops Crowded draft line = IsCrowdedBy draft line
Stops NoMemory draft line = AsksToBeRun draft line

-- behind a bad line the lines so far stay those of the draft
abbrev pub StaysAt : (Draft → Type 0) → Draft → Stop → Type 0
StaysAt stands draft (Bad why) = stands draft
StaysAt stands draft _ = Unit {0}

-- behind the lines of this draft, which wrote what was said, a line was run, and what it wrote was appended; or it was not, for this
-- reason
abbrev pub Plays : (Draft → Type 0) → Draft → List ℕ → List ℕ → Result (Unit {0}) Stop → List ℕ → List ℕ → Type 0
Plays stands draft said line (Ok _) before after = (own : List ℕ) × (after ≡ before ++ own) × IsRunOn stands draft line said own
Plays stands draft said line (Err stop) before after = Stops stop draft line × StaysAt stands draft stop
