-- What it is to check a line, and what the lines before all events declare.
use Rattle.std.specs.Prelude.{◌≡◌, ℕ, ◌≤◌, List, Option, Result, Ok, Err}
use Rattle.script_grammar.specs.Asking.{AsksToBeTaken}
use Rattle.script_grammar.specs.Runs.{Plan}
use Rattle.script_grammar.specs.Draft.{Draft}
use Rattle.script_grammar.specs.GivenEvents.{IsGiven}
use Rattle.script_grammar.specs.Grammar.{Follows, HasFault}
use Rattle.network_replay.specs.Opening.{IsOpenedBy}
use Rattle.network_model.specs.declared.event.Event.{Event}
use Rattle.script_grammar.specs.declared.stop.Stop.{Stop}
use Rattle.script_grammar.specs.declared.stop.Stop.TheVariants.{Bad, Crowded, NoMemory}
use Rattle.script_run.specs.declared.checks.Start.{Start}

-- the line follows those before, and its event, if it has one, is given
pub record IsLineTaken (d : Draft) (line : List ℕ) (given : Option Event) (new : Draft) : Type 0 where
  pub follows : Follows d line new
  pub event : IsGiven d.events given new.events

-- a line was taken behind those before; or it has this fault, and they stay the lines so far; or it asks for memory, which ran out;
-- what checks lines is never crowded
abbrev pub Feeds : Draft → List ℕ → Result (Option Event) Stop → Draft → Type 0
Feeds d line (Ok given) new = IsLineTaken d line given new
Feeds d line (Err (Bad why)) new = HasFault d line why × (new ≡ d)
Feeds d line (Err Crowded) new = ⊥
Feeds d line (Err NoMemory) new = AsksToBeTaken d line

-- these lines declare the network of the plan
pub record IsStartOf (s : Start) (p : Plan) : Type 0 where
  pub opened : IsOpenedBy p s.quarter s.seed s.routing s.names.items
  pub long : 1 ≤ s.quarter
  pub short : s.quarter ≤ 15000
