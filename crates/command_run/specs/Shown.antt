-- What was shown of a run to what watches it.
use Rattle.std.specs.Prelude.{ℕ, List, [], Option, Some, IfSome}
use Rattle.grown_network.specs.Grown.{grown_plan}
use Rattle.network_replay.specs.Sights.{Shows, Sight, plan_sights}
use Rattle.script_grammar.specs.Draft.{Draft, nothing, plan_of}
use Rattle.script_grammar.specs.Grammar.{Leads}
use Rattle.script_words.specs.Lines.{text_lines}
use Rattle.script_run.specs.Shown.{script_sights}
use Rattle.command_run.specs.declared.task.Task.{Task}
use Rattle.command_run.specs.declared.task.Task.TheVariants.{Replay, Grow}

module _ {W : Type 0} (saw : W → List Sight → Type 0) (old new : W) where
  -- all that there is to be seen of the lines of these bytes, in order, and nothing else
  abbrev pub ShowsScript : List ℕ → Type 0
  ShowsScript bytes = (d : Draft) → Leads nothing (text_lines bytes) d → Shows saw old new (script_sights (plan_of d))

  -- where a script was replayed, of its lines, if the input is known; where a network was grown, of its run; else nothing
  abbrev pub ShowsTask : Option Task → Option (List ℕ) → Type 0
  ShowsTask (Some Replay) input = IfSome input ShowsScript
  ShowsTask (Some (Grow seed)) input = Shows saw old new (plan_sights (grown_plan seed))
  ShowsTask _ input = Shows saw old new []
