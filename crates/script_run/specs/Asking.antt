-- Which lines ask for memory where they are run.
use Rattle.std.specs.Prelude.{◌≡◌, ◌≢◌, ℕ, Bool, true, List, [], ◌∷◌, ◌++◌}
use Rattle.script_grammar.specs.Asking.{AsksToBeTaken}
use Rattle.script_grammar.specs.Draft.{Draft, plan_of}
use Rattle.script_grammar.specs.Events.{Event, Reports, ReportsFlags, Reroutes, ReportsAdverts}
use Rattle.script_grammar.specs.Grammar.{Follows}
use Rattle.script_grammar.specs.Runs.{Plan, last_world}

-- an event behind the run of a plan: memory is asked for to report, to move a tree, and for trace lines where the trace is on
abbrev pub asks_memory : Plan → Event → Bool
asks_memory p (Reports end) = true
asks_memory p ReportsFlags = true
asks_memory p ReportsAdverts = true
asks_memory p (Reroutes group source hops) = true
asks_memory p _ = (last_world p).trace

-- a line behind the lines of this draft: to be read or added; to open the network, where its event is the first; or to run its event
pub data AsksToBeRun (d : Draft) (text : List ℕ) : Type 0 where
  to_be_taken : AsksToBeTaken d text → AsksToBeRun d text
  to_open : (new : Draft) → Follows d text new → d.events ≡ [] → new.events ≢ [] → AsksToBeRun d text
  to_run : (new : Draft) (e : Event) → Follows d text new → new.events ≡ d.events ++ e ∷ [] → asks_memory (plan_of d) e ≡ true → AsksToBeRun d text
