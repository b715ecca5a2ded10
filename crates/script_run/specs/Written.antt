-- What the lines of a script have written so far, when each is run before the next is read.
use Rattle.std.specs.Prelude.{◌≡◌, ℕ, false, List, [], ◌∷◌, ◌++◌}
use Rattle.byte_streams.specs.Runs.{HasRun as HasRunOf}
use Rattle.script_grammar.specs.Events.{Event}
use Rattle.script_grammar.specs.Runs.{Plan, is_crowded_run, run_text}
use Rattle.script_grammar.specs.Draft.{Draft, nothing, plan_of}
use Rattle.script_grammar.specs.Grammar.{Leads}

-- the plan with one event more
abbrev pub with_event : Plan → Event → Plan
with_event p e = record p { events = p.events ++ e ∷ [] }

-- the lines before lead to this draft, none of their events led to a crowded world, and this is the text that they wrote
pub record IsRunSoFar (draft : Draft) (text : List ℕ) : Type 0 where
  pub roomy : is_crowded_run (plan_of draft) ≡ false
  pub text_is : text ≡ run_text (plan_of draft)

-- these lines may begin a script, and were run
abbrev pub HasRun : List (List ℕ) → List ℕ → Type 0
HasRun lines text = HasRunOf (Leads nothing) IsRunSoFar lines text
