-- What there is to be seen of the lines of a script, and what was shown of them to what watches.
use Rattle.std.specs.Prelude.{ℕ, List, [], ◌∷◌, ◌++◌}
use Rattle.calm_rounds.specs.Machine.{run}
use Rattle.script_grammar.specs.Events.{Event, steps_of}
use Rattle.script_grammar.specs.Runs.{Plan, first_world}
use Rattle.script_grammar.specs.Steps.{machine}
use Rattle.script_grammar.specs.Worlds.{World}
use Rattle.script_grammar.specs.Draft.{Draft, plan_of}
use Rattle.network_replay.specs.Sights.{Happened, Next, Sight, all_sights, event_sights}

-- of the line of an event: it is next, what there is to be seen of it, and it happened
abbrev pub line_sights : ℕ → Event → World → List Sight
line_sights q e w = Next w ∷ (event_sights q e w ++ Happened (run (machine q) (steps_of q e w) w) e ∷ [])

-- of the lines of a plan, one after another
abbrev pub script_sights : Plan → List Sight
script_sights p = all_sights p.quarter (line_sights p.quarter) p.events (first_world p)

-- where all that there is to be seen of the lines of the one draft was shown, now that of the other was
abbrev pub ShowsOn : {W : Type 0} → (W → List Sight → Type 0) → W → W → Draft → Draft → Type 0
ShowsOn saw old new d e = (ss : List Sight) → saw old (ss ++ script_sights (plan_of d)) → saw new (ss ++ script_sights (plan_of e))
