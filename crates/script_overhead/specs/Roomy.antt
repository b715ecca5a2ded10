-- What `check` says of a script in its last line, how much is in flight once it has settled, and what its run does.
use Rattle.std.specs.Prelude.{◌≡◌, ◌++◌, ◌+◌, ◌≤◌, ℕ, suc, false, List, [], length}
use Rattle.calm_rounds.specs.Hold.{Visited}
use Rattle.calm_rounds.specs.Machine.{run}
use Rattle.network_model.specs.Bounds.{IsSettled}
use Rattle.network_model.specs.Events.{rounds}
use Rattle.network_model.specs.Locals.{locals_of}
use Rattle.network_model.specs.Runs.{Plan, first_world, is_crowded_run, steps_of_run}
use Rattle.network_model.specs.Steps.{machine}
use Rattle.network_model.specs.Worlds.{World}
use Rattle.network_demand.specs.Overhead.{overhead}
use Rattle.script_demand.specs.Findings.{IsFindingsOf}
use Rattle.script_demand.specs.Laws.{SaysAMisfit}
use Rattle.script_demand.specs.Texts.{room_line}
use Rattle.script_grammar.specs.Draft.{Draft, nothing, routing}
use Rattle.script_grammar.specs.Grammar.{IsScript, Leads}
use Rattle.script_theorem.specs.Standing.{world_behind}
use Rattle.script_words.specs.Lines.{text_lines}
use Rattle.settle_refreshes.specs.Roomy.{with_rounds}
use Rattle.settle_refreshes.specs.Refreshes.{HasOnlyRefreshes}

-- the overhead of the world behind the lines of a script is that which is counted from its lines
abbrev pub OverheadsStand : Type 0
OverheadsStand = (bytes : List ℕ) (d : Draft) → Leads nothing (text_lines bytes) d → overhead (world_behind d).net (locals_of (world_behind d)) ≡ overhead (routing d) d.locals

-- ---- what is said
-- no misfit, and in the last line that a round has at most n refreshes in flight and that these crowd no later round
pub record SaysRoomFor (n : ℕ) (text : List ℕ) : Type 0 where
  pub fits : SaysAMisfit text → ⊥
  pub front : List ℕ
  pub ends : text ≡ front ++ room_line n
  pub few : n ≤ 8192

-- ---- what is run
abbrev pub end_of : Plan → World
end_of p = run (machine p.quarter) (steps_of_run p) (first_world p)

-- the run is not crowded, ends in 13 H + 13 calm rounds, and leaves nothing in flight but Paths and Resvs that ask for no confirmation
pub record EndsSettled (p : Plan) : Type 0 where
  pub uncrowded : is_crowded_run p ≡ false
  pub settled : IsSettled p.quarter (first_world p) (steps_of_run p)
  pub refreshes : HasOnlyRefreshes (end_of p)

-- in rounds that follow it no more than n are in flight beside what was in flight at its end, nothing is behind each of them, and where
-- both together have room none of them is crowded, however many they are
pub record HasRoomFor (n : ℕ) (p : Plan) : Type 0 where
  pub most : (m : ℕ) → Visited (machine p.quarter) (λ w. length w.flight ≤ length (end_of p).flight + n) (rounds p.quarter m (end_of p)) (end_of p)
  pub nothing_left : (m : ℕ) → (run (machine p.quarter) (rounds p.quarter (suc m) (end_of p)) (end_of p)).flight ≡ []
  pub never_crowded : length (end_of p).flight + n ≤ 8192 → (m : ℕ) → is_crowded_run (with_rounds m p) ≡ false

-- ---- the law
abbrev pub ASettledRunHasTheRoomThatIsSaid : Type 0
ASettledRunHasTheRoomThatIsSaid =
    (bytes text : List ℕ) (p : Plan) (n : ℕ) → IsScript bytes p → IsFindingsOf bytes text → SaysRoomFor n text → EndsSettled p → HasRoomFor n p
