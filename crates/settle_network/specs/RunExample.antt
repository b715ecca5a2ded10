-- The run of a small script with a left-over reservation: a host begins to send, the network runs for 32 rounds, and a report is
-- written.
use Rattle.std.specs.Prelude.{◌≡◌, List, [], ◌∷◌, ◌++◌, None}
use Rattle.router_rules.specs.Inputs.{SendAs}
use Rattle.router_examples.specs.ThreeRouters.{first, session, usual}
use Rattle.tree_model.specs.Goals.{DemandsFit}
use Rattle.network_model.specs.Bounds.{IsSettled, all_of}
use Rattle.network_model.specs.Events.{AtNode, Reports, Rounds}
use Rattle.network_model.specs.Locals.{locals_of}
use Rattle.network_model.specs.Runs.{Plan, first_world, steps_of_run}
use Rattle.network_model.specs.Steps.{At, Report, Step, step}
use Rattle.network_model.specs.Worlds.{World}
use Rattle.laws_network.specs.Beginning.{left_plan}
use Rattle.laws_network.specs.Rounds.{rounds_of}
use Rattle.laws_network.specs.Runs.{AreFitSenders, IsFitRun}
use Rattle.settle_network.specs.Settled.{HasSettled}

abbrev pub run_plan : Plan
run_plan = record left_plan { events = AtNode 0 (SendAs session first usual) ∷ Rounds 32 ∷ Reports None ∷ [] }

-- when the rounds begin
abbrev pub begun : World
begun = step 7500 (At 0 (SendAs session first usual)) (first_world run_plan)

-- the steps before the report
abbrev pub so_far : List Step
so_far = At 0 (SendAs session first usual) ∷ all_of (rounds_of 7500 32 begun)

pub record ARunMeetsThePremises : Type 0 where
  pub fit_run : IsFitRun run_plan
  pub senders : AreFitSenders run_plan
  pub front : steps_of_run run_plan ≡ so_far ++ Report None ∷ []
  pub settled : IsSettled 7500 (first_world run_plan) so_far
  pub fit : DemandsFit begun.net (locals_of begun)
  -- what is promised does not hold when the rounds begin
  pub not_yet : HasSettled 7500 begun → ⊥
