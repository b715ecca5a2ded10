-- What is asked and the bounds of a run can change: what the laws on them say of small networks, and where they would be wrong
-- without a premise.
use Rattle.std.specs.Prelude.{ℕ, List, [], ◌∷◌, codes}
use Rattle.rsvp_base.specs.declared.session.Session.{Session}
use Rattle.rsvp_base.specs.Members.{In}
use Rattle.calm_rounds.specs.Hold.{Visited}
use Rattle.calm_rounds.specs.Rounds.{Rounds}
use Rattle.router_rules.specs.Inputs.{QuitAll, SendAs}
use Rattle.router_examples.specs.ThreeRouters.{first, flow, s1, session, usual}
use Rattle.network_model.specs.Bounds.{AreBounds, AreHosts}
use Rattle.network_model.specs.Events.{AtNode, Event, Rounds as InRounds}
use Rattle.network_model.specs.Locals.{IsLive, locals_of}
use Rattle.network_model.specs.Rows.{plan_of}
use Rattle.network_model.specs.Runs.{Plan, first_world, steps_of_run}
use Rattle.network_model.specs.Steps.{At, machine, step}
use Rattle.laws_network.specs.Example.{pair_net}
use Rattle.laws_network.specs.Known.{IsSameNet}
use Rattle.laws_network.specs.Rounds.{rounds_of}
use Rattle.laws_network.specs.Runs.{IsFitRun}
use Rattle.settle_resvs.specs.HopExample.{asking_world}
use Rattle.network_examples.specs.Goals.{of_anyone}

-- ---- calm rounds keep what is asked, and a call of a host does not
pub record WhatIsAskedCanChange : Type 0 where
  pub bounds : AreBounds 7500 asking_world
  pub rounds : (k : ℕ) → Rounds (machine 7500) (rounds_of 7500 k asking_world) asking_world
  pub sends : IsLive asking_world (session, first) usual
  pub wants : In (of_anyone usual) (locals_of asking_world).wants
  pub quits : IsSameNet asking_world (step 7500 (At 1 (QuitAll session)) asking_world) → ⊥

-- ---- the run of a fit script is within bounds, and keeps its local senders as they are to be
abbrev pub pair_plan : List Event → Plan
pair_plan events = plan_of pair_net (codes "s1" ∷ codes "r1" ∷ []) events

-- a host sends, for a round
abbrev pub sending_plan : Plan
sending_plan = pair_plan (AtNode 0 (SendAs session first usual) ∷ InRounds 1 ∷ [])

-- a host sends with a flow of nothing
abbrev pub idle_plan : Plan
idle_plan = pair_plan (AtNode 0 (SendAs session first (flow 0 0 0 0)) ∷ [])

-- a host sends to an address that is no group
abbrev pub no_group : Session
no_group = record { group = s1; proto = 17; port = 5004 }

abbrev pub private_plan : Plan
private_plan = pair_plan (AtNode 0 (SendAs no_group first usual) ∷ [])

pub record ARunCanBeUnfit : Type 0 where
  pub fit : IsFitRun sending_plan
  pub idle : Visited (machine 7500) (AreBounds 7500) (steps_of_run idle_plan) (first_world idle_plan) → ⊥
  pub fit_but_for_hosts : IsFitRun private_plan
  pub private : Visited (machine 7500) (λ u. AreBounds 7500 u × AreHosts u) (steps_of_run private_plan) (first_world private_plan) → ⊥
