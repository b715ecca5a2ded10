-- The pair of nodes with a left-over blockade.
use Rattle.std.specs.Prelude.{◌≡◌, false, [], ◌∷◌, None, Some}
use Rattle.rsvp_base.specs.declared.style.StyleKind.TheVariants.{Wild}
use Rattle.rsvp_messages.specs.declared.message.Message.TheVariants as message
use Rattle.rsvp_messages.specs.declared.message.ResvErrMsg.{ResvErrMsg}
use Rattle.rsvp_messages.specs.declared.message.ResvMsg.{ResvMsg}
use Rattle.rsvp_base.specs.Table.{get}
use Rattle.calm_rounds.specs.Hold.{Hold}
use Rattle.calm_rounds.specs.Rounds.{Rounds}
use Rattle.router_rules.specs.Inputs.{Spelt, StaleWall}
use Rattle.network_model.specs.ThreeRouters.{error, r1, s1, scope, session, usual, wild}
use Rattle.laws_steps.specs.Examples.{blockaded, wall_key}
use Rattle.network_model.specs.Bounds.{AreBounds}
use Rattle.network_model.specs.Runs.{Plan, first_facts, first_world}
use Rattle.network_model.specs.Sound.{HasNoFlowError, IsFreeOfBlockade, TakesAll}
use Rattle.network_model.specs.Steps.{Deliver, Inject, machine, step}
use Rattle.network_model.specs.Worlds.{World}
use Rattle.laws_network.specs.Beginning.{left_plan}
use Rattle.laws_network.specs.Example.{quiet_world}
use Rattle.laws_network.specs.Rounds.{rounds_of}

abbrev pub wall_plan : Plan
wall_plan = record left_plan { stale = (0, StaleWall wall_key blockaded) ∷ [] }

abbrev pub wall_world : World
wall_world = first_world wall_plan

pub record ABlockadeIsLeftOver : Type 0 where
  pub bounds : AreBounds 7500 wall_world
  pub rounds : Rounds (machine 7500) (rounds_of 7500 3 wall_world) wall_world
  pub no_error : Hold (machine 7500) 0 (rounds_of 7500 3 wall_world) wall_world HasNoFlowError
  -- what is promised does not hold yet
  pub there : get (first_facts wall_plan 0).walls wall_key ≡ Some blockaded
  pub not_yet : IsFreeOfBlockade wall_world → ⊥

-- ---- a Resv that no sender asks for, injected at the first node, and an error with a flow
abbrev pub the_resv : ResvMsg
the_resv = record { session = session; hop = record { addr = r1; handle = 0 }; period = 30000; confirm = None; ask = wild usual }

abbrev pub the_error : ResvErrMsg
the_error = record { session = session; hop = record { addr = s1; handle = 0 }; err = error s1 false 1 2; blame = record { style = Wild; senders = Some scope; flow = Some usual } }

abbrev pub refusing_world : World
refusing_world = step 7500 (Inject 0 s1 (Spelt (message.Resv the_resv))) quiet_world

abbrev pub erring_world : World
erring_world = step 7500 (Inject 1 r1 (Spelt (message.ResvErr the_error))) quiet_world

pub record SomethingIsRefused : Type 0 where
  -- what arrives first is refused
  pub refused : TakesAll 7500 (Deliver 0) refusing_world → ⊥
  -- an error with a flow is in flight
  pub blamed : HasNoFlowError erring_world → ⊥
