-- A small network in which a reservation is said over a hop: two nodes on one link, a sender at the first, and a receiver at
-- the second whose first Resv is on its way.
use Rattle.std.specs.Prelude.{false}
use Rattle.rsvp_base.specs.declared.part.Part.{Part}
use Rattle.rsvp_base.specs.declared.style.StyleKind.TheVariants.{Wild}
use Rattle.rsvp_base.specs.declared.style.Unit.TheVariants.{One}
use Rattle.rsvp_base.specs.Members.{In}
use Rattle.rsvp_base.specs.Table.{empty}
use Rattle.calm_rounds.specs.Hold.{Hold}
use Rattle.calm_rounds.specs.SoftStates.{Stands}
use Rattle.calm_rounds.specs.Rounds.{Rounds}
use Rattle.router_rules.specs.Inputs.{WantAs}
use Rattle.network_model.specs.ThreeRouters.{session, scope, usual}
use Rattle.tree_model.specs.Trees.{hops_of}
use Rattle.network_model.specs.Bounds.{AreBounds}
use Rattle.network_model.specs.Steps.{At, Deliver, step, machine}
use Rattle.network_model.specs.Worlds.{World}
use Rattle.laws_network.specs.Example.{pair_net, sending_world}
use Rattle.laws_network.specs.Rounds.{rounds_of}
use Rattle.settle_resvs.specs.SoftResvs.{soft_resv}
use Rattle.settle_resvs.specs.Said.{HopKey, IsSaid, hop_over, resv_key}

-- the first Path has come, and a host at the second node asks for what the sender sends
abbrev pub asking_world : World
asking_world = step 7500 (At 1 (WantAs session Wild empty usual false)) (step 7500 (Deliver 0) sending_world)

abbrev pub back : HopKey
back = record { session = session; style = Wild; unit = One; from = 1; to = 0 }

abbrev pub asked : Part
asked = record { senders = scope; flow = usual }

pub record SaysAReservation : Type 0 where
  pub bounds : AreBounds 7500 asking_world
  pub there : In (hop_over back) (hops_of pair_net.hops session.group)
  pub rounds : Rounds (machine 7500) (rounds_of 7500 2 asking_world) asking_world
  pub said : Hold (machine 7500) 0 (rounds_of 7500 2 asking_world) asking_world (IsSaid 7500 pair_net back asked asking_world.made)
  -- what is promised does not hold yet
  pub not_yet : Stands (machine 7500) (soft_resv 7500 asking_world (resv_key pair_net back)) asked asking_world → ⊥
