-- A small network that is sure of its paths: the premise of the law on Paths that are said over a hop, from its first Path on.
use Rattle.calm_rounds.specs.Hold.{Hold}
use Rattle.calm_rounds.specs.SoftStates.{Stands}
use Rattle.calm_rounds.specs.Rounds.{Rounds}
use Rattle.tree_model.specs.Goals.{addr_of}
use Rattle.network_model.specs.ThreeRouters.{group, s1, session, first, usual}
use Rattle.std.specs.Prelude.{◌≤◌}
use Rattle.tree_model.specs.declared.hops.LinkHop.{LinkHop}
use Rattle.tree_model.specs.Networks.{node_of}
use Rattle.tree_model.specs.Trees.{tree, depth}
use Rattle.rsvp_base.specs.Members.{In}
use Rattle.network_model.specs.Bounds.{AreHosts}
use Rattle.network_model.specs.Locals.{IsLive}
use Rattle.network_model.specs.Steps.{machine}
use Rattle.laws_network.specs.Example.{pair_net, sending_world}
use Rattle.laws_network.specs.Rounds.{rounds_of}
use Rattle.settle_paths.specs.SoftPaths.{soft_path}
use Rattle.settle_paths.specs.Said.{IsSaidPath}
use Rattle.settle_paths.specs.Telling.{IsSure}

abbrev pub forth : LinkHop
forth = record { from = 0; to = 1 }

pub record IsSureOfPaths : Type 0 where
  pub locals : AreHosts sending_world
  pub live : IsLive sending_world (session, first) usual
  pub there : In forth (tree pair_net.hops group s1)
  pub deep : depth pair_net group s1 (node_of pair_net.ends 1) ≤ 1
  pub rounds : Rounds (machine 7500) (rounds_of 7500 2 sending_world) sending_world
  pub sure : Hold (machine 7500) 0 (rounds_of 7500 2 sending_world) sending_world (IsSure 7500 sending_world 0)
  pub said : Hold (machine 7500) 0 (rounds_of 7500 2 sending_world) sending_world (IsSaidPath 7500 pair_net (session, first) forth (addr_of pair_net 0, usual) sending_world.made)
  -- what is promised does not hold yet
  pub not_yet : Stands (machine 7500) (soft_path 7500 sending_world (session, first) 1) (addr_of pair_net 0, usual) sending_world → ⊥
