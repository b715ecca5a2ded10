-- Previous hops of the pair of nodes in which a host asks, and what goes toward them: where the laws on them say something, and
-- where they would be wrong without a premise.
use Rattle.std.specs.Prelude.{◌≡◌, true, false, Some, slice_get}
use Rattle.std.specs.Option.{unwrap_or}
use Rattle.rsvp_base.specs.declared.style.StyleKind.TheVariants.{Wild}
use Rattle.rsvp_base.specs.declared.style.Unit.TheVariants.{One}
use Rattle.rsvp_base.specs.Members.{In}
use Rattle.rsvp_base.specs.Table.{empty, get, has}
use Rattle.laws_bounds.specs.FactLaws.{ComesBy}
use Rattle.router_rules.specs.Facts.{Facts, no_facts}
use Rattle.router_rules.specs.Inputs.{WantAs}
use Rattle.router_rules.specs.Known.{Lane, known, names_via}
use Rattle.router_rules.specs.Requests.{toward}
use Rattle.router_examples.specs.ThreeRouters.{first, s1, scope, session, usual}
use Rattle.tree_model.specs.declared.hops.LinkHop.{LinkHop}
use Rattle.tree_model.specs.Ranks.{Follows, followers, rank}
use Rattle.tree_model.specs.Valid.{IsValid}
use Rattle.network_model.specs.Bounds.{AreBounds, AreHosts}
use Rattle.network_model.specs.Sound.{ArePathsComplete, ArePathsSound, IsExact}
use Rattle.network_model.specs.Steps.{At, step}
use Rattle.network_model.specs.Worlds.{World, config_of}
use Rattle.laws_network.specs.Example.{pair_net, sending_world}
use Rattle.settle_paths.specs.Example.{stale_world}
use Rattle.settle_paths.specs.PreviousHops.{AreAllPreviousHops, ArePreviousHops, IsPrevious}
use Rattle.settle_paths.specs.Sure.{forth}
use Rattle.settle_resvs.specs.HopExample.{asked, asking_world}
use Rattle.settle_resvs.specs.Below.{AreSoundBelow, TowardIsAtMostTheWant}
use Rattle.settle_resvs.specs.Sessions.{HasNoBlockade}
use Rattle.settle_resvs.specs.Toward.{TowardIsTheWant}

-- the host's node, which the Path reached
abbrev pub second_facts : Facts
second_facts = unwrap_or (slice_get asking_world.nodes 1) no_facts

abbrev pub lane : Lane
lane = record { session = session; style = Wild; hop = (0, s1) }

-- ---- previous hops are hops of trees, and all of them
pub record APathComesOverAHop : Type 0 where
  pub net : IsValid asking_world.net
  pub hosts : AreHosts asking_world
  pub sound : ArePathsSound asking_world
  pub complete : ArePathsComplete asking_world
  pub there : slice_get asking_world.nodes 1 ≡ Some second_facts
  pub comes : ComesBy second_facts session (0, s1) first
  pub previous : IsPrevious pair_net 1 session (0, s1) forth
  pub via : names_via second_facts lane ≡ scope
  pub is_known : has (known second_facts session) first ≡ true
  -- where a path is left over, what comes from a previous hop is of no live sender
  pub left_over : ArePreviousHops stale_world → ⊥
  -- where paths are sound and not yet complete, names of a hop are missing
  pub so_far : ArePathsSound sending_world
  pub missing : AreAllPreviousHops sending_world → ⊥

-- ---- toward is at most the want, and is the want
-- a host asks where a path is left over, and where the Path has not come
abbrev pub misled_world : World
misled_world = step 7500 (At 1 (WantAs session Wild empty usual false)) stale_world

abbrev pub early_world : World
early_world = step 7500 (At 1 (WantAs session Wild empty usual false)) sending_world

pub record TowardSaysSomething : Type 0 where
  pub bounds : AreBounds 7500 asking_world
  pub free : HasNoBlockade lane.session second_facts.walls
  pub below : AreSoundBelow Wild asking_world 1 second_facts session (rank pair_net session.group forth)
  pub follow : (h : LinkHop) → Follows pair_net session.group forth h → In h (followers pair_net session.group forth) → IsExact Wild asking_world session h
  pub says : get (toward (config_of 7500 pair_net asking_world.trees 1) second_facts lane) One ≡ Some asked
  -- without sound paths something goes toward a hop that nobody wants
  pub misled : AreBounds 7500 misled_world
  pub too_much : TowardIsAtMostTheWant 7500 misled_world → ⊥
  -- without complete paths nothing goes toward the hop
  pub early : AreBounds 7500 early_world
  pub too_little : TowardIsTheWant 7500 early_world → ⊥
