-- What is kept where nobody says it: a left-over path and a left-over reservation, through rounds in which nothing is in flight. And
-- what a host that begins to send says.
use Rattle.std.specs.Prelude.{◌≡◌, ◌<◌, false, true, Some, length}
use Rattle.rsvp_base.specs.declared.style.StyleKind.TheVariants.{Wild}
use Rattle.rsvp_base.specs.declared.style.Unit.TheVariants.{One}
use Rattle.rsvp_base.specs.Members.{In}
use Rattle.rsvp_messages.specs.declared.message.Message.{Message}
use Rattle.calm_rounds.specs.Hold.{Hold}
use Rattle.calm_rounds.specs.Rounds.{Rounds}
use Rattle.calm_rounds.specs.SoftStates.{KeepsOnly, SaysOnly}
use Rattle.router_rules.specs.Inputs.{SendAs, Spelt}
use Rattle.router_examples.specs.ThreeRouters.{first, r2, s1, session, usual}
use Rattle.network_model.specs.Bounds.{AreBounds}
use Rattle.network_model.specs.Steps.{At, machine, sent}
use Rattle.network_model.specs.Worlds.{Item}
use Rattle.laws_network.specs.Example.{pair_net, quiet_world}
use Rattle.laws_network.specs.Hops.{hop_of}
use Rattle.laws_network.specs.Rounds.{rounds_of}
use Rattle.settle_paths.specs.Example.{stale_world}
use Rattle.settle_paths.specs.SoftPaths.{soft_path}
use Rattle.settle_resvs.specs.SoftResvs.{AllowsCuts, ResvKey, soft_resv}
use Rattle.settle_resvs.specs.LeftOverExample.{lost_world}

abbrev pub lost : ResvKey
lost = record { session = session; style = Wild; unit = One; next = r2; to = 0 }

-- no path is said and none allowed, and one is kept at the start
pub record NobodySaysThePath : Type 0 where
  pub bounds : AreBounds 7500 stale_world
  pub end : 1 < length pair_net.ends
  pub rounds : Rounds (machine 7500) (rounds_of 7500 6 stale_world) stale_world
  pub said : Hold (machine 7500) 0 (rounds_of 7500 6 stale_world) stale_world (SaysOnly (machine 7500) (soft_path 7500 stale_world (session, first) 1) (λ v. false ≡ true) stale_world.made)
  pub not_yet : KeepsOnly (machine 7500) (soft_path 7500 stale_world (session, first) 1) (λ v. false ≡ true) stale_world → ⊥

-- no reservation is asked for and none allowed, and one is kept at the start
pub record NobodyAsksForIt : Type 0 where
  pub bounds : AreBounds 7500 lost_world
  pub end : 0 < length pair_net.ends
  pub cuts : AllowsCuts (λ v. false)
  pub rounds : Rounds (machine 7500) (rounds_of 7500 6 lost_world) lost_world
  pub said : Hold (machine 7500) 0 (rounds_of 7500 6 lost_world) lost_world (SaysOnly (machine 7500) (soft_resv 7500 lost_world lost) (λ v. false ≡ true) lost_world.made)
  pub not_yet : KeepsOnly (machine 7500) (soft_resv 7500 lost_world lost) (λ v. false ≡ true) lost_world → ⊥

-- the first Path of a host has the address of its end
pub record APathSaysItsHop : Type 0 where
  pub item : Item
  pub message : Message
  pub sends : In (item, false) (sent 7500 (At 0 (SendAs session first usual)) quiet_world)
  pub spelt : item.arrival ≡ Spelt message
  pub hop : hop_of message ≡ Some s1
