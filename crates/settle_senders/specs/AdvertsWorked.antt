-- What it comes to in small networks that a host advertises.
use Rattle.std.specs.Prelude.{◌≡◌, ℕ, [], ◌∷◌, true, codes, None, Some}
use Rattle.rsvp_base.specs.TokenBucket.{IsSound}
use Rattle.rsvp_messages.specs.RsvpObjects.declared.adspec.Adspec.{Adspec}
use Rattle.rsvp_messages.specs.declared.message.Message.TheVariants as message
use Rattle.tree_model.specs.Ranks.{longest}
use Rattle.network_model.specs.Bounds.{AreHosts}
use Rattle.network_model.specs.Events.{AtNode, Event, Injects, Pass}
use Rattle.network_model.specs.Rows.{line, line_net, plan_of, sends}
use Rattle.network_model.specs.RouterRules.Inputs.{AdvertAs, Arrival, SendAs, Spelt}
use Rattle.network_model.specs.Runs.{last_world}
use Rattle.network_model.specs.ThreeRouters.{first, group, s1, second, session, usual}
use Rattle.network_model.specs.Worlds.{World}
use Rattle.laws_network.specs.Example.{pair_net, quiet_world, sending_world}
use Rattle.settle_adverts.specs.Adverts.{AreAdvertsExact}
use Rattle.settle_adverts.specs.Demanded.{HasSettledAdverts}
use Rattle.settle_adverts.specs.Worked.{advertised_world, one_hop}
use Rattle.settle_passes.specs.Calls.{IsNew}
use Rattle.settle_passes.specs.Worked.{heard_world}
use Rattle.settle_senders.specs.Adverts.{AreAdvertising, HasItsAdverts, after_advert, adverts}
use Rattle.settle_senders.specs.Worked.{waiting_world}
use Rattle.settle_senders.specs.Readings.{kept_at}

-- ---- a pair of nodes, in which a host begins to send, and advertises: at once, or when its path is there
abbrev pub told_world : World
told_world = after_advert 7500 0 (session, first) heard_world

-- the premises of the laws, and what they promise does not hold yet
pub record AHostAdvertises : Type 0 where
  pub start : HasItsAdverts 7500 quiet_world
  pub fit : IsSound usual
  pub new : IsNew quiet_world (session, first)
  pub hosts : AreHosts sending_world
  pub advertising : AreAdvertising 7500 sending_world
  pub not_at_once : HasItsAdverts 7500 advertised_world → ⊥
  -- when the path is there
  pub settled : HasSettledAdverts 7500 heard_world
  pub hosts_then : AreHosts heard_world
  pub quiet : heard_world.flight ≡ []
  pub later : HasItsAdverts 7500 heard_world
  pub not_yet : AreAdvertsExact told_world → ⊥
  -- and where a receiver waits, as the other premises are met (`AReceiverWaits`)
  pub waiting : HasItsAdverts 7500 waiting_world

-- ---- three nodes in a line, H = 2: neither pass can be spared
abbrev pub advertises : Event
advertises = AtNode 0 (AdvertAs session first)

abbrev pub told_after : ℕ → World
told_after n = last_world (line 10000 (sends ∷ Pass 2 ∷ advertises ∷ Pass n ∷ []))

abbrev pub two_hops : Adspec
two_hops = record one_hop { hops = 2 }

pub record NoPassIsSparedAnAdvert : Type 0 where
  pub long : longest (line_net 10000) ≡ 2
  pub too_soon : kept_at adverts (told_after 1) (session, first) 2 ≡ Some None
  pub in_time : kept_at adverts (told_after 2) (session, first) 2 ≡ Some (Some two_hops)

-- ---- a Path without an ADSPEC is in flight, of a sender that is advertised, when the host begins to send and advertises as another one
abbrev pub stray_path : Arrival
stray_path =
    Spelt (message.Path (record { session = session; police = true; hop = record { addr = s1; handle = 0 }; period = 30000; sender = Some (first, usual); adspec = None }))

abbrev pub behind_a_stray_path : World
behind_a_stray_path =
    last_world (plan_of pair_net (codes "s1" ∷ codes "t1" ∷ []) (sends ∷ advertises ∷ Pass 1 ∷ Injects 1 group stray_path ∷ AtNode 0 (SendAs session second usual)
    ∷ AtNode 0 (AdvertAs session second) ∷ Pass 1 ∷ []))

pub record AStrayPathIsTaken : Type 0 where
  pub first_one : kept_at adverts behind_a_stray_path (session, first) 1 ≡ Some None
  pub second_one : kept_at adverts behind_a_stray_path (session, second) 1 ≡ Some (Some one_hop)
