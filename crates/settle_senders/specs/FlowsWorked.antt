-- What it comes to in small networks that a host that sends says another flow.
use Rattle.std.specs.Prelude.{◌≡◌, ℕ, [], ◌∷◌, true, codes, None, Some}
use Rattle.rsvp_base.specs.Members.{In}
use Rattle.rsvp_base.specs.TokenBucket.{IsSound, TokenBucket}
use Rattle.rsvp_messages.specs.declared.message.Message.TheVariants as message
use Rattle.router_rules.specs.Facts.{SenderKey}
use Rattle.tree_model.specs.Ranks.{longest}
use Rattle.tree_model.specs.Trees.{tree}
use Rattle.network_model.specs.Bounds.{AreBounds, AreHosts}
use Rattle.network_model.specs.Events.{AtNode, Injects, Pass}
use Rattle.network_model.specs.Locals.{IsLive}
use Rattle.network_model.specs.Rows.{line, line_net, plan_of, sends}
use Rattle.network_model.specs.RouterRules.Inputs.{Arrival, SendAs, Spelt}
use Rattle.network_model.specs.Runs.{last_world}
use Rattle.network_model.specs.ThreeRouters.{first, flow, group, s1, second, session, usual}
use Rattle.network_model.specs.Worlds.{World}
use Rattle.laws_network.specs.Example.{pair_net}
use Rattle.settle_paths.specs.Sure.{forth}
use Rattle.settle_network.specs.Settled.{HasSettled}
use Rattle.settle_passes.specs.Calls.{SendsAt, after_send}
use Rattle.settle_passes.specs.Passes.{after_passes}
use Rattle.settle_passes.specs.Worked.{heard_world}
use Rattle.settle_senders.specs.Adverts.{HasItsAdverts}
use Rattle.settle_senders.specs.Flows.{HasItsFlows, IsTelling, flows}
use Rattle.settle_senders.specs.Readings.{kept_at}

abbrev pub other_flow : TokenBucket
other_flow = flow 3000 2000 64 1500

-- ---- a pair of nodes, in which a host sends and its path is there; and then it says another flow
abbrev pub said_anew : World
said_anew = after_send 7500 0 (session, first) other_flow heard_world

-- or it sends as another sender besides, whose path is there too
abbrev pub both_begun : World
both_begun = after_send 7500 0 (session, second) usual heard_world

abbrev pub both_heard : World
both_heard = after_passes 7500 (longest pair_net) both_begun

abbrev pub said_by_one : World
said_by_one = after_send 7500 0 (session, first) other_flow both_heard

-- the premises of the laws, and what they promise does not hold yet
pub record AHostSaysAnotherFlow : Type 0 where
  pub start : HasItsFlows 7500 heard_world
  pub bounds : AreBounds 7500 heard_world
  pub hosts : AreHosts heard_world
  pub settled : HasSettled 7500 heard_world
  pub quiet : heard_world.flight ≡ []
  pub adverts : HasItsAdverts 7500 heard_world
  pub fit : IsSound other_flow
  pub sends : SendsAt heard_world 0 (session, first)
  pub telling : IsTelling 7500 said_anew
  pub not_yet : HasItsFlows 7500 said_anew → ⊥
  pub not_settled : HasSettled 7500 said_anew → ⊥
  pub not_advertised : HasItsAdverts 7500 said_anew → ⊥
  pub before : kept_at flows said_anew (session, first) 1 ≡ Some usual
  pub after : kept_at flows (after_passes 7500 1 said_anew) (session, first) 1 ≡ Some other_flow
  -- and of another sender, of the same host: its path keeps what it kept
  pub both : HasItsFlows 7500 both_heard
  pub sends_too : SendsAt both_heard 0 (session, first)
  pub other : IsLive both_heard (session, second) usual
  pub apart : ◌≡◌ {A = SenderKey} (session, second) (session, first) → ⊥
  pub over : In forth (tree pair_net.hops group second.addr)
  pub one_anew : kept_at flows (after_passes 7500 1 said_by_one) (session, first) 1 ≡ Some other_flow
  pub other_as_before : kept_at flows (after_passes 7500 1 said_by_one) (session, second) 1 ≡ Some usual

-- ---- three nodes in a line, H = 2: neither pass can be spared
abbrev pub said_after : ℕ → World
said_after n = last_world (line 10000 (sends ∷ Pass 2 ∷ AtNode 0 (SendAs session first other_flow) ∷ Pass n ∷ []))

pub record NoPassIsSparedAFlow : Type 0 where
  pub long : longest (line_net 10000) ≡ 2
  pub too_soon : kept_at flows (said_after 1) (session, first) 2 ≡ Some usual
  pub in_time : kept_at flows (said_after 2) (session, first) 2 ≡ Some other_flow

-- ---- a Path with a flow that its sender does not send is in flight when a host says another flow as another sender
abbrev pub stray_flow : TokenBucket
stray_flow = flow 500 2000 64 1500

abbrev pub stray_path : Arrival
stray_path =
    Spelt (message.Path (record { session = session; police = true; hop = record { addr = s1; handle = 0 }; period = 30000; sender = Some (first, stray_flow); adspec = None }))

abbrev pub behind_a_stray_flow : World
behind_a_stray_flow =
    last_world (plan_of pair_net (codes "s1" ∷ codes "t1" ∷ []) (sends ∷ AtNode 0 (SendAs session second usual) ∷ Pass 1 ∷ Injects 1 group stray_path
    ∷ AtNode 0 (SendAs session second other_flow) ∷ Pass 1 ∷ []))

pub record AStrayFlowIsTaken : Type 0 where
  pub first_one : kept_at flows behind_a_stray_flow (session, first) 1 ≡ Some stray_flow
  pub second_one : kept_at flows behind_a_stray_flow (session, second) 1 ≡ Some other_flow
