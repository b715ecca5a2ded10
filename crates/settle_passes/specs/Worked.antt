-- What set-up by passes comes to in small networks: where it is done in time, and where it is late or fails.
use Rattle.std.specs.Prelude.{◌≡◌, ℕ, ◌++◌, List, [], ◌∷◌, true, false, codes, None, Some}
use Rattle.std.specs.Option.{option_map}
use Rattle.rsvp_base.specs.declared.session.Sender.{Sender}
use Rattle.rsvp_base.specs.declared.style.StyleKind.TheVariants.{Fixed, Wild}
use Rattle.rsvp_base.specs.Sets.{set_of}
use Rattle.rsvp_base.specs.Table.{empty}
use Rattle.rsvp_base.specs.TokenBucket.{IsSound}
use Rattle.rsvp_messages.specs.declared.message.Message.TheVariants as message
use Rattle.network_model.specs.RouterRules.Inputs.{Arrival, QuitAll, SendAs, Spelt, WantAs}
use Rattle.network_model.specs.ThreeRouters.{first, flow, group, ip, r1, s1, second, session, usual}
use Rattle.tree_model.specs.Goals.{DemandsFit, demand_of}
use Rattle.tree_model.specs.Ranks.{longest}
use Rattle.network_model.specs.Bounds.{AreHosts, IsStart}
use Rattle.network_model.specs.Events.{AtNode, Event, Injects, Pass, Reports, Reroutes, Traces}
use Rattle.network_model.specs.Locals.{locals_of}
use Rattle.network_model.specs.Rows.{booked, end_of, end_with, hop_of, line, plan_of, sends, usual_entry}
use Rattle.network_model.specs.Runs.{Plan, last_world, run_text}
use Rattle.network_model.specs.Sound.{ArePathsComplete, ArePathsSound, AreResvsSound}
use Rattle.network_model.specs.Worlds.{World}
use Rattle.router_rules.specs.Lines.{held}
use Rattle.router_rules.specs.Steps.{IsFitList}
use Rattle.laws_network.specs.Example.{pair_net, quiet_world, sending_world}
use Rattle.settle_paths.specs.SoftPaths.{path_at}
use Rattle.settle_resvs.specs.Sessions.{AreExactOf, IsFreeOfBlockadesOf, SessionFits}
use Rattle.settle_network.specs.Settled.{HasSettled}
use Rattle.settle_passes.specs.Calls.{HasItsPaths, HasNoPathOf, IsNew, SendsAt, after_drop}
use Rattle.settle_passes.specs.Passes.{AreSpreading, after_passes}
use Rattle.settle_passes.specs.Reserving.{AsksNoLess, HasReserved, IsReserving, after_want}

-- ---- a host of a pair of nodes begins to send: the premises of the law, and what it promises does not hold yet
pub record APairIsSetUp : Type 0 where
  pub start : HasItsPaths 7500 quiet_world
  pub fit : IsSound usual
  pub new : IsNew quiet_world (session, first)
  pub hosts : AreHosts sending_world
  -- and so of those on paths that spread
  pub spreading : AreSpreading 7500 sending_world
  pub not_yet : ArePathsComplete sending_world → ⊥

-- ---- and when it has its path, the host ends
abbrev pub heard_world : World
heard_world = after_passes 7500 (longest pair_net) sending_world

abbrev pub ended_world : World
ended_world = after_drop 7500 0 (session, first) heard_world

pub record APairForgets : Type 0 where
  pub start : HasItsPaths 7500 heard_world
  pub sends : SendsAt heard_world 0 (session, first)
  pub quiet : HasNoPathOf heard_world (session, first)
  pub hosts : AreHosts ended_world
  pub not_yet : ArePathsSound ended_world → ⊥

-- ---- a receiver asks in the pair, once its node has the path: the premises of the laws on what it takes, which is nothing yet
abbrev pub asked_world : World
asked_world = after_want 7500 1 session Wild empty usual false heard_world

pub record AReceiverAsks : Type 0 where
  pub start : HasItsPaths 7500 heard_world
  pub sound : AreResvsSound heard_world
  pub fit : SessionFits pair_net (locals_of heard_world) session
  pub free : IsFreeOfBlockadesOf session heard_world
  pub exact : AreExactOf session heard_world
  pub quiet : heard_world.flight ≡ []
  -- and so of the others
  pub reserving : IsReserving 7500 session heard_world
  pub list : IsFitList Wild empty
  pub flow : IsSound usual
  pub no_less : AsksNoLess heard_world 1 session Wild empty usual false
  pub fits : SessionFits pair_net (locals_of asked_world) session
  pub not_yet : HasReserved session asked_world → ⊥
  -- and so of the whole network
  pub begins : IsStart 7500 heard_world
  pub settled : HasSettled 7500 heard_world
  pub all_fit : DemandsFit pair_net (locals_of asked_world)
  pub not_settled : HasSettled 7500 asked_world → ⊥

-- ---- three nodes in a line, H = 2: a Path goes down one hop a pass, and then the Resv up; in four passes all is done
pub record AReceiverIsServed : Type 0 where
  pub long : longest (line 10000 []).net ≡ 2
  pub text : run_text (line 10000 (AtNode 2 (WantAs session Wild empty usual false) ∷ Traces true ∷ sends ∷ Pass 4 ∷ Reports (Some 0) ∷ Pass 1 ∷ []))
      ≡ codes "r1 Path taken\nt1 Path taken\nr2 Resv taken\ns1 Resv taken\nend s1 held 1000 of 10000\n" ++ usual_entry
  -- and what a receiver quits goes up alone, in two
  pub quit : run_text (line 10000 (booked ++ Traces true ∷ AtNode 2 (QuitAll session) ∷ Pass 2 ∷ Reports (Some 0) ∷ Pass 1 ∷ []))
      ≡ codes "r2 ResvTear taken\ns1 ResvTear taken\nend s1 held 0 of 10000\n"

-- ---- a link of 300 bytes a second, H = 1, between two senders of a node and a receiver, who asks for each by name
abbrev pub narrow : List Event → Plan
narrow events =
    plan_of (record { nodes = 2; ends = end_with 300 0 s1 ∷ end_of 1 r1 ∷ []; links = (0 ∷ 1 ∷ []) ∷ []; hops = hop_of 0 1 ∷ [] }) (codes "s1" ∷ codes "t1" ∷ []) events

abbrev pub asks : List Sender → ℕ → Event
asks names rate = AtNode 1 (WantAs session Fixed (set_of names) (flow rate 200 64 1500) false)

abbrev pub full : List Event
full = AtNode 0 (SendAs session first usual) ∷ AtNode 0 (SendAs session second usual) ∷ asks (first ∷ []) 100 ∷ asks (second ∷ []) 200 ∷ Pass 4 ∷ []

abbrev pub first_entry : List ℕ
first_entry = codes "239.1.1.1/17/5004 FF 10.0.1.1:5004 100/200/inf/64/1500\n"

-- what is asked fits before and after: 100 and 200, then 150 and 150. The one Resv says both, the raise comes first and does not fit
-- yet, and so it is refused. After four passes nothing is in flight, and the raise is not there
abbrev pub traded : Plan
traded = narrow (full ++ Reports (Some 0) ∷ Traces true ∷ asks (first ∷ second ∷ []) 150 ∷ Pass 4 ∷ Reports (Some 0) ∷ [])

pub record ATradeIsRefused : Type 0 where
  pub long : longest traded.net ≡ 1
  pub text : run_text traded
      ≡ codes "end s1 held 300 of 300\n" ++ first_entry
      ++ codes "239.1.1.1/17/5004 FF 10.0.1.1:5006 200/200/inf/64/1500\ns1 Resv answered 1/2\nt1 ResvErr taken\nend s1 held 250 of 300\n" ++ first_entry
      ++ codes "239.1.1.1/17/5004 FF 10.0.1.1:5006 150/200/inf/64/1500\n"
  pub nothing : (last_world traded).flight ≡ []
  pub owed : held (demand_of traded.net (locals_of (last_world traded)) 0) ≡ 300

-- ---- where a PathTear is in flight: somebody injected one of a sender that goes on to send. A pass after another sender begins, which is
-- enough for H = 1, the receiver's node has the path of that one, and not of the first
abbrev pub stray : Arrival
stray = Spelt (message.PathTear (record { session = session; hop = record { addr = s1; handle = 0 }; sender = Some first }))

abbrev pub behind_a_stray : World
behind_a_stray = last_world (narrow (sends ∷ Pass 1 ∷ Injects 1 group stray ∷ AtNode 0 (SendAs session second usual) ∷ Pass 1 ∷ []))

pub record AStrayTearIsTaken : Type 0 where
  pub first_one : path_at behind_a_stray 1 (session, first) ≡ None
  pub second_one : option_map (λ x. x.tspec) (path_at behind_a_stray 1 (session, second)) ≡ Some usual

-- ---- four nodes in a line, H = 3: after 2 H + 2 passes a confirmation is still on its way
abbrev pub longer : List Event → Plan
longer events =
    plan_of (record {
      nodes = 4;
      ends = end_of 0 s1 ∷ end_of 1 r1 ∷ end_of 1 (ip 10 0 2 1) ∷ end_of 2 (ip 10 0 2 2) ∷ end_of 2 (ip 10 0 3 1) ∷ end_of 3 (ip 10 0 3 2) ∷ [];
      links = (0 ∷ 1 ∷ []) ∷ (2 ∷ 3 ∷ []) ∷ (4 ∷ 5 ∷ []) ∷ [];
      hops = hop_of 0 1 ∷ hop_of 2 3 ∷ hop_of 4 5 ∷ [];
    }) (codes "s1" ∷ codes "p1" ∷ codes "p2" ∷ codes "q1" ∷ codes "q2" ∷ codes "t1" ∷ []) events

pub record AConfirmationIsLate : Type 0 where
  pub long : longest (longer []).net ≡ 3
  pub text : run_text (longer (AtNode 3 (WantAs session Wild empty usual true) ∷ sends ∷ Pass 8 ∷ Traces true ∷ Pass 1 ∷ [])) ≡ codes "t1 ResvConf taken\n"

-- ---- two links from a sender to a receiver, H = 1, and the tree moves from one to the other: nobody tears down what stands on the
-- first one
abbrev pub two_links : List Event → Plan
two_links events =
    plan_of (record {
      nodes = 2;
      ends = end_of 0 s1 ∷ end_of 1 r1 ∷ end_of 0 (ip 10 0 2 1) ∷ end_of 1 (ip 10 0 2 2) ∷ [];
      links = (0 ∷ 1 ∷ []) ∷ (2 ∷ 3 ∷ []) ∷ [];
      hops = hop_of 0 1 ∷ [];
    }) (codes "s1" ∷ codes "t1" ∷ codes "s2" ∷ codes "t2" ∷ []) events

pub record AMovedTreeLeavesAReservation : Type 0 where
  pub text : run_text (two_links (sends ∷ AtNode 1 (WantAs session Wild empty usual false) ∷ Pass 4 ∷ Traces true
      ∷ Reroutes group s1 ((record { from = 2; to = 3 }) ∷ []) ∷ Pass 4 ∷ Reports (Some 0) ∷ Reports (Some 2) ∷ Pass 1 ∷ []))
      ≡ codes "t1 PathTear taken\nt2 Path taken\ns2 Resv taken\nend s1 held 1000 of 10000\n" ++ usual_entry ++ codes "end s2 held 1000 of 10000\n" ++ usual_entry
