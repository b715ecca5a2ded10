-- What it comes to in small networks that a host begins to send where receivers wait.
use Rattle.std.specs.Prelude.{◌≡◌, ℕ, List, [], ◌∷◌, ◌++◌, true, false, codes, Some}
use Rattle.rsvp_base.specs.declared.session.Session.{Session}
use Rattle.rsvp_base.specs.declared.session.Sender.{Sender}
use Rattle.rsvp_base.specs.declared.style.StyleKind.TheVariants.{Fixed, Shared, Wild}
use Rattle.rsvp_base.specs.Sets.{set_of}
use Rattle.rsvp_base.specs.Table.{empty}
use Rattle.rsvp_base.specs.TokenBucket.{IsSound, TokenBucket}
use Rattle.tree_model.specs.declared.hops.TreeHop.{TreeHop}
use Rattle.tree_model.specs.Goals.{DemandsFit}
use Rattle.tree_model.specs.Ranks.{longest}
use Rattle.network_model.specs.Bounds.{AreBounds, AreHosts, IsStart}
use Rattle.network_model.specs.Events.{AtNode, DeliverAt, Event, Pass, Reports, Traces}
use Rattle.network_model.specs.Locals.{locals_of}
use Rattle.network_model.specs.Rows.{end_of, line, plan_of, sends, usual_entry, wants}
use Rattle.network_model.specs.RouterRules.Inputs.{DropAs, QuitAll, SendAs, WantAs}
use Rattle.network_model.specs.Runs.{run_text}
use Rattle.network_model.specs.ThreeRouters.{first, flow, ip, s1, second, session, usual}
use Rattle.network_model.specs.Worlds.{World}
use Rattle.laws_network.specs.Example.{pair_net, quiet_world}
use Rattle.settle_resvs.specs.Sessions.{SessionFits}
use Rattle.settle_network.specs.Settled.{HasSettled}
use Rattle.settle_passes.specs.Calls.{HasItsPaths, IsNew, SendsAt, after_drop, after_send}
use Rattle.settle_passes.specs.Reserving.{IsReserving, after_want}
use Rattle.settle_passes.specs.Worked.{longer}
use Rattle.settle_releases.specs.Releases.{HasNoMark}
use Rattle.settle_releases.specs.Worked.{pair, pair_with_left_over, served, served_world}
use Rattle.settle_senders.specs.Following.{IsFollowing}

-- ---- a pair of nodes, in which a receiver waits for a sender; and then a host begins to send
abbrev pub waiting_world : World
waiting_world = after_want 7500 1 session Wild empty usual false quiet_world

abbrev pub joined_world : World
joined_world = after_send 7500 0 (session, first) usual waiting_world

-- the premises of the laws, and what they promise does not hold yet
pub record AReceiverWaits : Type 0 where
  pub bounds : AreBounds 7500 waiting_world
  pub locals : AreHosts waiting_world
  pub settled : HasSettled 7500 waiting_world
  pub quiet : waiting_world.flight ≡ []
  pub fit : IsSound usual
  pub new : IsNew waiting_world (session, first)
  pub hosts : AreHosts joined_world
  pub all_fit : DemandsFit pair_net (locals_of joined_world)
  pub not_yet : HasSettled 7500 joined_world → ⊥
  -- and so of each session
  pub reserving : (s : Session) → IsReserving 7500 s waiting_world
  pub fits : (s : Session) → SessionFits pair_net (locals_of joined_world) s
  pub following : (s : Session) → IsFollowing 7500 s joined_world
  pub not_reserving : IsReserving 7500 session joined_world → ⊥
  -- and nobody waits to be confirmed
  pub unmarked : HasNoMark waiting_world
  pub flies : joined_world.flight ≡ [] → ⊥

-- ---- or its receiver is served, and the host ends: the premises of the laws, and what they promise does not hold yet
abbrev pub let_go_world : World
let_go_world = after_drop 7500 0 (session, first) served_world

pub record ASenderEnds : Type 0 where
  pub begins : IsStart 7500 served_world
  pub settled : HasSettled 7500 served_world
  pub quiet : served_world.flight ≡ []
  pub sends : SendsAt served_world 0 (session, first)
  pub not_yet : HasItsPaths 7500 let_go_world → ⊥
  pub not_settled : HasSettled 7500 let_go_world → ⊥
  -- and nobody waits to be confirmed
  pub unmarked : HasNoMark served_world
  pub flies : let_go_world.flight ≡ [] → ⊥

-- ---- three nodes in a line, H = 2: none of the four passes can be spared
pub record NoPassIsSpared : Type 0 where
  pub long : longest (line 10000 []).net ≡ 2
  pub text : run_text (line 10000 (AtNode 2 (WantAs session Wild empty usual false) ∷ Traces true ∷ sends ∷ Pass 3 ∷ Reports (Some 0) ∷ Pass 1 ∷ Reports (Some 0) ∷ []))
      ≡ codes "r1 Path taken\nt1 Path taken\nr2 Resv taken\nend s1 held 0 of 10000\ns1 Resv taken\nend s1 held 1000 of 10000\n" ++ usual_entry

-- ---- the sender's end has 900 bytes per second, and the receiver waits for 1,000
pub record ANewDemandIsRefused : Type 0 where
  pub text : run_text (line 900 (AtNode 2 (WantAs session Wild empty usual false) ∷ Traces true ∷ sends ∷ Pass 4 ∷ Reports (Some 0) ∷ []))
      ≡ codes "r1 Path taken\nt1 Path taken\nr2 Resv taken\ns1 Resv answered 1/2\nend s1 held 0 of 900\n"

-- ---- the receiver waits to be confirmed besides: after the 2 H passes the answer is on its way
pub record AMarkIsAnswered : Type 0 where
  pub text : run_text (line 10000 (AtNode 2 (WantAs session Wild empty usual true) ∷ sends ∷ Pass 4 ∷ Traces true ∷ Pass 2 ∷ [])) ≡ codes "r1 ResvConf taken\nt1 ResvConf taken\n"

-- ---- a receiver of the pair quit and asked again, and its Resv came first: a ResvTear is in flight when the next sender begins
pub record ATearIsInFlight : Type 0 where
  pub text : run_text (pair (served ++ AtNode 1 (QuitAll session) ∷ wants 1 usual ∷ DeliverAt 2 ∷ Reports (Some 0) ∷ Traces true ∷ AtNode 0 (SendAs session second usual) ∷ Pass 2
      ∷ Reports (Some 0) ∷ []))
      ≡ codes "end s1 held 1000 of 10000\n" ++ usual_entry ++ codes "s1 ResvTear taken\nt1 Path taken\nend s1 held 0 of 10000\n"

-- ---- a reservation is left over of a session that nobody wants
pub record WhatIsLeftOverStays : Type 0 where
  pub text : run_text (pair_with_left_over (wants 1 usual ∷ Traces true ∷ sends ∷ Pass 2 ∷ Reports (Some 0) ∷ []))
      ≡ codes "t1 Path taken\ns1 Resv taken\nend s1 held 1400 of 10000\n" ++ usual_entry ++ codes "239.1.1.2/17/5004 WF 10.0.9.9 400/400/inf/1/1500\n"

-- ---- a host on a link of three ends sends to the address of the second end, along a tree to both the others
abbrev pub to_an_end : Session
to_an_end = record { group = ip 10 0 1 2; proto = 17; port = 5004 }

abbrev pub hop_toward : ℕ → TreeHop
hop_toward e = record { group = to_an_end.group; source = s1; hop = record { from = 0; to = e } }

pub record APathGoesToOneEnd : Type 0 where
  pub text : run_text (plan_of (record {
    nodes = 3;
    ends = end_of 0 s1 ∷ end_of 1 to_an_end.group ∷ end_of 2 (ip 10 0 1 3) ∷ [];
    links = (0 ∷ 1 ∷ 2 ∷ []) ∷ [];
    hops = hop_toward 1 ∷ hop_toward 2 ∷ [];
  }) (codes "s1" ∷ codes "t1" ∷ codes "u1" ∷ [])
      (AtNode 2 (WantAs to_an_end Wild empty usual false) ∷ Traces true ∷ AtNode 0 (SendAs to_an_end first usual) ∷ Pass 2 ∷ Reports (Some 0) ∷ []))
      ≡ codes "t1 Path taken\nend s1 held 0 of 10000\n"

-- ---- four nodes in a line, H = 3, and two senders at the first. The last node wants 700 bytes per second of the first sender, and the one
-- before it 100 of the second: over the two hops that they share 700 are reserved for both. When the first sender ends, the node before the
-- last one asks for less in the second pass, and two passes later this has come to the sender's end
abbrev pub wants_of : ℕ → Sender → TokenBucket → Event
wants_of n x f = AtNode n (WantAs session Shared (set_of (x ∷ [])) f false)

abbrev pub shared_by_two : List Event
shared_by_two = sends ∷ AtNode 0 (SendAs session second usual) ∷ wants_of 2 second (flow 100 200 64 1500) ∷ wants_of 3 first (flow 700 900 64 1500) ∷ Pass 8 ∷ []

pub record ASharedFlowFallsLater : Type 0 where
  pub long : longest (longer []).net ≡ 3
  pub text : run_text (longer (shared_by_two ++ Traces true ∷ AtNode 0 (DropAs session first) ∷ Pass 3 ∷ Reports (Some 0) ∷ Pass 1 ∷ Reports (Some 0) ∷ Pass 1 ∷ []))
      ≡ codes "p1 PathTear taken\nq1 PathTear taken\ns1 Resv taken\nt1 PathTear taken\np2 Resv taken\nend s1 held 700 of 10000\n"
      ++ codes "239.1.1.1/17/5004 SE 10.0.1.1:5006 700/900/inf/64/1500\ns1 Resv taken\nend s1 held 100 of 10000\n239.1.1.1/17/5004 SE 10.0.1.1:5006 100/200/inf/64/1500\n"

-- ---- two senders of the pair end at once, H = 1, and a receiver asks for each by name: what it asks for between one PathTear and the other
-- is answered with an error, which is in flight after 2 H passes
pub record TwoSendersEnd : Type 0 where
  pub long : longest pair_net ≡ 1
  pub text : run_text (pair (sends ∷ AtNode 0 (SendAs session second usual) ∷ AtNode 1 (WantAs session Fixed (set_of (first ∷ second ∷ [])) (flow 100 200 64 1500) false) ∷ Pass 4
      ∷ Traces true ∷ AtNode 0 (DropAs session first) ∷ AtNode 0 (DropAs session second) ∷ Pass 2 ∷ Reports (Some 0) ∷ Pass 1 ∷ Pass 1 ∷ []))
      ≡ codes "t1 PathTear taken\nt1 PathTear taken\ns1 Resv answered 3/0\nend s1 held 0 of 10000\nt1 ResvErr dropped NoState\n"
