-- What releases come to in small networks: where they are done in time, and where a premise is not met.
use Rattle.std.specs.Prelude.{◌≡◌, ℕ, ◌++◌, List, [], ◌∷◌, true, false, codes, Some}
use Rattle.rsvp_base.specs.declared.session.Session.{Session}
use Rattle.rsvp_base.specs.declared.style.StyleKind.TheVariants.{Fixed, Wild}
use Rattle.rsvp_base.specs.Members.{In}
use Rattle.rsvp_base.specs.Sets.{set_of}
use Rattle.rsvp_base.specs.Table.{empty}
use Rattle.rsvp_base.specs.TokenBucket.{IsSound, TokenBucket}
use Rattle.router_rules.specs.Steps.{IsFitList}
use Rattle.tree_model.specs.Ranks.{longest}
use Rattle.network_model.specs.Bounds.{IsStart}
use Rattle.network_model.specs.Events.{AtNode, CopyAt, DeliverAt, Event, Pass, Reports, Traces}
use Rattle.network_model.specs.Rows.{booked, left_resv, line, plan_of, sends, usual_entry, wants}
use Rattle.network_model.specs.RouterRules.Inputs.{QuitAll, WantAs}
use Rattle.network_model.specs.Runs.{Plan, run_text}
use Rattle.network_model.specs.ThreeRouters.{flow, ip, second, session, usual}
use Rattle.network_model.specs.Worlds.{Item, World}
use Rattle.laws_network.specs.Example.{pair_net}
use Rattle.settle_network.specs.Settled.{HasSettled}
use Rattle.settle_passes.specs.Passes.{after_passes}
use Rattle.settle_passes.specs.Reserving.{after_want, HasReserved, IsReserving}
use Rattle.settle_passes.specs.Worked.{asked_world}
use Rattle.settle_releases.specs.Releases.{AsksNoMore, HasNoMark, after_quits}

-- ---- a pair of nodes, once its receiver is served, which then quits: the premises of the laws, and what they promise does not hold yet
abbrev pub served_world : World
served_world = after_passes 7500 (longest pair_net) asked_world

abbrev pub left_world : World
left_world = after_quits 7500 ((1, session) ∷ []) served_world

pub record AReceiverQuits : Type 0 where
  pub long : longest pair_net ≡ 1
  pub begins : IsStart 7500 served_world
  pub settled : HasSettled 7500 served_world
  pub quiet : served_world.flight ≡ []
  pub not_yet : HasSettled 7500 left_world → ⊥
  pub sends : (y : Item) × In y left_world.flight
  -- and so of each session
  pub reserved : (s : Session) → IsReserving 7500 s served_world × HasReserved s served_world
  -- and nobody waits to be confirmed
  pub unmarked : HasNoMark served_world

-- ---- or it asks for less. And in a line of two hops: what the sender's end holds after one pass and after two
abbrev pub smaller : TokenBucket
smaller = flow 400 600 64 1500

abbrev pub less_world : World
less_world = after_want 7500 1 session Wild empty smaller false served_world

abbrev pub smaller_entry : List ℕ
smaller_entry = codes "239.1.1.1/17/5004 WF 10.0.1.1 400/600/inf/64/1500\n"

pub record AReceiverAsksForLess : Type 0 where
  pub begins : IsStart 7500 served_world
  pub settled : HasSettled 7500 served_world
  pub quiet : served_world.flight ≡ []
  -- and so of each session
  pub reserved : (s : Session) → IsReserving 7500 s served_world × HasReserved s served_world
  -- and nobody waits to be confirmed
  pub unmarked : HasNoMark served_world
  pub list : IsFitList Wild empty
  pub fit : IsSound smaller
  pub no_more : AsksNoMore served_world 1 session Wild empty smaller false
  pub not_yet : HasSettled 7500 less_world → ⊥
  pub sends : (y : Item) × In y less_world.flight
  pub long : longest (line 10000 []).net ≡ 2
  pub text : run_text (line 10000 (booked ++ Traces true ∷ wants 2 smaller ∷ Pass 1 ∷ Reports (Some 0) ∷ Pass 1 ∷ Reports (Some 0) ∷ Pass 1 ∷ []))
      ≡ codes "r2 Resv taken\nend s1 held 1000 of 10000\n" ++ usual_entry ++ codes "s1 Resv taken\nend s1 held 400 of 10000\n" ++ smaller_entry

-- ---- what a pair of nodes writes
abbrev pub pair : List Event → Plan
pair events = plan_of pair_net (codes "s1" ∷ codes "t1" ∷ []) events

-- the receiver is served
abbrev pub served : List Event
served = sends ∷ wants 1 usual ∷ Pass 2 ∷ []

-- ---- something is in flight when a receiver quits another session: a ResvTear, since a receiver quit and asked again, and its Resv came
-- first; or a copy of a Resv that asks to be confirmed and was answered
abbrev pub other : Session
other = record { group = ip 239 1 1 2; proto = 17; port = 5004 }

abbrev pub quits_other : Event
quits_other = AtNode 1 (QuitAll other)

pub record SomethingIsInFlight : Type 0 where
  pub tear : run_text (pair (AtNode 1 (WantAs other Wild empty usual false) ∷ served ++ AtNode 1 (QuitAll session) ∷ wants 1 usual ∷ DeliverAt 2 ∷ Reports (Some 0) ∷ Traces true
      ∷ quits_other ∷ Pass 1 ∷ Reports (Some 0) ∷ []))
      ≡ codes "end s1 held 1000 of 10000\n" ++ usual_entry ++ codes "s1 ResvTear taken\nend s1 held 0 of 10000\n"
  pub copy : run_text (pair (AtNode 1 (WantAs other Wild empty usual false) ∷ sends ∷ Pass 1 ∷ AtNode 1 (WantAs session Wild empty usual true) ∷ CopyAt 1 ∷ Traces true ∷ DeliverAt 1
      ∷ DeliverAt 2 ∷ Reports (Some 0) ∷ quits_other ∷ Pass 1 ∷ Pass 1 ∷ []))
      ≡ codes "s1 Resv taken\nt1 ResvConf taken\nend s1 held 1000 of 10000\n" ++ usual_entry ++ codes "s1 Resv taken\nt1 ResvConf taken\n"

-- ---- the session is wanted in two styles: the sender's node asks with a fixed filter for somebody who does not send, once a receiver is
-- served. So it refuses what then comes for less: the Resv of that receiver, or the one of its router when it quits
abbrev pub in_another_style : Event
in_another_style = AtNode 0 (WantAs session Fixed (set_of (second ∷ [])) usual false)

pub record AnotherStyleIsWanted : Type 0 where
  pub less : run_text (pair (served ++ in_another_style ∷ Pass 1 ∷ Reports (Some 0) ∷ Traces true ∷ wants 1 smaller ∷ Pass 1 ∷ Reports (Some 0) ∷ Pass 1 ∷ []))
      ≡ codes "end s1 held 1000 of 10000\n" ++ usual_entry ++ codes "s1 Resv answered 5/10\nend s1 held 1000 of 10000\n" ++ usual_entry ++ codes "t1 ResvErr taken\n"
  pub quit : run_text (line 10000 (wants 1 smaller ∷ booked ++ in_another_style ∷ Pass 1 ∷ Traces true ∷ AtNode 2 (QuitAll session) ∷ Pass 2 ∷ Reports (Some 0) ∷ Pass 1 ∷ []))
      ≡ codes "r2 ResvTear taken\ns1 Resv answered 5/10\nend s1 held 1000 of 10000\n" ++ usual_entry ++ codes "r1 ResvErr taken\n"

-- ---- a reservation is left over of a session that nobody wants
abbrev pub pair_with_left_over : List Event → Plan
pair_with_left_over events = record (pair events) { stale = left_resv 2 400 157500 ∷ [] }

pub record WhatIsLeftOverStays : Type 0 where
  pub text : run_text (pair_with_left_over (served ++ Traces true ∷ AtNode 1 (QuitAll session) ∷ Pass 1 ∷ Reports (Some 0) ∷ Pass 1 ∷ []))
      ≡ codes "s1 ResvTear taken\nend s1 held 400 of 10000\n239.1.1.2/17/5004 WF 10.0.9.9 400/400/inf/1/1500\n"

-- ---- a want has a mark: the middle node of a line asks to be confirmed for what it has, which sends nothing, so that its mark waits for
-- the next Resv. That one is sent for a receiver behind it, which quits or asks for less, and two passes later the answer is on its way
abbrev pub marked : List Event
marked = wants 1 (flow 300 600 64 1500) ∷ booked ++ Traces true ∷ AtNode 1 (WantAs session Wild empty (flow 300 600 64 1500) true) ∷ Pass 1 ∷ []

pub record AMarkWaits : Type 0 where
  pub quit : run_text (line 10000 (marked ++ AtNode 2 (QuitAll session) ∷ Pass 2 ∷ Reports (Some 0) ∷ Pass 1 ∷ []))
      ≡ codes "r2 ResvTear taken\ns1 Resv taken\nend s1 held 300 of 10000\n239.1.1.1/17/5004 WF 10.0.1.1 300/600/inf/64/1500\nr1 ResvConf taken\n"
  pub less : run_text (line 10000 (marked ++ wants 2 smaller ∷ Pass 2 ∷ Reports (Some 0) ∷ Pass 1 ∷ []))
      ≡ codes "r2 Resv taken\ns1 Resv taken\nend s1 held 400 of 10000\n" ++ smaller_entry ++ codes "r1 ResvConf taken\n"

-- ---- the receiver that asks for less asks to be confirmed
pub record AConfirmationComesBack : Type 0 where
  pub text : run_text (pair (served ++ Traces true ∷ AtNode 1 (WantAs session Wild empty smaller true) ∷ Pass 1 ∷ Reports (Some 0) ∷ Pass 1 ∷ []))
      ≡ codes "s1 Resv taken\nend s1 held 400 of 10000\n" ++ smaller_entry ++ codes "t1 ResvConf taken\n"
