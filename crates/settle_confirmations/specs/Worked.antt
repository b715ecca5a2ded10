-- What becomes of requests in small networks: where they are answered, and where a premise is not met, with one sender or with two.
use Rattle.std.specs.Prelude.{◌≡◌, ℕ, ◌++◌, List, [], ◌∷◌, map as each, Bool, true, false, Option, None, Some, codes}
use Rattle.std.specs.List.{flat_map}
use Rattle.std.specs.Option.{option_map}
use Rattle.rsvp_base.specs.declared.addr.Addr.{Addr}
use Rattle.rsvp_base.specs.declared.session.Sender.{Sender}
use Rattle.rsvp_base.specs.declared.session.Session.{Session}
use Rattle.rsvp_base.specs.declared.style.StyleKind.TheVariants.{Fixed, Shared, Wild}
use Rattle.rsvp_base.specs.declared.style.Unit.{Unit as UnitOf}
use Rattle.rsvp_base.specs.declared.style.Unit.TheVariants.{Of, One}
use Rattle.rsvp_base.specs.Sets.{set_of}
use Rattle.rsvp_base.specs.Table.{empty}
use Rattle.rsvp_base.specs.Members.{In}
use Rattle.rsvp_base.specs.Orders.{Names}
use Rattle.rsvp_base.specs.TokenBucket.{IsSound, TokenBucket}
use Rattle.router_rules.specs.Steps.{IsFitList}
use Rattle.tree_model.specs.declared.hops.TreeHop.{TreeHop}
use Rattle.tree_model.specs.Goals.{DemandsFit}
use Rattle.tree_model.specs.Ranks.{longest}
use Rattle.network_model.specs.Bounds.{IsStart}
use Rattle.network_model.specs.Locals.{locals_of}
use Rattle.network_model.specs.Worlds.{Item, World}
use Rattle.network_model.specs.RouterRules.Inputs.{QuitAll, SendAs, WantAs}
use Rattle.network_model.specs.ThreeRouters.{first, flow, group, ip, r1, r2, s1, second, session, usual}
use Rattle.network_model.specs.Events.{AtNode, Event, Pass, Traces}
use Rattle.network_model.specs.Rows.{booked, end_of, hop_of, line, plan_of, sends}
use Rattle.network_model.specs.Runs.{Plan, last_world, run_text}
use Rattle.settle_resvs.specs.SoftResvs.{resv_at}
use Rattle.settle_network.specs.Settled.{HasSettled}
use Rattle.settle_passes.specs.Reserving.{AsksNoLess, after_want}
use Rattle.settle_passes.specs.Worked.{heard_world}
use Rattle.settle_confirmations.specs.Requests.{ComeByOneEnd, IsOnlySender, arrival_units}

-- the units that what is in flight asks for, or confirms, and their flows
abbrev pub units_in : World → List UnitOf
units_in w = flat_map (λ y. each (λ u. u.unit) (arrival_units y.arrival)) w.flight

abbrev pub flows_in : World → List TokenBucket
flows_in w = flat_map (λ y. each (λ u. u.flow) (arrival_units y.arrival)) w.flight

-- ---- a receiver asks in the pair, once its node has the path, and for a confirmation: the premises of the law. And a line of two hops
abbrev pub wishing_world : World
wishing_world = after_want 7500 1 session Wild empty usual true heard_world

pub record AReceiverHears : Type 0 where
  pub begins : IsStart 7500 heard_world
  pub settled : HasSettled 7500 heard_world
  pub quiet : heard_world.flight ≡ []
  pub only : IsOnlySender heard_world session first
  pub list : IsFitList Wild empty
  pub flow : IsSound usual
  pub no_less : AsksNoLess heard_world 1 session Wild empty usual true
  pub fit : DemandsFit heard_world.net (locals_of wishing_world)
  pub sends : (y : Item) × In y wishing_world.flight
  pub long : longest (line 10000 []).net ≡ 2
  pub text : run_text (line 10000 (AtNode 0 (SendAs session first usual) ∷ Pass 2 ∷ Traces true ∷ AtNode 2 (WantAs session Wild empty usual true) ∷ Pass 4 ∷ []))
      ≡ codes "r2 Resv taken\ns1 Resv taken\nr1 ResvConf taken\nt1 ResvConf taken\n"
  -- the answer comes in the fourth of the passes
  pub last : run_text (line 10000 (AtNode 0 (SendAs session first usual) ∷ Pass 2 ∷ AtNode 2 (WantAs session Wild empty usual true) ∷ Pass 3 ∷ Traces true ∷ Pass 1 ∷ []))
      ≡ codes "t1 ResvConf taken\n"
  -- and confirms what was asked for
  pub flows : flows_in (last_world (line 10000 (AtNode 0 (SendAs session first usual) ∷ Pass 2 ∷ AtNode 2 (WantAs session Wild empty usual true) ∷ Pass 3 ∷ []))) ≡ usual ∷ []

-- a hop of the tree of another source
abbrev pub hop_from : Addr → ℕ → ℕ → TreeHop
hop_from a e d = record { group = group; source = a; hop = record { from = e; to = d } }

-- ---- a line of four nodes, the first two of which send; the third wants something of the first, and the last something of the second,
-- with a shared filter. What answers the last one speaks of the first sender alone
abbrev pub theirs : Sender
theirs = record { addr = r2; port = 5004 }

abbrev pub wants_of : ℕ → Sender → ℕ → Bool → Event
wants_of n x rate confirm = AtNode n (WantAs session Shared (set_of (x ∷ [])) (flow rate 600 64 1500) confirm)

abbrev pub shared_line : List Event → Plan
shared_line events =
    plan_of (record {
      nodes = 4;
      ends = end_of 0 s1 ∷ end_of 1 r1 ∷ end_of 1 r2 ∷ end_of 2 (ip 10 0 2 2) ∷ end_of 2 (ip 10 0 3 1) ∷ end_of 3 (ip 10 0 3 2) ∷ [];
      links = (0 ∷ 1 ∷ []) ∷ (2 ∷ 3 ∷ []) ∷ (4 ∷ 5 ∷ []) ∷ [];
      hops = hop_of 0 1 ∷ hop_of 2 3 ∷ hop_of 4 5 ∷ hop_from r2 2 3 ∷ hop_from r2 4 5 ∷ [];
    }) (codes "s1" ∷ codes "m1" ∷ codes "m2" ∷ codes "k1" ∷ codes "k2" ∷ codes "t1" ∷ []) events

pub record AnAnswerSpeaksOfAnother : Type 0 where
  pub text : run_text (shared_line (AtNode 0 (SendAs session first usual) ∷ AtNode 1 (SendAs session theirs usual) ∷ wants_of 2 first 200 false ∷ Pass 8
      ∷ Traces true ∷ wants_of 3 theirs 300 true ∷ Pass 9 ∷ []))
      ≡ codes "k2 Resv taken\nm2 Resv taken\ns1 Resv taken\nm1 ResvConf taken\nk1 ResvConf dropped NoState\n"

-- ---- a line of three nodes, the first two of which send; the third wants something of both, each for itself. For the second sender nothing
-- goes on, and the answer speaks of the first one alone
abbrev pub both_send : List Event → Plan
both_send events =
    plan_of (record {
      nodes = 3;
      ends = end_of 0 s1 ∷ end_of 1 r1 ∷ end_of 1 r2 ∷ end_of 2 (ip 10 0 2 2) ∷ [];
      links = (0 ∷ 1 ∷ []) ∷ (2 ∷ 3 ∷ []) ∷ [];
      hops = hop_of 0 1 ∷ hop_of 2 3 ∷ hop_from r2 2 3 ∷ [];
    }) (codes "s1" ∷ codes "r1" ∷ codes "r2" ∷ codes "t1" ∷ []) events

abbrev pub wants_both : List Event → List Event
wants_both events =
    AtNode 0 (SendAs session first usual) ∷ AtNode 1 (SendAs session theirs usual) ∷ Pass 4 ∷ AtNode 2 (WantAs session Fixed (set_of (first ∷ theirs ∷ [])) usual true) ∷ events

pub record AnAnswerLeavesOut : Type 0 where
  pub text : run_text (both_send (wants_both (Traces true ∷ Pass 5 ∷ []))) ≡ codes "r2 Resv taken\ns1 Resv taken\nr1 ResvConf taken\nt1 ResvConf taken\n"
  -- what is asked for, and what is confirmed
  pub asked : units_in (last_world (both_send (wants_both []))) ≡ Of first ∷ Of theirs ∷ []
  pub answered : units_in (last_world (both_send (wants_both (Pass 3 ∷ [])))) ≡ Of first ∷ []

-- ---- a receiver asks in the pair for two senders with a fixed filter, one of which sends: the premises of the law of fixed filters
abbrev pub both_names : Names
both_names = set_of (first ∷ second ∷ [])

abbrev pub filtered_world : World
filtered_world = after_want 7500 1 session Fixed both_names usual true heard_world

pub record AFixedFilterHears : Type 0 where
  pub begins : IsStart 7500 heard_world
  pub settled : HasSettled 7500 heard_world
  pub quiet : heard_world.flight ≡ []
  pub one_end : ComeByOneEnd heard_world 1 session both_names 1
  pub list : IsFitList Fixed both_names
  pub flow : IsSound usual
  pub no_less : AsksNoLess heard_world 1 session Fixed both_names usual true
  pub fit : DemandsFit heard_world.net (locals_of filtered_world)
  pub sends : (y : Item) × In y filtered_world.flight
  -- what is asked for
  pub asked : units_in filtered_world ≡ Of first ∷ []

-- ---- a host with two ends, by which the paths of two senders come; where their ways part and meet again, each address to confirm takes
-- the place of the other somewhere
abbrev pub u2 : Addr
u2 = ip 10 0 9 1

abbrev pub two_ends : List Event → Plan
two_ends events =
    plan_of (record {
      nodes = 7;
      ends = end_of 0 s1 ∷ end_of 1 r1 ∷ end_of 1 (ip 10 0 2 1) ∷ end_of 2 (ip 10 0 2 2) ∷ end_of 2 (ip 10 0 3 1) ∷ end_of 4 (ip 10 0 3 2)
          ∷ end_of 2 (ip 10 0 4 1) ∷ end_of 3 (ip 10 0 4 2) ∷ end_of 3 (ip 10 0 5 1) ∷ end_of 4 (ip 10 0 5 2) ∷ end_of 4 (ip 10 0 6 1)
          ∷ end_of 5 (ip 10 0 6 2) ∷ end_of 5 (ip 10 0 7 1) ∷ end_of 6 (ip 10 0 7 2) ∷ end_of 5 (ip 10 0 8 1) ∷ end_of 6 (ip 10 0 8 2) ∷ end_of 0 u2 ∷ [];
      links = (0 ∷ 1 ∷ []) ∷ (2 ∷ 3 ∷ []) ∷ (4 ∷ 5 ∷ []) ∷ (6 ∷ 7 ∷ []) ∷ (8 ∷ 9 ∷ []) ∷ (10 ∷ 11 ∷ []) ∷ (12 ∷ 13 ∷ []) ∷ (14 ∷ 15 ∷ []) ∷ [];
      hops = hop_of 0 1 ∷ hop_of 2 3 ∷ hop_of 6 7 ∷ hop_of 8 9 ∷ hop_of 10 11 ∷ hop_of 12 13
          ∷ hop_from u2 0 1 ∷ hop_from u2 2 3 ∷ hop_from u2 4 5 ∷ hop_from u2 10 11 ∷ hop_from u2 14 15 ∷ [];
    }) (codes "u1" ∷ codes "b1" ∷ codes "b2" ∷ codes "a1" ∷ codes "a2" ∷ codes "d1" ∷ codes "a3" ∷ codes "e1" ∷ codes "e2" ∷ codes "d2" ∷ codes "d3" ∷ codes "x1"
    ∷ codes "x2" ∷ codes "t1" ∷ codes "x3" ∷ codes "t2" ∷ codes "u2" ∷ []) events

pub record TwoEndsHearNothing : Type 0 where
  pub text : run_text (two_ends (AtNode 0 (SendAs session first usual) ∷ AtNode 0 (SendAs session (record { addr = u2; port = 5004 }) usual) ∷ Pass 8
      ∷ AtNode 6 (WantAs session Wild empty (flow 300 600 64 1500) true) ∷ Pass 5 ∷ Traces true ∷ Pass 7 ∷ []))
      ≡ codes "u1 Resv taken\nb1 ResvConf dropped NoState\nb1 ResvConf taken\na1 ResvConf taken\ne1 ResvConf taken\nd2 ResvConf dropped NoState\n"
  -- and so it is with a fixed filter for both
  pub fixed : run_text (two_ends (AtNode 0 (SendAs session first usual) ∷ AtNode 0 (SendAs session (record { addr = u2; port = 5004 }) usual) ∷ Pass 8
      ∷ AtNode 6 (WantAs session Fixed (set_of (first ∷ record { addr = u2; port = 5004 } ∷ [])) (flow 300 600 64 1500) true) ∷ Pass 5 ∷ Traces true ∷ Pass 7 ∷ []))
      ≡ codes "u1 Resv taken\nb1 ResvConf dropped NoState\nb1 ResvConf taken\na1 ResvConf taken\ne1 ResvConf taken\nd2 ResvConf dropped NoState\n"

-- ---- one sender. Two receivers behind one router ask at once, H = 3: the router above forgets the address of the first
abbrev pub behind_one : List Event → Plan
behind_one events =
    plan_of (record {
      nodes = 5;
      ends = end_of 0 s1 ∷ end_of 1 r1 ∷ end_of 1 r2 ∷ end_of 2 (ip 10 0 2 2) ∷ end_of 2 (ip 10 0 3 1) ∷ end_of 3 (ip 10 0 3 2) ∷ end_of 2 (ip 10 0 4 1) ∷ end_of 4 (ip 10 0 4 2) ∷ [];
      links = (0 ∷ 1 ∷ []) ∷ (2 ∷ 3 ∷ []) ∷ (4 ∷ 5 ∷ []) ∷ (6 ∷ 7 ∷ []) ∷ [];
      hops = hop_of 0 1 ∷ hop_of 2 3 ∷ hop_of 4 5 ∷ hop_of 6 7 ∷ [];
    }) (codes "s1" ∷ codes "r1" ∷ codes "r2" ∷ codes "q1" ∷ codes "q2" ∷ codes "t1" ∷ codes "q3" ∷ codes "u1" ∷ []) events

abbrev pub asks_for : ℕ → ℕ → Event
asks_for n rate = AtNode n (WantAs session Wild empty (flow rate 600 64 1500) true)

pub record TwoReceiversAskAtOnce : Type 0 where
  pub long : longest (behind_one []).net ≡ 3
  pub text : run_text (behind_one (sends ∷ Pass 3 ∷ Traces true ∷ asks_for 3 300 ∷ asks_for 4 400 ∷ Pass 6 ∷ []))
      ≡ codes "q2 Resv taken\nq3 Resv taken\nr2 Resv taken\nr2 Resv taken\ns1 Resv taken\ns1 Resv taken\n"
      ++ codes "r1 ResvConf dropped NoState\nr1 ResvConf taken\nq1 ResvConf taken\nu1 ResvConf taken\n"

-- ---- a receiver that has what it wants of the sender asks for somebody else, who does not send: all that goes out is a ResvTear
abbrev pub wants_alone : Sender → Bool → Event
wants_alone x confirm = AtNode 2 (WantAs session Shared (set_of (x ∷ [])) usual confirm)

pub record AReceiverTurnsAway : Type 0 where
  pub text : run_text (line 10000 (sends ∷ wants_alone first false ∷ Pass 4 ∷ Traces true ∷ wants_alone second true ∷ Pass 4 ∷ []))
      ≡ codes "r2 ResvTear taken\ns1 ResvTear taken\n"

-- ---- a receiver asks to be confirmed for what it has: its node sends nothing, and nobody answers
pub record AReceiverHasItAlready : Type 0 where
  pub text : run_text (line 10000 (booked ++ Traces true ∷ AtNode 2 (WantAs session Wild empty usual true) ∷ Pass 4 ∷ [])) ≡ []

-- ---- an end has a byte per second less than a receiver asks for: what comes back is a ResvErr
pub record ARequestIsRefused : Type 0 where
  pub text : run_text (line 1000 (sends ∷ Pass 2 ∷ Traces true ∷ asks_for 2 1001 ∷ Pass 4 ∷ []))
      ≡ codes "r2 Resv taken\ns1 Resv answered 1/2\nr1 ResvErr taken\nt1 ResvErr taken\n"

-- ---- what is confirmed is the flow of the Resv that is answered. The router has a receiver of its own, for a smaller rate and a larger
-- bucket: so more is confirmed than was asked for
abbrev pub wants_flow : ℕ → ℕ → ℕ → Event
wants_flow n rate depth = AtNode n (WantAs session Wild empty (flow rate depth 64 1500) false)

pub record AnAnswerIsForMore : Type 0 where
  pub flows : flows_in (last_world (line 10000 (sends ∷ wants_flow 1 200 900 ∷ Pass 4 ∷ asks_for 2 500 ∷ Pass 3 ∷ []))) ≡ flow 500 900 64 1500 ∷ []

-- the flow that is reserved at the sender's end
abbrev pub held_first : World → Option TokenBucket
held_first w = option_map (λ x. x.part.flow) (resv_at w 0 Wild (session, ((0, r1), One)))

-- the first end has 1,500 bytes per second, of which another session took 800, so that a receiver behind the router was refused 1,000. Now
-- that one is quit; the receiver has 700, and one of the router 400. The first asks for 1,200, which would fit, and the blockade keeps it back:
-- the Resv that goes on asks for 400 alone, but with the wish, and is answered
abbrev pub another : Session
another = record { group = group; proto = 17; port = 5005 }

abbrev pub was_refused : List Event
was_refused =
    sends ∷ AtNode 0 (SendAs another first usual) ∷ Pass 2 ∷ AtNode 2 (WantAs another Wild empty (flow 800 600 64 1500) false) ∷ Pass 4 ∷ wants_flow 1 400 600
    ∷ wants_flow 2 1000 600 ∷ Pass 6 ∷ AtNode 2 (QuitAll another) ∷ wants_flow 2 700 600 ∷ Pass 4 ∷ []

pub record LessIsConfirmed : Type 0 where
  -- all that was asked for is held, and nothing is in flight
  pub before : held_first (last_world (line 1500 was_refused)) ≡ Some (flow 700 600 64 1500)
  pub quiet : (last_world (line 1500 was_refused)).flight ≡ []
  pub text : run_text (line 1500 (was_refused ++ Traces true ∷ asks_for 2 1200 ∷ Pass 4 ∷ [])) ≡ codes "r2 Resv taken\ns1 Resv taken\nr1 ResvConf taken\nt1 ResvConf taken\n"
  pub flows : flows_in (last_world (line 1500 (was_refused ++ asks_for 2 1200 ∷ Pass 3 ∷ []))) ≡ flow 400 600 64 1500 ∷ []
  pub held : held_first (last_world (line 1500 (was_refused ++ asks_for 2 1200 ∷ Pass 3 ∷ []))) ≡ Some (flow 400 600 64 1500)

-- ---- one receiver asks, and before its request is far another one asks for less, and for a confirmation
abbrev pub asked_first : List Event → List Event
asked_first events = sends ∷ Pass 3 ∷ wants_flow 3 400 600 ∷ asks_for 4 300 ∷ events

pub record AnAnswerIsEarly : Type 0 where
  pub long : longest (behind_one []).net ≡ 3
  -- no other answer comes in the 2 H passes
  pub text : run_text (behind_one (asked_first (Traces true ∷ Pass 6 ∷ []))) ≡ codes "q2 Resv taken\nq3 Resv taken\nr2 Resv taken\nu1 ResvConf taken\ns1 Resv taken\n"
  pub held : held_first (last_world (behind_one (asked_first (Pass 2 ∷ [])))) ≡ None
