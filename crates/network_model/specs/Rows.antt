-- Worked rows: what scripts write.
use Rattle.std.specs.Prelude.{◌≡◌, ℕ, ◌++◌, List, [], ◌∷◌, true, false, codes, None, Some}
use Rattle.rsvp_base.specs.declared.addr.Addr.{Addr}
use Rattle.rsvp_base.specs.declared.style.StyleKind.TheVariants.{Wild}
use Rattle.rsvp_base.specs.declared.style.Unit.TheVariants.{One}
use Rattle.rsvp_base.specs.Sets.{set_of}
use Rattle.rsvp_base.specs.Table.{empty}
use Rattle.rsvp_base.specs.TokenBucket.{TokenBucket}
use Rattle.router_examples.specs.RsvpMessages.declared.fault.Fault.TheVariants as fault
use Rattle.router_examples.specs.RouterRules.Inputs.{SendAs, WantAs, QuitAll, Spelt, Unspelt, Stale, StaleResv}
use Rattle.router_examples.specs.ThreeRouters.{ip, s1, r1, r2, t1, r3, u1, group, session, first, usual, flow, path}
use Rattle.tree_model.specs.declared.hops.End.{End}
use Rattle.tree_model.specs.declared.hops.TreeHop.{TreeHop}
use Rattle.tree_model.specs.Networks.{Net}
use Rattle.network_model.specs.Events.{Event, AtNode, Waits, Pass, LoseAt, ClearNode, Rounds, Traces, Reports, ReportsFlags, Injects, Reroutes}
use Rattle.network_model.specs.Runs.{Plan, run_text}

-- ---- networks, of 10,000 bytes per second unless it is said
abbrev pub end_with : ℕ → ℕ → Addr → End
end_with capacity node addr = record { node = node; iface = record { addr = addr; capacity = capacity; mtu = 1500; latency = 0 } }

abbrev pub end_of : ℕ → Addr → End
end_of node addr = end_with 10000 node addr

abbrev pub hop_of : ℕ → ℕ → TreeHop
hop_of a b = record { group = group; source = s1; hop = record { from = a; to = b } }

abbrev pub plan_of : Net → List (List ℕ) → List Event → Plan
plan_of net names events = record { quarter = 7500; seed = 1; net = net; names = names; stale = []; events = events }

-- three nodes in a line, with the tree of 10.0.1.1; the capacity is that of its first end
abbrev pub line_net : ℕ → Net
line_net capacity = record {
  nodes = 3;
  ends = end_with capacity 0 s1 ∷ end_of 1 r1 ∷ end_of 1 r2 ∷ end_of 2 t1 ∷ [];
  links = (0 ∷ 1 ∷ []) ∷ (2 ∷ 3 ∷ []) ∷ [];
  hops = hop_of 0 1 ∷ hop_of 2 3 ∷ [];
}

abbrev pub line : ℕ → List Event → Plan
line capacity events = plan_of (line_net capacity) (codes "s1" ∷ codes "r1" ∷ codes "r2" ∷ codes "t1" ∷ []) events

-- with a second receiver behind the middle node
abbrev pub fork : ℕ → List Event → Plan
fork capacity events =
    plan_of (record {
      nodes = 4;
      ends = end_with capacity 0 s1 ∷ end_of 1 r1 ∷ end_of 1 r2 ∷ end_of 2 t1 ∷ end_of 1 r3 ∷ end_of 3 u1 ∷ [];
      links = (0 ∷ 1 ∷ []) ∷ (2 ∷ 3 ∷ []) ∷ (4 ∷ 5 ∷ []) ∷ [];
      hops = hop_of 0 1 ∷ hop_of 2 3 ∷ hop_of 4 5 ∷ [];
    }) (codes "s1" ∷ codes "r1" ∷ codes "r2" ∷ codes "t1" ∷ codes "r3" ∷ codes "u1" ∷ []) events

-- one link of four ends, two of which are of the tree
abbrev pub shared_link : List Event → Plan
shared_link events =
    plan_of (record {
      nodes = 4;
      ends = end_of 0 s1 ∷ end_of 1 (ip 10 0 1 2) ∷ end_of 2 (ip 10 0 1 3) ∷ end_of 3 (ip 10 0 1 4) ∷ [];
      links = (0 ∷ 1 ∷ 2 ∷ 3 ∷ []) ∷ [];
      hops = hop_of 0 1 ∷ hop_of 0 2 ∷ [];
    }) (codes "s1" ∷ codes "t1" ∷ codes "u1" ∷ codes "v1" ∷ []) events

-- two ways from a sender to a receiver, with the tree over the first
abbrev pub two_ways : List Event → Plan
two_ways events =
    plan_of (record {
      nodes = 4;
      ends = end_of 0 s1 ∷ end_of 1 (ip 10 0 1 2) ∷ end_of 1 (ip 10 0 2 1) ∷ end_of 3 (ip 10 0 2 2) ∷ end_of 0 (ip 10 0 3 1) ∷ end_of 2 (ip 10 0 3 2)
          ∷ end_of 2 (ip 10 0 4 1) ∷ end_of 3 (ip 10 0 4 2) ∷ [];
      links = (0 ∷ 1 ∷ []) ∷ (2 ∷ 3 ∷ []) ∷ (4 ∷ 5 ∷ []) ∷ (6 ∷ 7 ∷ []) ∷ [];
      hops = hop_of 0 1 ∷ hop_of 2 3 ∷ [];
    }) (codes "s1" ∷ codes "p1" ∷ codes "p2" ∷ codes "t1" ∷ codes "s2" ∷ codes "q1" ∷ codes "q2" ∷ codes "t2" ∷ []) events

-- ---- what happens
abbrev pub sends : Event
sends = AtNode 0 (SendAs session first usual)

abbrev pub wants : ℕ → TokenBucket → Event
wants n f = AtNode n (WantAs session Wild empty f false)

abbrev pub booked : List Event
booked = sends ∷ wants 2 usual ∷ Pass 4 ∷ []

-- ---- what is written
abbrev pub usual_entry : List ℕ
usual_entry = codes "239.1.1.1/17/5004 WF 10.0.1.1 1000/2000/inf/64/1500\n"

abbrev pub booked_text : List ℕ
booked_text = codes "end s1 held 1000 of 10000\n" ++ usual_entry ++ codes "end r1 held 0 of 10000\nend r2 held 1000 of 10000\n" ++ usual_entry ++ codes "end t1 held 0 of 10000\n"

abbrev pub free_text : List ℕ
free_text = codes "end s1 held 0 of 10000\nend r1 held 0 of 10000\nend r2 held 0 of 10000\nend t1 held 0 of 10000\n"

-- one receiver: what it wants stands at both links, after four passes and while it is refreshed; where refreshes are missed
-- it dies
pub record OneReceiver : Type 0 where
  pub passes : run_text (line 10000 (booked ++ Reports None ∷ [])) ≡ booked_text
  pub rounds : run_text (line 10000 (sends ∷ wants 2 usual ∷ Rounds 2 ∷ Reports None ∷ [])) ≡ booked_text
  pub missed : run_text (line 10000 (booked ++ Waits 150000 ∷ Reports None ∷ Waits 15000 ∷ Reports None ∷ [])) ≡ booked_text ++ free_text

-- the first run: left-over reservations die
abbrev pub left_resv : ℕ → ℕ → ℕ → ℕ × Stale
left_resv low r dies = (
  0,
  StaleResv Wild (record { group = ip 239 1 1 low; proto = 17; port = 5004 }, ((0, s1), One)) (record {
    part = record { senders = set_of ((record { addr = ip 10 0 9 9; port = 0 }) ∷ []); flow = flow r r 1 1500 };
    confirm = None;
    dies = dies;
  }),
)

abbrev pub one_node : Plan
one_node = record {
  quarter = 7500;
  seed = 1;
  net = record { nodes = 1; ends = end_with 1000 0 r1 ∷ []; links = []; hops = [] };
  names = codes "r1" ∷ [];
  stale = left_resv 1 400 157500 ∷ left_resv 2 500 100 ∷ [];
  events = Reports None ∷ Waits 157499 ∷ Reports None ∷ Waits 1 ∷ Reports None ∷ [];
}

pub record FirstRun : Type 0 where
  pub text : run_text one_node
      ≡ codes "end r1 held 900 of 1000\n239.1.1.1/17/5004 WF 10.0.9.9 400/400/inf/1/1500\n239.1.1.2/17/5004 WF 10.0.9.9 500/500/inf/1/1500\n"
      ++ codes "end r1 held 400 of 1000\n239.1.1.1/17/5004 WF 10.0.9.9 400/400/inf/1/1500\nend r1 held 0 of 1000\n"

-- the larger rate and not the sum, with flags
pub record LargerRate : Type 0 where
  pub text : run_text (fork 10000 (sends ∷ wants 2 (flow 300 600 64 1500) ∷ wants 3 (flow 500 400 128 1000) ∷ Pass 6 ∷ Reports (Some 0) ∷ ReportsFlags ∷ []))
      ≡ codes "end s1 held 500 of 10000\n239.1.1.1/17/5004 WF 10.0.1.1 500/600/inf/64/1500\n"
      ++ codes "end s1 held 500 of 10000\n239.1.1.1/17/5004 WF 10.0.1.1 500/600/inf/64/1500 ---\n"
      ++ codes "end r1 held 0 of 10000\nend r2 held 300 of 10000\n239.1.1.1/17/5004 WF 10.0.1.1 300/600/inf/64/1500 e-b\n"
      ++ codes "end t1 held 0 of 10000\nend r3 held 500 of 10000\n239.1.1.1/17/5004 WF 10.0.1.1 500/400/inf/128/1000 e-b\nend u1 held 0 of 10000\n"

-- a refused raise keeps the old reservation; a greedy receiver is blockaded; what is quit is torn down
pub record Traced : Type 0 where
  pub raise : run_text (line 1000 (booked ++ wants 2 (flow 1001 2000 64 1500) ∷ Traces true ∷ Pass 4 ∷ Reports (Some 0) ∷ []))
      ≡ codes "r2 Resv taken\ns1 Resv answered 1/2\nr1 ResvErr taken\nt1 ResvErr taken\nend s1 held 1000 of 1000\n" ++ usual_entry
  pub greedy : run_text (fork 8 (sends ∷ wants 2 (flow 4 8 1 1500) ∷ wants 3 (flow 10 8 1 1500) ∷ Traces true ∷ Pass 6 ∷ Reports (Some 0) ∷ []))
      ≡ codes "r1 Path taken\nt1 Path taken\nu1 Path taken\nr2 Resv taken\nr3 Resv taken\ns1 Resv taken\ns1 Resv answered 1/2\n"
      ++ codes "r1 ResvErr taken\nu1 ResvErr taken\ns1 Resv taken\nend s1 held 4 of 8\n239.1.1.1/17/5004 WF 10.0.1.1 4/8/inf/1/1500\n"
  pub quit : run_text (line 10000 (booked ++ Traces true ∷ AtNode 2 (QuitAll session) ∷ Pass 2 ∷ Reports (Some 0) ∷ []))
      ≡ codes "r2 ResvTear taken\ns1 ResvTear taken\nend s1 held 0 of 10000\n"
  pub cleared : run_text (line 10000 (sends ∷ wants 2 usual ∷ Pass 2 ∷ ClearNode 1 ∷ Traces true ∷ Pass 2 ∷ [])) ≡ codes "r2 Resv answered 3/0\nt1 ResvErr taken\n"
  -- what is lost does not arrive
  pub lost : run_text (line 10000 (sends ∷ LoseAt 1 ∷ Traces true ∷ Pass 4 ∷ [])) ≡ []

-- injected datagrams are handled as all are
pub record Injected : Type 0 where
  pub path_in : run_text (line 10000 (Traces true ∷ Injects 1 group (Spelt (path true s1 first usual)) ∷ Pass 2 ∷ [])) ≡ codes "r1 Path taken\nt1 Path taken\n"
  pub no_message : run_text (line 10000 (Traces true
      ∷ Injects 1 group (Unspelt (record { fault = fault.Short; kind = None; hint = record { session = None; hop = None; style = None; sender = None } }))
      ∷ Pass 2 ∷ [])) ≡ codes "r1 ? dropped Unspelt\n"
  pub not_mine : run_text (line 10000 (Traces true ∷ Injects 1 r1 (Spelt (path true s1 first usual)) ∷ Pass 2 ∷ [])) ≡ codes "r1 Path dropped NotMine\n"
  pub not_inward : run_text (line 10000 (Traces true ∷ Injects 2 group (Spelt (path true s1 first usual)) ∷ Pass 2 ∷ [])) ≡ codes "r2 Path dropped NotInward\n"

-- a Path goes to each other end of its link
pub record SharedLink : Type 0 where
  pub text : run_text (shared_link (sends ∷ wants 1 (flow 300 600 64 1500) ∷ wants 2 (flow 500 400 128 1000) ∷ Traces true ∷ Pass 2 ∷ Reports (Some 0) ∷ []))
      ≡ codes "t1 Path taken\nu1 Path taken\nv1 Path dropped NotInward\ns1 Resv taken\ns1 Resv taken\nend s1 held 500 of 10000\n239.1.1.1/17/5004 WF 10.0.1.1 500/600/inf/64/1500\n"

-- a tree that moves takes its reservation with it
pub record MovedTree : Type 0 where
  pub text : run_text (two_ways (sends ∷ wants 3 usual ∷ Pass 4 ∷ Traces true
      ∷ Reroutes group s1 ((record { from = 4; to = 5 }) ∷ (record { from = 6; to = 7 }) ∷ []) ∷ Pass 4 ∷ Reports (Some 0) ∷ Reports (Some 4) ∷ []))
      ≡ codes "p1 PathTear taken\nq1 Path taken\nt1 PathTear taken\ns1 ResvTear taken\nt2 Path taken\nq2 Resv taken\ns2 Resv taken\nend s1 held 0 of 10000\nend s2 held 1000 of 10000\n" ++ usual_entry
