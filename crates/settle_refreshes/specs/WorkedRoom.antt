-- The overheads of two small networks, worked out by hand, a script that meets the premises, and networks in which one is not met.
use Rattle.std.specs.Prelude.{◌≡◌, ℕ, List, [], ◌∷◌, true, false, codes, length}
use Rattle.rsvp_base.specs.declared.addr.Addr.{Addr}
use Rattle.rsvp_base.specs.declared.style.StyleKind.TheVariants.{Wild}
use Rattle.rsvp_base.specs.Table.{empty}
use Rattle.calm_rounds.specs.Machine.{run}
use Rattle.router_rules.specs.Inputs.{SendAs, WantAs}
use Rattle.tree_model.specs.declared.hops.TreeHop.{TreeHop}
use Rattle.tree_model.specs.Goals.{DemandsFit}
use Rattle.tree_model.specs.Wants.{Locals}
use Rattle.network_model.specs.Bounds.{IsSettled}
use Rattle.network_model.specs.Events.{AtNode, Event, Pass, Rounds, Waits, rounds}
use Rattle.network_model.specs.Locals.{locals_of}
use Rattle.network_model.specs.Rows.{end_of, hop_of, plan_of, sends, shared_link}
use Rattle.network_model.specs.Runs.{Plan, first_world, is_crowded_run, last_world, steps_of_run}
use Rattle.network_model.specs.Steps.{Piece, machine, step}
use Rattle.network_model.specs.ThreeRouters.{first, flow, group, ip, s1, session, usual}
use Rattle.network_model.specs.Worlds.{World}
use Rattle.laws_network.specs.Beginning.{left_plan}
use Rattle.laws_network.specs.Example.{pair_net}
use Rattle.laws_network.specs.Runs.{AreFitSenders, IsFitRun}
use Rattle.settle_paths.specs.Example.{stale_plan}
use Rattle.network_demand.specs.Overhead.{overhead}
use Rattle.settle_refreshes.specs.Refreshes.{HasOnlyRefreshes}

-- ---- a sender and three other ends on one link, two of them in its tree, and a receiver at each of these
abbrev pub two_ask : Locals
two_ask = record {
  senders = (record { node = 0; session = session; sender = first }) ∷ [];
  wants = (record { node = 1; session = session; style = Wild; part = record { senders = empty; flow = usual } })
      ∷ (record { node = 2; session = session; style = Wild; part = record { senders = empty; flow = usual } }) ∷ [];
}

-- three copies of the Path, and two Resvs; without receivers the Path alone
pub record OverheadsAreSo : Type 0 where
  pub asked : overhead (shared_link []).net two_ask ≡ 5
  pub alone : overhead (shared_link []).net (record two_ask { wants = [] }) ≡ 3

-- ---- a pair of nodes, with a left-over reservation: a host begins to send, and the network runs for 28 rounds
abbrev pub plan : Plan
plan = record left_plan { events = AtNode 0 (SendAs session first usual) ∷ Rounds 28 ∷ [] }

abbrev pub ended : World
ended = run (machine 7500) (steps_of_run plan) (first_world plan)

pub record APairIsRoomy : Type 0 where
  pub fit_run : IsFitRun plan
  pub senders : AreFitSenders plan
  pub uncrowded : is_crowded_run plan ≡ false
  pub settled : IsSettled 7500 (first_world plan) (steps_of_run plan)
  pub fit : DemandsFit (run (machine 7500) settled.before (first_world plan)).net (locals_of (run (machine 7500) settled.before (first_world plan)))
  -- nothing is in flight in the end, and the overhead is one Path
  pub none : length ended.flight ≡ 0
  pub only : HasOnlyRefreshes ended
  pub small : overhead ended.net (locals_of ended) ≡ 1
  -- and so many are in flight when half a period has passed: the bound is met
  pub met : length (step 7500 (Piece 15000) ended).flight ≡ 1

-- ---- in the pair a receiver asks for a byte per second more than the link has
abbrev pub greedy_plan : Plan
greedy_plan = record left_plan { stale = []; events = AtNode 0 (SendAs session first usual) ∷ AtNode 1 (WantAs session Wild empty (flow 10001 2000 64 1500) false) ∷ Rounds 27 ∷ [] }

abbrev pub refused : World
refused = run (machine 7500) (steps_of_run greedy_plan) (first_world greedy_plan)

pub record ARefusalComesBack : Type 0 where
  pub none : length refused.flight ≡ 0
  -- and behind the next round a ResvErr is in flight
  pub more : length (run (machine 7500) (rounds 7500 1 refused) refused).flight ≡ 1

-- ---- in the pair a path is left over at the second node, of a sender that nobody is, and a receiver asks there. Its Resv is refused
abbrev pub asked_for_nobody : List Event → Plan
asked_for_nobody events = record stale_plan { events = AtNode 1 (WantAs session Wild empty usual false) ∷ Pass 2 ∷ events }

pub record WhatIsLeftOverIsRefreshed : Type 0 where
  pub none : length (last_world (asked_for_nobody [])).flight ≡ 0
  pub small : overhead pair_net (locals_of (last_world (asked_for_nobody []))) ≡ 0
  -- and when a refresh is due one is in flight
  pub more : length (last_world (asked_for_nobody (Waits 30000 ∷ []))).flight ≡ 1

-- ---- two trees cross the first three of five nodes in opposite directions, and go on to the last, where a receiver asks for both senders and
-- for a confirmation. A ResvConf goes on to each next hop that asked for its address: what comes to the second node goes on to the first and
-- the third, and comes back from both
abbrev pub theirs : Addr
theirs = ip 10 0 2 2

abbrev pub hop_of_theirs : ℕ → ℕ → TreeHop
hop_of_theirs e d = record { group = group; source = theirs; hop = record { from = e; to = d } }

abbrev pub crossed : List Event → Plan
crossed events =
    plan_of (record {
      nodes = 5;
      ends = end_of 0 s1 ∷ end_of 0 (ip 10 0 4 2) ∷ end_of 1 (ip 10 0 1 2) ∷ end_of 1 (ip 10 0 2 1) ∷ end_of 2 theirs ∷ end_of 2 (ip 10 0 3 1)
          ∷ end_of 3 (ip 10 0 3 2) ∷ end_of 3 (ip 10 0 4 1) ∷ end_of 3 (ip 10 0 5 1) ∷ end_of 4 (ip 10 0 5 2) ∷ [];
      links = (0 ∷ 2 ∷ []) ∷ (3 ∷ 4 ∷ []) ∷ (5 ∷ 6 ∷ []) ∷ (1 ∷ 7 ∷ []) ∷ (8 ∷ 9 ∷ []) ∷ [];
      hops = hop_of 0 2 ∷ hop_of 3 4 ∷ hop_of 5 6 ∷ hop_of 8 9 ∷ hop_of_theirs 4 3 ∷ hop_of_theirs 2 0 ∷ hop_of_theirs 1 7 ∷ hop_of_theirs 8 9 ∷ [];
    }) (codes "p1" ∷ codes "p2" ∷ codes "q1" ∷ codes "q2" ∷ codes "r1" ∷ codes "r2" ∷ codes "v1" ∷ codes "v2" ∷ codes "v3" ∷ codes "t1" ∷ [])
    (sends ∷ AtNode 2 (SendAs session (record { addr = theirs; port = 5004 }) usual) ∷ Pass 4 ∷ AtNode 4 (WantAs session Wild empty usual true) ∷ events)

pub record ConfirmationsMultiply : Type 0 where
  pub small : overhead (crossed []).net (locals_of (last_world (crossed []))) ≡ 15
  pub few : length (last_world (crossed (Pass 4 ∷ []))).flight ≡ 2
  -- five passes later there are more than these and the overhead together
  pub many : length (last_world (crossed (Pass 9 ∷ []))).flight ≡ 24
