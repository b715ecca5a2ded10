-- A start in which an error is in flight, and small networks in which something goes round.
use Rattle.std.specs.Prelude.{◌≡◌, ℕ, ◌++◌, List, [], ◌∷◌, codes, false, true, None}
use Rattle.rsvp_base.specs.declared.session.Sender.{Sender}
use Rattle.rsvp_base.specs.declared.style.StyleKind.TheVariants.{Shared, Wild}
use Rattle.rsvp_base.specs.Members.{In}
use Rattle.rsvp_base.specs.Sets.{set_of}
use Rattle.rsvp_base.specs.Table.{empty}
use Rattle.rsvp_messages.specs.declared.message.Message.TheVariants as message
use Rattle.rsvp_messages.specs.declared.message.ResvErrMsg.{ResvErrMsg}
use Rattle.calm_rounds.specs.Rounds.{Rounds as CalmRounds}
use Rattle.router_rules.specs.Inputs.{Arrival, SendAs, Spelt, WantAs}
use Rattle.tree_model.specs.declared.hops.TreeHop.{TreeHop}
use Rattle.tree_model.specs.Ranks.{longest}
use Rattle.network_model.specs.Bounds.{IsStart}
use Rattle.network_model.specs.Events.{AtNode, Event, Injects, Pass, Rounds, Traces}
use Rattle.network_model.specs.Rows.{end_of, hop_of, plan_of}
use Rattle.network_model.specs.Runs.{Plan, run_text}
use Rattle.network_model.specs.Steps.{Inject, machine, step}
use Rattle.network_model.specs.ThreeRouters.{first, group, ip, r1, r2, s1, session, usual}
use Rattle.network_model.specs.Worlds.{Item, World}
use Rattle.laws_network.specs.Rounds.{rounds_of}
use Rattle.settle_network.specs.RunExample.{begun}
use Rattle.settle_refreshes.specs.Refreshes.{IsErrorForAll, NothingGoesRound}

-- ---- a ResvErr with a shared filter that names nobody, as the node at 10.0.1.1 answers a Resv with an object of an unknown class
abbrev pub error_for_all : ResvErrMsg
error_for_all = record {
  session = session;
  hop = record { addr = s1; handle = 0 };
  err = record { node = s1; in_place = false; not_guilty = false; code = 13; value = 16385 };
  blame = record { style = Shared; senders = None; flow = None };
}

abbrev pub says_it : Arrival
says_it = Spelt (message.ResvErr error_for_all)

-- ---- a pair of nodes with one sender, to whose second node it goes
abbrev pub wrong_world : World
wrong_world = step 7500 (Inject 1 r1 says_it) begun

pub record AnErrorIsInFlight : Type 0 where
  pub start : IsStart 7500 wrong_world
  pub rounds : (n : ℕ) → CalmRounds (machine 7500) (rounds_of 7500 n wrong_world) wrong_world
  pub none : NothingGoesRound wrong_world
  pub flies : (y : Item) × In y wrong_world.flight × IsErrorForAll session y

-- ---- a pair of nodes that both send and both ask, with a shared filter, for what the other sends
abbrev pub other : Sender
other = record { addr = r1; port = 5004 }

abbrev pub hop_back : ℕ → ℕ → TreeHop
hop_back a b = record { group = group; source = r1; hop = record { from = a; to = b } }

abbrev pub both_ways : List Event → Plan
both_ways events =
    plan_of (record { nodes = 2; ends = end_of 0 s1 ∷ end_of 1 r1 ∷ []; links = (0 ∷ 1 ∷ []) ∷ []; hops = hop_of 0 1 ∷ hop_back 1 0 ∷ [] })
    (codes "s1" ∷ codes "r1" ∷ []) events

abbrev pub both_ask : List Event
both_ask = AtNode 0 (SendAs session first usual) ∷ AtNode 1 (SendAs session other usual) ∷ AtNode 0 (WantAs session Shared (set_of (other ∷ [])) usual false)
    ∷ AtNode 1 (WantAs session Shared (set_of (first ∷ [])) usual false) ∷ Pass 4 ∷ []

-- H is 1, and 14 H + 15 rounds later the error is still on its way, from one to the other
pub record AnErrorGoesRound : Type 0 where
  pub long : longest (both_ways []).net ≡ 1
  pub text : run_text (both_ways (both_ask ++ Injects 1 r1 says_it ∷ Rounds 29 ∷ Traces true ∷ Pass 3 ∷ []))
      ≡ codes "r1 ResvErr taken\ns1 ResvErr taken\nr1 ResvErr taken\n"

-- ---- two senders side by side, and a receiver on a link with both: what each sends goes to the receiver by way of the other
abbrev pub across : List Event → Plan
across events =
    plan_of (record {
      nodes = 3;
      ends = end_of 0 s1 ∷ end_of 1 r1 ∷ end_of 0 r2 ∷ end_of 1 (ip 10 0 2 2) ∷ end_of 2 (ip 10 0 2 3) ∷ [];
      links = (0 ∷ 1 ∷ []) ∷ (2 ∷ 3 ∷ 4 ∷ []) ∷ [];
      hops = hop_of 0 1 ∷ hop_of 3 4 ∷ hop_back 1 0 ∷ hop_back 2 4 ∷ [];
    }) (codes "s1" ∷ codes "r1" ∷ codes "s2" ∷ codes "r2" ∷ codes "t1" ∷ []) events

-- the receiver asks for a wildcard filter, to be confirmed
abbrev pub asks_once : List Event
asks_once = AtNode 0 (SendAs session first usual) ∷ AtNode 1 (SendAs session other usual) ∷ Pass 2 ∷ AtNode 2 (WantAs session Wild empty usual true) ∷ []

-- it is answered again and again: in each pass two ResvConfs come to it, and two go on between the senders
pub record AConfirmationGoesRound : Type 0 where
  pub long : longest (across []).net ≡ 2
  pub text : run_text (across (asks_once ++ Pass 8 ∷ Traces true ∷ Pass 1 ∷ []))
      ≡ codes "s1 ResvConf taken\nt1 ResvConf taken\nr1 ResvConf taken\nt1 ResvConf taken\n"
