-- A pair of nodes that opens, and pairs in which a premise is not met.
use Rattle.std.specs.Prelude.{◌≡◌, List, [], ◌∷◌, ◌++◌, true, false, codes, Some}
use Rattle.rsvp_base.specs.declared.style.StyleKind.TheVariants.{Wild}
use Rattle.rsvp_base.specs.Table.{empty}
use Rattle.router_rules.specs.Inputs.{SendAs, WantAs}
use Rattle.network_model.specs.Events.{AtNode, Event, Pass, Reports, Rounds, Traces, Waits}
use Rattle.network_model.specs.Rows.{plan_of, sends, usual_entry, wants}
use Rattle.network_model.specs.Runs.{Plan, run_text}
use Rattle.network_model.specs.ThreeRouters.{first, flow, session, usual}
use Rattle.laws_network.specs.Example.{pair_net, quiet_world}
use Rattle.settle_senders.specs.Worked.{joined_world, waiting_world}
use Rattle.settle_openings.specs.Fresh.{IsEmpty, IsFirstCall}
use Rattle.settle_openings.specs.Opening.{IsUntouched}

abbrev pub pair : List Event → Plan
pair events = plan_of pair_net (codes "s1" ∷ codes "t1" ∷ []) events

-- a receiver asks and a host begins to send, before anything is delivered; a round later what is asked for is held
pub record APairOpens : Type 0 where
  pub nothing_yet : IsEmpty 7500 quiet_world
  pub asks : IsFirstCall quiet_world 1 (WantAs session Wild empty usual false)
  pub begins : IsFirstCall waiting_world 0 (SendAs session first usual)
  pub untouched : IsUntouched 7500 joined_world
  pub text : run_text (pair (wants 1 usual ∷ sends ∷ Reports (Some 0) ∷ Rounds 1 ∷ Reports (Some 0) ∷ []))
      ≡ codes "end s1 held 0 of 10000\nend s1 held 1000 of 10000\n" ++ usual_entry

-- ---- half periods that no pass follows
pub record NothingLastsWithoutPasses : Type 0 where
  pub text : run_text (pair (wants 1 usual ∷ sends ∷ Pass 2 ∷ Waits 150000 ∷ Reports (Some 0) ∷ Waits 15000 ∷ Reports (Some 0) ∷ []))
      ≡ codes "end s1 held 1000 of 10000\n" ++ usual_entry ++ codes "end s1 held 0 of 10000\n"

-- ---- a byte per second more is asked for than there is
pub record WhatDoesNotFitIsRefused : Type 0 where
  pub text : run_text (pair (wants 1 (flow 10001 2000 64 1500) ∷ sends ∷ Traces true ∷ Pass 3 ∷ []))
      ≡ codes "t1 Path taken\ns1 Resv answered 1/2\nt1 ResvErr taken\n"

-- ---- a receiver wants to be confirmed
pub record AConfirmationFlies : Type 0 where
  pub text : run_text (pair (AtNode 1 (WantAs session Wild empty usual true) ∷ sends ∷ Traces true ∷ Pass 3 ∷ []))
      ≡ codes "t1 Path taken\ns1 Resv taken\nt1 ResvConf taken\n"
