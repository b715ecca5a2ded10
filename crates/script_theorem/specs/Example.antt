-- The run of a small network: a reservation of a next hop that no end has is left over, a host sends and another wants. The report
-- before the rounds tells of what is left over, and the one behind them of what is wanted.
use Rattle.std.specs.Prelude.{◌≡◌, ℕ, ◌*◌, ◌+◌, ◌≤◌, false, List, [], ◌∷◌, codes, None}
use Rattle.rsvp_base.specs.declared.style.StyleKind.TheVariants.{Wild}
use Rattle.rsvp_base.specs.Table.{empty}
use Rattle.router_rules.specs.Inputs.{AdvertAs, SendAs, WantAs}
use Rattle.router_examples.specs.ThreeRouters.{first, flow, session, usual}
use Rattle.tree_model.specs.Ranks.{longest}
use Rattle.network_model.specs.Events.{AtNode, Event, Reports, ReportsAdverts, Rounds}
use Rattle.network_model.specs.Locals.{locals_of}
use Rattle.network_model.specs.Runs.{Plan, first_world, is_crowded_run, run_text}
use Rattle.network_model.specs.Steps.{At, step}
use Rattle.laws_network.specs.Beginning.{left_plan}
use Rattle.network_model.specs.DemandTexts.{demand_text}
use Rattle.settle_adverts.specs.Demanded.{advertised_senders, demanded_adverts}
use Rattle.script_theorem.specs.AdvertReports.{to_advertise}

abbrev pub sends : Event
sends = AtNode 0 (SendAs session first usual)

abbrev pub wants : Event
wants = AtNode 1 (WantAs session Wild empty (flow 300 600 64 1500) false)

abbrev pub early : Plan
early = record left_plan { events = sends ∷ wants ∷ Reports None ∷ [] }

abbrev pub late : Plan
late = record left_plan { events = sends ∷ wants ∷ Rounds 32 ∷ Reports None ∷ [] }

-- what is demanded of the ends once the two have asked for it
abbrev pub demanded : List ℕ
demanded =
    let w = step 7500 (At 1 (WantAs session Wild empty (flow 300 600 64 1500) false)) (step 7500 (At 0 (SendAs session first usual)) (first_world late)) in
    demand_text late.names w.net (locals_of w) None

pub record TheReportBecomesTheDemand : Type 0 where
  pub demand : demanded ≡ codes "end s1 held 300 of 10000\n239.1.1.1/17/5004 WF 10.0.1.1 300/600/inf/64/1500\nend r1 held 0 of 10000\n"
  -- 16 H + 16 rounds, where the longest chain has one hop
  pub enough : 16 * longest late.net + 16 ≤ 32
  pub uncrowded : is_crowded_run late ≡ false
  pub settled : run_text late ≡ demanded
  pub too_early : run_text early ≡ codes "end s1 held 1000 of 10000\n239.1.1.1/17/5004 WF 10.0.1.1 1000/2000/inf/64/1500\nend r1 held 0 of 10000\n"
  pub differs : run_text early ≡ demanded → ⊥

-- ---- the host that sends is advertised too
abbrev pub advertises : Event
advertises = AtNode 0 (AdvertAs session first)

abbrev pub told_early : Plan
told_early = record left_plan { events = sends ∷ advertises ∷ ReportsAdverts ∷ [] }

abbrev pub told_late : Plan
told_late = record left_plan { events = sends ∷ advertises ∷ Rounds 11 ∷ ReportsAdverts ∷ [] }

-- what an `adverts` line is due once the host has asked for it
abbrev pub demanded_then : List ℕ
demanded_then =
    let w = step 7500 (At 0 (AdvertAs session first)) (step 7500 (At 0 (SendAs session first usual)) (first_world told_late)) in
    demanded_adverts told_late.names w.net (advertised_senders w)

pub record TheAdvertsBecomeWhatIsDemanded : Type 0 where
  pub demand : demanded_then ≡ codes "r1 239.1.1.1/17/5004 10.0.1.1:5004 hops 1 rate 10000 latency 0 mtu 1500 cl ok\n"
  -- 7 H + 4 rounds, where the longest chain has one hop
  pub enough : to_advertise (longest told_late.net) ≤ 11
  pub uncrowded : is_crowded_run told_late ≡ false
  pub settled : run_text told_late ≡ demanded_then
  -- the Paths have not come yet
  pub too_early : run_text told_early ≡ []
