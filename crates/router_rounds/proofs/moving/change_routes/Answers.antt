use Rattle.std.proofs.Common.{◌≡◌, ℕ, false, true, fold, sym, ap, subst, ◌∙◌}
use Rattle.std.specs.List.{flat_map}
use Rattle.rsvp_base.specs.Table.{keys}
use Rattle.router_rules.specs.Inputs.{Moved}
use Rattle.router_rules.specs.NodeConfig.{NodeConfig}
use Rattle.router_rules.specs.Rule.{facts_after, sent_after}
use Rattle.router_state.specs.Routes.{AreRoutes}
use Rattle.router_state.specs.State.{facts_of}
use Rattle.router_state.specs.Whole.{state_of}
use Rattle.router_state.specs.declared.tables.Tables.{Tables}
use Rattle.router_rounds.specs.RouteRounds.{new_ways, torn_ways}
use Rattle.router_rounds.specs.Rounds.{AreTold, told_round, torn_near, wants_told}
use Rattle.router_rounds.specs.Nears.{NearTable}
use Rattle.router_rounds.proofs.Passed.{four_sent}
use Rattle.router_rounds.proofs.Rerouted.{moved_facts, moved_said, moved_sent, moved_settled, moved_sound, noted, roomy_first, ss}
use Rattle.router_rounds.proofs.moving.change_routes.Goals as goal

pub tear_ways-requires : goal.tear_ways-requires
tear_ways-requires g c = subst AreRoutes (sym c.as_slice.ensures.value) c.reroute-old.ensures.routed

pub tell_ways-requires : goal.tell_ways-requires
tell_ways-requires g c = subst AreRoutes (sym c.as_slice-2.ensures.value) c.reroute-old.ensures.routed

pub tear_all-requires : goal.tear_all-requires
tear_all-requires g c = λ s among calm. let z : false ≡ true = among in absurd (cc)

pub tell_all-requires-clause-still : goal.tell_all-requires-clause-still
tell_all-requires-clause-still g c = λ s among calm. let z : false ≡ true = among in absurd (cc)

pub tell_all-requires-clause-near : goal.tell_all-requires-clause-near
tell_all-requires-clause-near g c = λ s hops there among calm. let z : false ≡ true = among in absurd (cc)

pub tell_all-requires-clause-roomy : goal.tell_all-requires-clause-roomy
tell_all-requires-clause-roomy g c = roomy_first c.args.tables.now c.args.said.now c.reroute-old.new.self c.requires.settled c.requires.said

pub returns-clause-facts : goal.returns-clause-facts
returns-clause-facts g c = λ clock.
    let marks = λ (d : ℕ). c.tell_all.ensures.marks d ∙ ap (λ (z : NearTable). record (record c.args.tables.now { config = c.reroute-old.new.self }) {
      wants = wants_told d
          (state_of (record c.args.tables.now { config = c.reroute-old.new.self }) c.args.said.now) c.args.said.now (keys z);
    }) c.note.ensures in
    moved_facts c.args.tables.now c.args.said.now c.reroute-old.new.self c.requires.settled c.requires.said c.tell_all.new.tables marks c.tell_all.new.said clock
    ∙ ap (λ (z : NodeConfig). facts_after c.args.tables.now.config z clock Moved (facts_of clock (state_of c.args.tables.now c.args.said.now))) c.reroute-old.ensures.config

pub returns-clause-sent : goal.returns-clause-sent
returns-clause-sent g c = λ clock.
    let m = state_of (record c.args.tables.now { config = c.reroute-old.new.self }) c.args.said.now in
    let f = facts_of clock (state_of c.args.tables.now c.args.said.now) in
    let cfg = c.reroute-old.ensures.config in
    let was = c.as_slice.ensures.value ∙ c.reroute-old.ensures.old in
    let was-2 = c.as_slice-2.ensures.value ∙ c.reroute-old.ensures.old in
    let near = c.note.ensures in
    let one = c.tear_ways.ensures clock ∙ (λ i. fold g.O.Outbox.posted c.args.out.now (flat_map (torn_ways (record (cfg i) { routes = was i }) clock m) (keys (near i)))) in
    let two = c.tear_all.ensures clock ∙ ap (λ (z : NearTable). fold g.O.Outbox.posted c.tear_ways.new.out (flat_map (torn_near clock m c.args.said.now) z.rows)) near in
    let three = c.tell_ways.ensures clock ∙ (λ i. fold g.O.Outbox.posted c.tear_all.new.out (flat_map (new_ways (record (cfg i) { routes = was-2 i }) clock m) (keys (near i)))) in
    let four = c.tell_all.ensures.sent clock ∙ ap (λ (z : NearTable). fold g.O.Outbox.posted c.tell_ways.new.out (flat_map (λ s. told_round clock m false c.args.said.now s) (keys z))) near in
    four_sent g.O.Outbox.posted c.args.out.now c.tear_ways.new.out c.tear_all.new.out c.tell_ways.new.out c.tell_all.new.out
    (flat_map (torn_ways c.args.tables.now.config clock m) (ss c.args.tables.now c.args.said.now c.reroute-old.new.self c.requires.settled c.requires.said))
    (flat_map (torn_near clock m c.args.said.now) (noted c.args.tables.now c.args.said.now c.reroute-old.new.self c.requires.settled c.requires.said).rows)
    (flat_map (new_ways c.args.tables.now.config clock m) (ss c.args.tables.now c.args.said.now c.reroute-old.new.self c.requires.settled c.requires.said))
    (flat_map (λ s. told_round clock m false c.args.said.now s) (ss c.args.tables.now c.args.said.now c.reroute-old.new.self c.requires.settled c.requires.said)) one two three four
    ∙ ap (fold g.O.Outbox.posted c.args.out.now) (moved_sent c.args.tables.now c.args.said.now c.reroute-old.new.self c.requires.settled c.requires.said clock
    ∙ ap (λ (z : NodeConfig). sent_after c.args.tables.now.config z clock Moved f) cfg)

pub returns-clause-said : goal.returns-clause-said
returns-clause-said g c =
    let marks = λ (d : ℕ). c.tell_all.ensures.marks d ∙ ap (λ (z : NearTable). record (record c.args.tables.now { config = c.reroute-old.new.self }) {
      wants = wants_told d
          (state_of (record c.args.tables.now { config = c.reroute-old.new.self }) c.args.said.now) c.args.said.now (keys z);
    }) c.note.ensures in
    moved_said c.args.tables.now c.args.said.now c.reroute-old.new.self c.requires.settled c.requires.said c.tell_all.new.tables marks c.tell_all.new.said c.tell_all.new.said
    (subst (λ (z : NearTable). AreTold (state_of (record c.args.tables.now { config = c.reroute-old.new.self }) c.args.said.now)
    (keys z) c.tell_all.new.said) c.note.ensures c.tell_all.ensures.told) c.tell_all.ensures.roomy

pub returns-clause-settled : goal.returns-clause-settled
returns-clause-settled g c =
    let marks = λ (d : ℕ). c.tell_all.ensures.marks d ∙ ap (λ (z : NearTable). record (record c.args.tables.now { config = c.reroute-old.new.self }) {
      wants = wants_told d
          (state_of (record c.args.tables.now { config = c.reroute-old.new.self }) c.args.said.now) c.args.said.now (keys z);
    }) c.note.ensures in
    moved_settled c.args.tables.now c.args.said.now c.reroute-old.new.self c.requires.settled c.requires.said c.tell_all.new.tables marks c.tell_all.new.said

pub returns-clause-sound : goal.returns-clause-sound
returns-clause-sound g c =
    let marks = λ (d : ℕ). c.tell_all.ensures.marks d ∙ ap (λ (z : NearTable). record (record c.args.tables.now { config = c.reroute-old.new.self }) {
      wants = wants_told d
          (state_of (record c.args.tables.now { config = c.reroute-old.new.self }) c.args.said.now) c.args.said.now (keys z);
    }) c.note.ensures in
    moved_sound c.args.tables.now c.args.said.now c.reroute-old.new.self c.requires.settled c.requires.said c.tell_all.new.tables marks c.tell_all.new.said c.requires.sound

pub returns-clause-place : goal.returns-clause-place
returns-clause-place g c = ap (λ (z : Tables). z.config) (c.tell_all.ensures.marks 0) ∙ c.reroute-old.ensures.config

pub returns-clause-ifaces : goal.returns-clause-ifaces
returns-clause-ifaces g c = ap (λ (z : Tables). z.book.ifaces) (c.tell_all.ensures.marks 0)

pub returns-clause-old : goal.returns-clause-old
returns-clause-old g c = c.reroute-old.ensures.old
