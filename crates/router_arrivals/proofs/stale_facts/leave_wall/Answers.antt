use Rattle.std.proofs.Common.{refl}
use Rattle.rsvp_base.specs.Table.{empty}
use Rattle.router_state.specs.Whole.{state_of}
use Rattle.router_arrivals.proofs.Standing.{then_err, wall_away, wall_refused}
use Rattle.router_arrivals.proofs.stale_facts.leave_wall.Goals as goal

pub returns-clause-refused : goal.returns-clause-refused
returns-clause-refused c = λ clock said. c.leave_wall.ensures.refused clock (state_of c.args.tables.now said) refl

pub returns-clause-facts : goal.returns-clause-facts
returns-clause-facts c = λ clock said. c.leave_wall.ensures.facts clock (state_of c.args.tables.now said) refl

pub returns-clause-others : goal.returns-clause-others
returns-clause-others c =
    let t = c.args.tables.now in
    let n = state_of t empty in
    wall_away n c.leave_wall.new.walls t.config (c.args.session, c.args.target) c.args.wall c.args.left (c.leave_wall.ensures.facts 0 n refl)

pub returns-clause-err : goal.returns-clause-err
returns-clause-err c =
    let t = c.args.tables.now in
    let n = state_of t empty in
    let r = c.leave_wall.result in
    then_err r (λ same. λ i. record t { walls = same i })
    (wall_refused n c.leave_wall.new.walls t.config (c.args.session, c.args.target) c.args.wall c.args.left (c.leave_wall.ensures.facts 0 n refl) r (c.leave_wall.ensures.refused 0 n refl))
