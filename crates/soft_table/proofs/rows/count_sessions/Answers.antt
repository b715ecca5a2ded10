use Rattle.std.proofs.Common.{sym, ap, ◌∙◌, arith}
use Rattle.rsvp_base.specs.Orders.{sessions}
use Rattle.soft_table.specs.Lists.{sessions_of}
use Rattle.soft_table.specs.Walks.{has_live}
use Rattle.soft_table.proofs.Walks.{passing, one_more_of, none_more_of, nothing_left}
use Rattle.soft_table.proofs.rows.count_sessions.Goals as goal
use Rattle.soft_table.proofs.rows.count_sessions.Goals.{then-has_fact, else-has_fact}

pub session-requires : goal.session-requires
session-requires g c = omega (arith, c.loop-k-test.true, c.sessions-k-end.ensures)

pub has_fact-requires : goal.has_fact-requires
has_fact-requires g c = c.requires

pub loop-k-preserved : goal.loop-k-preserved
loop-k-preserved g c =
    let p = has_live g.F.Fact.rests c.args.pool.now c.args.rows.now.rows in
    let all = (sessions_of c.args.rows.now.rows).rows in
    elim c.if-has_fact.branch [
      | then-has_fact w ↦
          let more = one_more_of sessions p all c.loop-k.k c.session.result c.session.ensures (sym c.has_fact.ensures ∙ w.if-has_fact.true) in
          record { counted = omega (arith, more, w.count-is, c.loop-k.invariant.counted); few = omega (arith, w.count-is, c.loop-k.invariant.few) }
      | else-has_fact w ↦
          let same = none_more_of sessions p all c.loop-k.k c.session.result c.session.ensures (sym c.has_fact.ensures ∙ w.if-has_fact.false) in
          record { counted = omega (arith, same, w.count-is, c.loop-k.invariant.counted); few = omega (arith, w.count-is, c.loop-k.invariant.few) }
    ]

pub returns : goal.returns
returns g c =
    let p = has_live g.F.Fact.rests c.args.pool.now c.args.rows.now.rows in
    let all = (sessions_of c.args.rows.now.rows).rows in
    let end = nothing_left all c.loop-k.k (omega (arith, c.loop-k-test.false, c.sessions-k-end.ensures)) in
    omega (arith, c.loop-k.invariant.counted, ap (passing sessions p all) end)
