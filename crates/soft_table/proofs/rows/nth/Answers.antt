use Rattle.std.proofs.Common.{◌+◌, is_some, sym, ap, subst, ◌∙◌, arith}
use Rattle.rsvp_base.specs.Orders.{sessions}
use Rattle.rsvp_base.specs.Under.{rows_under}
use Rattle.soft_table.specs.Walks.{IsWalk}
use Rattle.soft_table.proofs.Keyed.{under_no_more}
use Rattle.soft_table.proofs.Walks.{live_some, walk_row, walk_found, walk_on, walk_over, walk_end, walk_past}
use Rattle.soft_table.proofs.rows.nth.Goals as goal
use Rattle.soft_table.proofs.rows.nth.Goals.{then-live+else-left-eq0, else-live}

pub returns-in_default-clause-none : goal.returns-in_default-clause-none
returns-in_default-clause-none g c = λ _ j is.
    let own = rows_under sessions g.F.Fact.rests c.args.session c.args.rows.now.rows in
    walk_end c.args.pool.now own j c.args.k c.loop-step.left c.loop-step._step c.loop-step.at (c.loop-step.invariant j is) c.in_default.is

pub live-requires : goal.live-requires
live-requires g c =
    let own = rows_under sessions g.F.Fact.rests c.args.session c.args.rows.now.rows in
    let f = c.requires.from in
    let r = walk_row c.args.pool.now own f.0 c.args.k c.loop-step.left c.loop-step._step c.loop-step.at (c.loop-step.invariant f.0 f.1) c.in-Some.slot c.in-Some.is in
    c.requires.slots (c.loop-step.invariant f.0 f.1).place (r.0, c.in-Some.slot) r.1

pub returns-then-left-eq0-clause-some : goal.returns-then-left-eq0-clause-some
returns-then-left-eq0-clause-some g c = λ j is.
    let own = rows_under sessions g.F.Fact.rests c.args.session c.args.rows.now.rows in
    walk_found c.args.pool.now own j c.args.k c.loop-step.left c.loop-step._step c.loop-step.at (c.loop-step.invariant j is) c.in-Some.slot c.in-Some.is
    (sym c.live.ensures ∙ c.if-live.true) c.if-left-eq0.true

pub returns-then-left-eq0-clause-within : goal.returns-then-left-eq0-clause-within
returns-then-left-eq0-clause-within g c =
    let own = rows_under sessions g.F.Fact.rests c.args.session c.args.rows.now.rows in
    let f = c.requires.from in
    let r = walk_row c.args.pool.now own f.0 c.args.k c.loop-step.left c.loop-step._step c.loop-step.at (c.loop-step.invariant f.0 f.1) c.in-Some.slot c.in-Some.is in
    c.requires.slots (c.loop-step.invariant f.0 f.1).place (r.0, c.in-Some.slot) r.1

pub returns-then-left-eq0-clause-live : goal.returns-then-left-eq0-clause-live
returns-then-left-eq0-clause-live g c = let e = live_some _ (sym c.live.ensures ∙ c.if-live.true) in ap is_some e.1

pub after-at-requires : goal.after-at-requires
after-at-requires g c =
    let own = rows_under sessions g.F.Fact.rests c.args.session c.args.rows.now.rows in
    let f = c.requires.from in
    let r = walk_row c.args.pool.now own f.0 c.args.k c.loop-step.left c.loop-step._step c.loop-step.at (c.loop-step.invariant f.0 f.1) c.in-Some.slot c.in-Some.is in
    ((c.loop-step.invariant f.0 f.1).place, r.0, r.1)

pub loop-step-preserved : goal.loop-step-preserved
loop-step-preserved g c = λ j is.
    let own = rows_under sessions g.F.Fact.rests c.args.session c.args.rows.now.rows in
    let pool = c.args.pool.now in
    let walk = c.loop-step.invariant j is in
    let r = walk_row pool own j c.args.k c.loop-step.left c.loop-step._step c.loop-step.at walk c.in-Some.slot c.in-Some.is in
    let next = c.after-at.ensures walk.place r.0 r.1 in
    elim c.if-live.branch [
      | then-live+else-left-eq0 w ↦
          subst (λ n. IsWalk pool own j c.args.k c.after-at.result n (c.loop-step._step + 1)) (sym w.left-is)
          (walk_on pool own j c.args.k c.loop-step.left c.loop-step._step c.loop-step.at walk c.in-Some.slot c.after-at.result c.in-Some.is next
          (sym c.live.ensures ∙ w.if-live.true) w.if-left-eq0.false)
      | else-live w ↦
          subst (λ n. IsWalk pool own j c.args.k c.after-at.result n (c.loop-step._step + 1)) (sym w.left-is)
          (walk_over pool own j c.args.k c.loop-step.left c.loop-step._step c.loop-step.at walk c.in-Some.slot c.after-at.result c.in-Some.is next (sym c.live.ensures ∙ w.if-live.false))
    ]

pub returns-clause-none : goal.returns-clause-none
returns-clause-none g c = λ _ j is.
    let own = rows_under sessions g.F.Fact.rests c.args.session c.args.rows.now.rows in
    walk_past c.args.pool.now own j c.args.k c.loop-step.left c.loop-step._step c.loop-step.at (c.loop-step.invariant j is)
    (omega (arith, under_no_more sessions g.F.Fact.rests c.args.session c.args.rows.now.rows, c.loop-step-test.false, c.len-step-end.ensures))

pub returns-then-left-eq0-clause-row : goal.returns-then-left-eq0-clause-row
returns-then-left-eq0-clause-row g c =
    let own = rows_under sessions g.F.Fact.rests c.args.session c.args.rows.now.rows in
    let f = c.requires.from in
    let r = walk_row c.args.pool.now own f.0 c.args.k c.loop-step.left c.loop-step._step c.loop-step.at (c.loop-step.invariant f.0 f.1) c.in-Some.slot c.in-Some.is in
    let e = live_some _ (sym c.live.ensures ∙ c.if-live.true) in
    record { place = (c.loop-step.invariant f.0 f.1).place; rest = r.0; is = r.1; fact = e.0; live = e.1 }
