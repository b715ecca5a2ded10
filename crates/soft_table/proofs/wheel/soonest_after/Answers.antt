use Rattle.std.proofs.Common.{◌/◌, arith, subst}
use Rattle.soft_table.proofs.Passing.{AreEmpty, in_none, not_before}
use Rattle.soft_table.proofs.wheel.soonest_after.Goals as goal

pub returns-then-is_some-clause-none : goal.returns-then-is_some-clause-none
returns-then-is_some-clause-none c i time at le = omega (arith, le, c.max.ensures, not_before c.args.lists.now.homes c.args.now c.loop-step.step c.loop-step.invariant i time at le)

pub returns-clause-none : goal.returns-clause-none
returns-clause-none c i time at le =
    let all = subst (AreEmpty c.args.lists.now.homes (c.args.now / 1024)) (omega (arith, c.loop-step-test.false, c.loop-step.auto.step-end)) c.loop-step.invariant in
    absurd (in_none c.args.lists.now.homes c.args.now all i time at le)
