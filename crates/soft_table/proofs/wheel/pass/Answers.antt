use Rattle.std.proofs.Common.{◌≡◌, ◌+◌, ◌/◌, ◌%◌, ◌∙◌, refl, subst, arith}
use Rattle.soft_table.proofs.Passing.{IsPassing, none_aside, passed_more, all_passed}
use Rattle.soft_table.proofs.wheel.pass.Goals as goal

pub turn-requires-clause-aside : goal.turn-requires-clause-aside
turn-requires-clause-aside g c = none_aside c.args.entries.now c.args.clock c.args.now (c.args.clock / 1024) c.loop-step.step c.loop-step.lists.homes c.loop-step.invariant.0

pub loop-step-preserved : goal.loop-step-preserved
loop-step-preserved g c =
    let t = c.turn.ensures in (
      passed_more c.args.entries.now c.args.clock c.args.now (c.args.clock / 1024) c.loop-step.step
          (3 + (c.args.clock / 1024 + c.loop-step.step) % 256) c.loop-step.lists.homes c.turn.new.lists.homes refl c.loop-step.invariant.0 t.size t.others t.due t.later,
      t.room ∙ c.loop-step.invariant.1,
    )

pub returns-clause-lists : goal.returns-clause-lists
returns-clause-lists g c =
    let end : c.loop-step.step ≡ c.min-more.result + 1 = omega (arith, c.loop-step-test.false, c.loop-step.auto.step-end) in
    all_passed c.args.entries.now c.args.clock c.args.now (c.args.clock / 1024) c.min-more.result c.loop-step.lists.homes refl c.min-more.ensures c.requires.order
    (subst (λ n. IsPassing c.args.entries.now c.args.clock c.args.now (c.args.clock / 1024) n c.loop-step.lists.homes) end c.loop-step.invariant.0)
