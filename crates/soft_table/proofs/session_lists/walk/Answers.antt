use Rattle.std.proofs.Common.{Some, None, refl, sym, ◌∙◌, arith}
use Rattle.rsvp_base.specs.Table.{passes}
use Rattle.soft_table.proofs.Firsts.{stepped}
use Rattle.soft_table.proofs.Gaps.{ends_at, ends_before, ends}
use Rattle.soft_table.proofs.session_lists.walk.Goals as goal

pub key_at-key-requires : goal.key_at-key-requires
key_at-key-requires g c = let w = c.loop-step.invariant.0 in c.requires.full w.place c.loop-step.slot w.is

pub returns-in-Equal : goal.returns-in-Equal
returns-in-Equal g c =
    ends_at g.O.RestOrder.rests c.args.keys.now c.args.slots.now.slots c.requires.full (passes _ c.requires.sorted) (c.args.session, c.args.rest.now) c.loop-step.slot c.key_at-key.result
    c.loop-step.invariant.0 c.key_at-key.ensures (sym c.order.ensures ∙ c.in-Equal.is)

pub returns-in-Greater : goal.returns-in-Greater
returns-in-Greater g c =
    ends_before g.O.RestOrder.rests c.args.keys.now c.args.slots.now.slots c.requires.full (passes _ c.requires.sorted) (c.args.session, c.args.rest.now) c.loop-step.slot c.key_at-key.result
    c.loop-step.invariant.0 c.key_at-key.ensures (sym c.order.ensures ∙ c.in-Greater.is)

pub returns-in-None : goal.returns-in-None
returns-in-None g c =
    let w = c.loop-step.invariant.0 in
    let next = stepped g.O.RestOrder.rests c.args.keys.now c.args.slots.now.slots c.requires.full (c.args.session, c.args.rest.now)
    (Some c.loop-step.slot) w c.loop-step.slot c.key_at-key.result refl c.key_at-key.ensures (sym c.order.ensures ∙ c.in-Less.is) None (sym c.in-None.is ∙ c.after.ensures w.place w.is) in
    ends g.O.RestOrder.rests c.args.keys.now c.args.slots.now.slots c.requires.full (passes _ c.requires.sorted) (c.args.session, c.args.rest.now) next.0

pub loop-step-preserved : goal.loop-step-preserved
loop-step-preserved g c =
    let w = c.loop-step.invariant.0 in
    let next = stepped g.O.RestOrder.rests c.args.keys.now c.args.slots.now.slots c.requires.full (c.args.session, c.args.rest.now)
    (Some c.loop-step.slot) w c.loop-step.slot c.key_at-key.result refl c.key_at-key.ensures (sym c.order.ensures ∙ c.in-Less.is) (Some c.in-Some.next)
    (sym c.in-Some.is ∙ c.after.ensures w.place w.is) in
    (next.0, omega (arith, next.1, c.loop-step.invariant.1))

pub returns : goal.returns
returns g c = (c.loop-step.invariant.0, omega (arith, c.loop-step.invariant.1, c.loop-step-test.false))
