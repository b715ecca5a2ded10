use Rattle.std.proofs.Common.{ap, ◌∙◌}
use Rattle.std.proofs.lemmas.List.{take_all}
use Rattle.rsvp_base.specs.Orders.{units}
use Rattle.rsvp_base.specs.Sets.{with_keys}
use Rattle.resv_sends.proofs.Sets.{room_next, with_keys_of, with_next}
use Rattle.resv_sends.proofs.units.Units.add_all.Goals as goal

pub add-requires : goal.add-requires
add-requires c = room_next units c.args.self.now c.loop-i.self c.as_slice-list.result.now c.loop-i.i _ c.loop-i-test.true c.loop-i.invariant c.args.more.now c.as_slice-list.ensures.units c.requires

pub loop-i-preserved : goal.loop-i-preserved
loop-i-preserved c = c.add.ensures ∙ with_next units c.args.self.now c.loop-i.self c.as_slice-list.result.now c.loop-i.i _ c.loop-i-test.true c.loop-i.invariant

pub returns : goal.returns
returns c =
    c.loop-i.invariant ∙ ap (with_keys c.args.self.now) (take_all c.loop-i.i c.as_slice-list.result.now c.loop-i-test.false ∙ c.as_slice-list.ensures.units)
    ∙ with_keys_of units c.args.self.now c.args.more.now
