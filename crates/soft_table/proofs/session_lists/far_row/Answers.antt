use Rattle.std.proofs.Common.{arith}
use Rattle.std.proofs.lemmas.Option.{slice_get_within}
use Rattle.rsvp_base.specs.Table.{passes}
use Rattle.soft_table.proofs.Gaps.{starts}
use Rattle.soft_table.proofs.session_lists.far_row.Goals as goal

pub further-from-requires : goal.further-from-requires
further-from-requires g c = let w = c.requires.start in c.requires.full w.place c.args.slot w.is

pub walk-requires-clause-start : goal.walk-requires-clause-start
walk-requires-clause-start g c =
    starts g.O.RestOrder.rests c.args.keys.now c.args.slots.now.slots c.requires.full (passes _ c.requires.sorted)
    (c.args.session, c.args.rest.now) c.args.slot c.further-from.result c.requires.start c.requires.held c.further-from.ensures

pub unreachable-requires : goal.unreachable-requires
unreachable-requires g c =
    let far = c.in-Far.ensures in
    let lt = slice_get_within c.args.slots.now.slots far.0.place c.in-Far.field-0 far.0.is in
    omega (arith, lt, far.1, c.len.ensures)
