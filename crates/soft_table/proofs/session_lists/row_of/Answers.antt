use Rattle.std.proofs.Common.{sym, subst}
use Rattle.soft_table.specs.Lists.{IsGap}
use Rattle.soft_table.proofs.Absent.{gap_behind}
use Rattle.soft_table.proofs.Firsts.{start_own}
use Rattle.soft_table.proofs.session_lists.row_of.Goals as goal

pub returns-in-Err-clause-absent : goal.returns-in-Err-clause-absent
returns-in-Err-clause-absent g c =
    let at = c.in-Err.ensures.absent in
    subst (IsGap g.O.RestOrder.rests c.args.keys.now c.args.slots.now.slots (c.args.session, c.args.rest.now)) (sym at.2)
    (gap_behind g.O.RestOrder.rests c.args.keys.now c.args.slots.now.slots c.args.heads.now c.requires.lists c.args.session c.args.rest.now at.0 at.1)

pub walk-requires-clause-start : goal.walk-requires-clause-start
walk-requires-clause-start g c =
    start_own g.O.RestOrder.rests c.args.keys.now c.args.slots.now.slots c.args.heads.now c.requires.lists c.args.session c.args.rest.now c.in-Ok.first c.in-Ok.ensures.there
