use Rattle.std.proofs.Common.{ap, subst, IfOk, IfErr}
use Rattle.soft_table.specs.Lists.{IsRow, IsGap}
use Rattle.soft_table.proofs.Gaps.{all_rows, all_gaps}
use Rattle.soft_table.proofs.session_lists.SessionLists.place.Goals as goal

pub returns-clause-there : goal.returns-clause-there
returns-clause-there g c =
    let s = c.self.inside in
    let rests = g.O.RestOrder.rests in
    let row = subst (λ keys. IfOk c.row_of.result (λ x. IsRow rests keys s.slots.slots (c.args.session, c.args.rest) x)) c.as_slice.ensures.value c.row_of.ensures.there in
    all_rows rests s.keys.items s.slots.slots c.self.invariant.0.full (c.args.session, c.args.rest) c.args.self.now.rows (ap (λ v. v.rows) c.self.view_is) c.row_of.result row

pub returns-clause-absent : goal.returns-clause-absent
returns-clause-absent g c =
    let s = c.self.inside in
    let rests = g.O.RestOrder.rests in
    let gap = subst (λ keys. IfErr c.row_of.result (λ x. IsGap rests keys s.slots.slots (c.args.session, c.args.rest) x.behind)) c.as_slice.ensures.value c.row_of.ensures.absent in
    all_gaps rests s.keys.items s.slots.slots c.self.invariant.0.full (c.args.session, c.args.rest) c.args.self.now.rows (ap (λ v. v.rows) c.self.view_is) c.row_of.result gap
