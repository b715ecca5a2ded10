use Rattle.std.proofs.Common.{ap, ◌∙◌, map as each}
use Rattle.std.specs.FinMap.Entries.{find}
use Rattle.rsvp_base.specs.Orders.{sessions}
use Rattle.soft_table.specs.Lists.{first_of, head_row}
use Rattle.soft_table.proofs.session_lists.SessionLists.first.Goals as goal

pub returns : goal.returns
returns g c =
    c.first_in.ensures ∙ ap (λ heads. find sessions.cmp c.args.session (each head_row heads)) c.as_slice.ensures.value ∙ c.self.invariant.0.firsts c.args.session
    ∙ ap (λ v. first_of g.O.RestOrder.rests c.args.session v.rows) c.self.view_is
