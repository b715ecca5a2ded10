use Rattle.std.proofs.Common.{ap, ◌∙◌}
use Rattle.rsvp_base.specs.Table.{has}
use Rattle.local_state.specs.Rows.{Announced}
use Rattle.local_state.specs.declared.senders.LocalSender.{LocalSender}
use Rattle.local_state.proofs.Marks.{marked_at}
use Rattle.local_state.proofs.senders.LocalSenders.find.Goals as goal

pub returns-in-Ok-clause-advertised : goal.returns-in-Ok-clause-advertised
returns-in-Ok-clause-advertised c =
    ap (λ (r : LocalSender). r.advertised) c.index.ensures
    ∙ marked_at c.self.inside.rows.items c.self.inside.rising (c.args.session, c.args.sender) c.in-Ok.at (rw c.as_slice.ensures.value at c.in-Ok.ensures.there) c.self.inside.marks c.index.result.now
    ∙ ap (λ (a : Announced). has a.advertised (c.args.session, c.args.sender)) c.self.view_is
