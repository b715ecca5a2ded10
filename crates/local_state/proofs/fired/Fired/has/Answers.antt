use Rattle.std.specs.Prelude.{is_some, map as each}
use Rattle.std.specs.FinMap.Entries.{find}
use Rattle.std.proofs.Common.{◌∙◌, ap}
use Rattle.rsvp_base.specs.Orders.{sessions}
use Rattle.rsvp_base.specs.Table.{has}
use Rattle.rsvp_base.proofs.Rows.{found_where_some}
use Rattle.local_state.specs.Rows.{session_row}
use Rattle.local_state.proofs.fired.Fired.has.Goals as goal

pub returns : goal.returns
returns c =
    c.is_ok.ensures.value ∙ found_where_some sessions session_row c.as_slice.result.now c.args.session c.search.result c.search.ensures.there c.search.ensures.absent
    ∙ ap (λ xs. is_some (find sessions.cmp c.args.session (each session_row xs))) c.as_slice.ensures.value ∙ ap (λ m. has m c.args.session) c.self.view_is
