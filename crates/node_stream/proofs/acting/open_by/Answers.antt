use Rattle.std.proofs.Common.{None, Some, refl, ap, ◌∙◌}
use Rattle.node_stream.proofs.Forms.{opens_form}
use Rattle.node_stream.proofs.Opening.{opened_by, opens_first}
use Rattle.node_stream.proofs.acting.open_by.Goals as goal

pub open-requires : goal.open-requires
open-requires g c =
    let e = c.in-Ok.ensures in
    opens_form c.args.kind c.args.contents.now (e.reads ∙ ap Some (opens_first c.in-Ok.field-0 e.in_turn))

pub returns-in-Ok-clause-opened : goal.returns-in-Ok-clause-opened
returns-in-Ok-clause-opened g c = λ t.
    let e = c.in-Ok.ensures in
    let o = c.open.ensures in
    opened_by g.R.Router.seen c.args.kind c.args.contents.now (e.reads ∙ ap Some (opens_first c.in-Ok.field-0 e.in_turn)) t c.open.result o.range o.place o.first o.limits

pub returns-in-Err-clause-stopped : goal.returns-in-Err-clause-stopped
returns-in-Err-clause-stopped g c = c.in-Err.ensures.blamed None refl
