use Rattle.std.proofs.Common.{sym, ap, ◌∙◌}
use Rattle.rsvp_base.specs.Table.{keys}
use Rattle.laws_sends.specs.State.{facts_of}
use Rattle.laws_sends.specs.Before.{lanes_by}
use Rattle.laws_sends.specs.Marks.{used_in}
use Rattle.router_state.specs.Whole.{state_of}
use Rattle.resv_sends.specs.Halves.{used_where}
use Rattle.resv_sends.proofs.Said.{used_is}
use Rattle.resv_sends.proofs.telling.used_for.Goals as goal

pub returns-in-None : goal.returns-in-None
returns-in-None c = λ clock any.
    let n = state_of c.args.tables.now any in
    let es = lanes_by (keys c.args.hops.now) in
    c.used_marks.ensures clock any ∙ used_is clock n c.args.session c.args.said.now es
    ∙ ap (λ w. used_where w (used_in n.place (facts_of clock n) c.args.session c.args.said.now es)) (sym c.in-None.is)
