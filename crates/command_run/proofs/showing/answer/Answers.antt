use Rattle.std.proofs.Common.{List, ℕ, inl, sym, ap, subst, ◌∙◌}
use Rattle.message_show.proofs.Shown.{bad_is_not_right_law}
use Rattle.message_show.specs.ShowLines.{IsShown}
use Rattle.script_demand.proofs.Answering.{written_so}
use Rattle.command_run.specs.Showing.{IsFirstBad}
use Rattle.command_run.proofs.Shows.{one_bad_line, shown_is_not_bad}
use Rattle.command_run.specs.declared.status.Status.TheVariants.{BadLine}
use Rattle.command_run.proofs.showing.answer.Goals as goal

pub returns-in-Ok-clause-shown : goal.returns-in-Ok-clause-shown
returns-in-Ok-clause-shown g c =
    let input = c.args.input.now in
    let w = c.write_text.ensures in
    written_so IsShown IsFirstBad c.write_text.result input c.as_slice.result.now (g.K.Sink.holds c.args.sink.now) (g.K.Sink.holds c.write_text.new.sink)
    (subst (λ (t : List ℕ). IsShown input t) (sym c.as_slice.ensures.value) c.in-Ok.ensures.shown) w.others w.done w.front

pub returns-in-Ok-clause-refused : goal.returns-in-Ok-clause-refused
returns-in-Ok-clause-refused g c = λ e bad. absurd (shown_is_not_bad c.args.input.now c.in-Ok.text.items e c.in-Ok.ensures.shown bad)

pub returns-in-Err-Line-clause-complete : goal.returns-in-Err-Line-clause-complete
returns-in-Err-Line-clause-complete g c =
    let first = rw c.in-Err-Line.field-0-is at c.in-Err-Line.ensures.refused in
    λ right calm. absurd (bad_is_not_right_law c.args.input.now c.in-Err-Line.e right first)

pub returns-in-Err-Line-clause-refused : goal.returns-in-Err-Line-clause-refused
returns-in-Err-Line-clause-refused g c =
    let first = rw c.in-Err-Line.field-0-is at c.in-Err-Line.ensures.refused in
    λ e bad. inl (ap (BadLine c.in-Err-Line.e.line) c.fault_of.ensures ∙ one_bad_line c.args.input.now c.in-Err-Line.e e first bad)
