use Rattle.std.proofs.Common.{sym, ◌∙◌}
use Rattle.resv_sends.proofs.Idle.{nothing_goes}
use Rattle.resv_sends.proofs.upward.is_idle.Goals as goal

pub returns-then-any_of_style : goal.returns-then-any_of_style
returns-then-any_of_style c = λ z. absurd (cc)

pub returns : goal.returns
returns c = λ on clock said hop. nothing_goes clock c.args.tables.now said c.args.session hop c.of.result.now c.args.style c.of.ensures.rows (sym c.any_of_style.ensures ∙ c.if-any_of_style.false)
    (c.has_no_resv.ensures on)
