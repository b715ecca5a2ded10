use Rattle.std.specs.Prelude.{◌||◌}
use Rattle.std.proofs.Common.{sym, ap, ◌∙◌}
use Rattle.std.specs.List.{list_any}
use Rattle.resv_sends.specs.Taking.{is_resv_open, rows_of}
use Rattle.resv_sends.proofs.Open.{either_open}
use Rattle.resv_sends.proofs.opening.has_open.Goals as goal

pub returns-then-has_open_want : goal.returns-then-has_open_want
returns-then-has_open_want c =
    let es = rows_of c.args.style c.args.tables.now c.args.session in
    c.if-has_open_want.true ∙ ap (λ b. b || list_any (is_resv_open c.args.style c.args.up.now c.args.unit) es) (sym c.if-has_open_want.true ∙ c.has_open_want.ensures)
    ∙ either_open c.args.style c.args.unit c.args.up.now es c.args.own.now

pub returns-else-has_open_want : goal.returns-else-has_open_want
returns-else-has_open_want c =
    let es = rows_of c.args.style c.args.tables.now c.args.session in
    c.has_open_resv.ensures ∙ ap (λ b. b || list_any (is_resv_open c.args.style c.args.up.now c.args.unit) es) (sym c.if-has_open_want.false ∙ c.has_open_want.ensures)
    ∙ either_open c.args.style c.args.unit c.args.up.now es c.args.own.now
