use Rattle.std.proofs.Common.{sym, ap, ◌∙◌}
use Rattle.std.specs.List.{list_any}
use Rattle.resv_sends.specs.Taking.{is_resv_open, rows_of}
use Rattle.resv_sends.proofs.opening.has_open_resv.Goals as goal

pub returns-in-Wild : goal.returns-in-Wild
returns-in-Wild c = c.is_any_open.ensures ∙ sym (ap (λ z. list_any (is_resv_open z c.args.up.now c.args.unit) (rows_of z c.args.tables.now c.args.session)) c.in-Wild.is)

pub returns-in-Fixed : goal.returns-in-Fixed
returns-in-Fixed c = c.is_any_open-in-Fixed.ensures ∙ sym (ap (λ z. list_any (is_resv_open z c.args.up.now c.args.unit) (rows_of z c.args.tables.now c.args.session)) c.in-Fixed.is)

pub returns-in-Shared : goal.returns-in-Shared
returns-in-Shared c = c.is_any_open-in-Shared.ensures ∙ sym (ap (λ z. list_any (is_resv_open z c.args.up.now c.args.unit) (rows_of z c.args.tables.now c.args.session)) c.in-Shared.is)
