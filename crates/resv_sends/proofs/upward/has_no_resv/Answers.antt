use Rattle.std.proofs.Common.{ap, ◌∙◌}
use Rattle.resv_sends.specs.Taking.{rows_of}
use Rattle.resv_sends.proofs.Idle.{no_first}
use Rattle.resv_sends.proofs.upward.has_no_resv.Goals as goal

pub returns-in-Wild : goal.returns-in-Wild
returns-in-Wild c = λ on. ap (λ z. rows_of z c.args.tables.now c.args.session) c.in-Wild.is ∙ no_first c.first.result c.is_none.result c.is_none.ensures on _ c.first.ensures

pub returns-in-Fixed : goal.returns-in-Fixed
returns-in-Fixed c = λ on. ap (λ z. rows_of z c.args.tables.now c.args.session) c.in-Fixed.is
    ∙ no_first c.first-in-Fixed.result c.is_none-in-Fixed.result c.is_none-in-Fixed.ensures on _ c.first-in-Fixed.ensures

pub returns-in-Shared : goal.returns-in-Shared
returns-in-Shared c = λ on. ap (λ z. rows_of z c.args.tables.now c.args.session) c.in-Shared.is
    ∙ no_first c.first-in-Shared.result c.is_none-in-Shared.result c.is_none-in-Shared.ensures on _ c.first-in-Shared.ensures
