use Rattle.script_theorem.proofs.AdvertReports.{a_settled_adverts_line_is_demanded}
use Rattle.script_theorem.proofs.reports.a_settled_adverts_line_is_demanded.Goals as goal

pub returns : goal.returns
returns c = a_settled_adverts_line_is_demanded
