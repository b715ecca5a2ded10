use Rattle.script_theorem.proofs.Sessions.{a_settled_report_shows_each_session}
use Rattle.script_theorem.proofs.reports.a_settled_report_shows_each_session.Goals as goal

pub returns : goal.returns
returns c = a_settled_report_shows_each_session
