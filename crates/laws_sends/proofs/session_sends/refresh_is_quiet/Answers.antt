use Rattle.laws_sends.proofs.Quiet.{toward_refreshed}
use Rattle.laws_sends.proofs.session_sends.refresh_is_quiet.Goals as goal

pub returns : goal.returns
returns c = toward_refreshed
