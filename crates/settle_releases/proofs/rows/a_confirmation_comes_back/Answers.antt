use Rattle.settle_releases.proofs.Worked.{a_confirmation_comes_back}
use Rattle.settle_releases.proofs.rows.a_confirmation_comes_back.Goals as goal

pub returns : goal.returns
returns c = a_confirmation_comes_back
