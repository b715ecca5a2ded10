use Rattle.settle_openings.proofs.Worked.{a_pair_opens}
use Rattle.settle_openings.proofs.rows.a_pair_opens.Goals as goal

pub returns : goal.returns
returns c = a_pair_opens
