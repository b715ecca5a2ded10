use Rattle.settle_adverts.proofs.Worked.{an_adspec_is_left_over}
use Rattle.settle_adverts.proofs.rows.an_adspec_is_left_over.Goals as goal

pub returns : goal.returns
returns c = an_adspec_is_left_over
