use Rattle.settle_confirmations.proofs.Worked.{an_answer_speaks_of_another}
use Rattle.settle_confirmations.proofs.rows.an_answer_speaks_of_another.Goals as goal

pub returns : goal.returns
returns c = an_answer_speaks_of_another
