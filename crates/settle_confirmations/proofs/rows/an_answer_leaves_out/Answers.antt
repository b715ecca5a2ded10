use Rattle.settle_confirmations.proofs.Worked.{an_answer_leaves_out}
use Rattle.settle_confirmations.proofs.rows.an_answer_leaves_out.Goals as goal

pub returns : goal.returns
returns c = an_answer_leaves_out
