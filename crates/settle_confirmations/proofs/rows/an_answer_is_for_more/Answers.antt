use Rattle.settle_confirmations.proofs.Worked.{an_answer_is_for_more}
use Rattle.settle_confirmations.proofs.rows.an_answer_is_for_more.Goals as goal

pub returns : goal.returns
returns c = an_answer_is_for_more
