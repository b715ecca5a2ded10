-- The law is the lemma.
use Rattle.load_policer.proofs.Verdicts.{one_verdict}
use Rattle.load_policer.proofs.laws.one_verdict.Goals as goal

pub returns : goal.returns
returns c = one_verdict
