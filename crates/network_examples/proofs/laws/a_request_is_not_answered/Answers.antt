use Rattle.network_examples.proofs.Unanswered.{a_request_is_not_answered}
use Rattle.network_examples.proofs.laws.a_request_is_not_answered.Goals as goal

pub returns : goal.returns
returns c = a_request_is_not_answered
