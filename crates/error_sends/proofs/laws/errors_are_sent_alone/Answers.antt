use Rattle.error_sends.proofs.Alone.{sent_alone}
use Rattle.error_sends.proofs.laws.errors_are_sent_alone.Goals as goal

pub returns : goal.returns
returns c = sent_alone
