use Rattle.settle_senders.proofs.Worked.{no_pass_is_spared}
use Rattle.settle_senders.proofs.rows.no_pass_is_spared.Goals as goal

pub returns : goal.returns
returns c = no_pass_is_spared
