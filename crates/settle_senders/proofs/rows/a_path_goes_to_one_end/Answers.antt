use Rattle.settle_senders.proofs.Worked.{a_path_goes_to_one_end}
use Rattle.settle_senders.proofs.rows.a_path_goes_to_one_end.Goals as goal

pub returns : goal.returns
returns c = a_path_goes_to_one_end
