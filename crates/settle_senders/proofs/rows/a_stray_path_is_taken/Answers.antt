use Rattle.settle_senders.proofs.AdvertsWorked.{a_stray_path_is_taken}
use Rattle.settle_senders.proofs.rows.a_stray_path_is_taken.Goals as goal

pub returns : goal.returns
returns c = a_stray_path_is_taken
