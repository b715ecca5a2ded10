use Rattle.settle_senders.proofs.AdvertsWorked.{a_host_advertises}
use Rattle.settle_senders.proofs.rows.a_host_advertises.Goals as goal

pub returns : goal.returns
returns c = a_host_advertises
