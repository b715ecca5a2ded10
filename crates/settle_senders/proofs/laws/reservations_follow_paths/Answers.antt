use Rattle.settle_senders.proofs.Serving.{reservations_follow_paths}
use Rattle.settle_senders.proofs.laws.reservations_follow_paths.Goals as goal

pub returns : goal.returns
returns c q n s w follows = reservations_follow_paths q n s w follows
