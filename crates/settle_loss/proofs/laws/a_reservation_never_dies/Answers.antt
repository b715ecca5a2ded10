use Rattle.settle_loss.proofs.LastingResvs.{a_reservation_never_dies}
use Rattle.settle_loss.proofs.laws.a_reservation_never_dies.Goals as goal

pub returns : goal.returns
returns c q w k v there ss quiet bounds full lasts refreshed said = a_reservation_never_dies q w k v there ss quiet bounds full lasts refreshed said
