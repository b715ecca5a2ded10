use Rattle.settle_loss.proofs.StaleExample.{a_left_over_reservation_in_windows}
use Rattle.settle_loss.proofs.laws.a_reservation_is_left_over_in_windows.Goals as goal

pub returns : goal.returns
returns c = a_left_over_reservation_in_windows
