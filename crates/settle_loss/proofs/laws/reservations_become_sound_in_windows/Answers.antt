use Rattle.settle_loss.proofs.WindowResvs.{reservations_become_sound_in_windows}
use Rattle.settle_loss.proofs.laws.reservations_become_sound_in_windows.Goals as goal

pub returns : goal.returns
returns c q w rs ws bounds = reservations_become_sound_in_windows q w rs ws bounds
