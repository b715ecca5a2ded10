use Rattle.laws_network.proofs.Keeping.{calm_rounds_keep_bounds}
use Rattle.settle_resvs.proofs.SoundUnits.{reservations_become_sound}
use Rattle.settle_resvs.proofs.soundness.reservations_become_sound.Goals as goal

pub returns : goal.returns
returns c q w rs calm bounds = reservations_become_sound q w rs calm (calm_rounds_keep_bounds q w rs calm bounds)
