use Rattle.settle_resvs.proofs.UnderTheGoal.{has_place, sound_under}
use Rattle.settle_resvs.proofs.goals.what_is_sound_is_under_the_goal.Goals as goal

pub returns : goal.returns
returns c w = record { facts = sound_under w; unit = has_place w }
