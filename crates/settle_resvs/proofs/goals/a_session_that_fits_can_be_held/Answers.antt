use Rattle.settle_resvs.proofs.GoalByIface.{session_can_be_held}
use Rattle.settle_resvs.proofs.goals.a_session_that_fits_can_be_held.Goals as goal

pub returns : goal.returns
returns c q net trees l s e valid fit carries = session_can_be_held q net trees l s e valid fit carries
