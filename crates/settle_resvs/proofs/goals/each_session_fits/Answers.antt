use Rattle.settle_resvs.proofs.GoalByIface.{each_fits}
use Rattle.settle_resvs.proofs.goals.each_session_fits.Goals as goal

pub returns : goal.returns
returns c net l fit s = each_fits net l fit s
