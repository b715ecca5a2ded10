use Rattle.settle_loss.proofs.WindowSettled.{blockades_are_gone_in_windows}
use Rattle.settle_loss.proofs.laws.blockades_are_gone_in_windows.Goals as goal

pub returns : goal.returns
returns c q s w rs ws hosts fit start paths = blockades_are_gone_in_windows q w rs ws hosts start paths s fit
