use Rattle.settle_loss.proofs.WindowSettled.{a_network_settles_in_windows}
use Rattle.settle_loss.proofs.laws.a_network_settles_in_windows.Goals as goal

pub returns : goal.returns
returns c q w rs ws start paths resvs = a_network_settles_in_windows q w rs ws start paths resvs
