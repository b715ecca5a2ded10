use Rattle.settle_loss.proofs.WindowSettled.{a_session_settles_in_windows}
use Rattle.settle_loss.proofs.laws.a_session_settles_in_windows.Goals as goal

pub returns : goal.returns
returns c q s w rs ws hosts fit start paths resvs = a_session_settles_in_windows q w rs ws hosts start paths s fit resvs
