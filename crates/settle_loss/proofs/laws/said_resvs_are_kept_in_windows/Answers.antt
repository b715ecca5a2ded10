use Rattle.settle_loss.proofs.LastingResvs.{said_resvs_are_kept_in_windows}
use Rattle.settle_loss.proofs.laws.said_resvs_are_kept_in_windows.Goals as goal

pub returns : goal.returns
returns c q w k v there rs ws bounds refreshed said = said_resvs_are_kept_in_windows q w k v there rs ws bounds refreshed said
