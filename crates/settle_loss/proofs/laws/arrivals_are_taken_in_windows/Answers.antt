use Rattle.settle_loss.proofs.WindowTaking.{arrivals_are_taken_in_windows}
use Rattle.settle_loss.proofs.laws.arrivals_are_taken_in_windows.Goals as goal

pub returns : goal.returns
returns c q s w rs ws hosts fit bounds refreshed = arrivals_are_taken_in_windows q s w rs ws hosts fit bounds refreshed
