use Rattle.settle_network.proofs.Purged.{a_run_is_purged}
use Rattle.settle_network.proofs.laws.a_run_is_purged.Goals as goal

pub returns : goal.returns
returns c p fit ss ts front is = a_run_is_purged p fit ss ts front is
