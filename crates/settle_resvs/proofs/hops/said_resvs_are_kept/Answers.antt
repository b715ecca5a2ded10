use Rattle.laws_network.proofs.Keeping.{calm_rounds_keep_bounds}
use Rattle.settle_resvs.proofs.Said.{said_resvs_are_kept}
use Rattle.settle_resvs.proofs.hops.said_resvs_are_kept.Goals as goal

pub returns : goal.returns
returns c q w k v there rs calm bounds said = said_resvs_are_kept q w k v there rs calm (calm_rounds_keep_bounds q w rs calm bounds) said
