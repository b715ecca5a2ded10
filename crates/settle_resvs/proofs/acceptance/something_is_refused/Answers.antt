use Rattle.settle_resvs.proofs.BlockadeExample.{something_is_refused}
use Rattle.settle_resvs.proofs.acceptance.something_is_refused.Goals as goal

pub returns : goal.returns
returns c = something_is_refused
