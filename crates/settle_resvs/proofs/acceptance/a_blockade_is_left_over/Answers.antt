use Rattle.settle_resvs.proofs.BlockadeExample.{a_blockade_is_left_over}
use Rattle.settle_resvs.proofs.acceptance.a_blockade_is_left_over.Goals as goal

pub returns : goal.returns
returns c = a_blockade_is_left_over
