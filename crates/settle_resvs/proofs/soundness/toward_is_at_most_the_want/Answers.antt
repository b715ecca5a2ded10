use Rattle.settle_resvs.proofs.TowardWants.{toward_is_at_most_the_want}
use Rattle.settle_resvs.proofs.soundness.toward_is_at_most_the_want.Goals as goal

pub returns : goal.returns
returns c q w bounds paths n f l h at is low u t e = toward_is_at_most_the_want q w bounds paths n f at l h is low u t e
