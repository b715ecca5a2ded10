use Rattle.settle_resvs.proofs.TowardIsTheWant.{toward_is_the_want}
use Rattle.settle_resvs.proofs.exactness.toward_is_the_want.Goals as goal

pub returns : goal.returns
returns c q w bounds paths complete n f l h at free is low exact = toward_is_the_want q w bounds paths complete n f at l free h is low exact
