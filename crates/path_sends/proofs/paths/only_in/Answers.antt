use Rattle.path_sends.proofs.Telling.{only_bits}
use Rattle.path_sends.proofs.paths.only_in.Goals as goal

pub returns : goal.returns
returns c = λ i. only_bits c.args.these c.args.those i c.ranges.these.fits c.ranges.those.fits
