-- By the lemmas on cutting.
use Rattle.adspec_path.proofs.Cutting.{shifted_is_below}
use Rattle.adspec_path.proofs.rates.without.Goals as goal

pub returns : goal.returns
returns c = shifted_is_below c.args.n c.args.k c.requires.low c.requires.high c.requires.short
