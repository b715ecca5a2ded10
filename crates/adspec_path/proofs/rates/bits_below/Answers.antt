-- By the lemmas on cutting.
use Rattle.adspec_path.proofs.Cutting.{bits_below_of}
use Rattle.adspec_path.proofs.rates.bits_below.Goals as goal

pub returns-clause-low : goal.returns-clause-low
returns-clause-low c = (bits_below_of c.args.n _ c.requires.long c.requires.short c.saturating_sub.ensures).low

pub returns-clause-high : goal.returns-clause-high
returns-clause-high c = (bits_below_of c.args.n _ c.requires.long c.requires.short c.saturating_sub.ensures).high

pub returns-clause-few : goal.returns-clause-few
returns-clause-few c = (bits_below_of c.args.n _ c.requires.long c.requires.short c.saturating_sub.ensures).few
