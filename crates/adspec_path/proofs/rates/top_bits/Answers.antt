-- By the lemmas on cutting.
use Rattle.std.proofs.Common.{arith}
use Rattle.std.proofs.lemmas.Bool.Decides.{nat_tests}
use Rattle.adspec_path.proofs.Cutting.{short_is_below_itself}
use Rattle.adspec_path.proofs.rates.top_bits.Goals as goal

pub returns-then-n : goal.returns-then-n
returns-then-n c = short_is_below_itself c.args.n (grind (arith, nat_tests))
