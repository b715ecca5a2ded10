use Rattle.laws_grown.proofs.Opening.{a_seed_is_untouched}
use Rattle.laws_grown.proofs.openings.a_seed_is_untouched.Goals as goal

pub returns : goal.returns
returns c seed = a_seed_is_untouched seed
