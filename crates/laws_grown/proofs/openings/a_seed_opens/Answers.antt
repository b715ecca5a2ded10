use Rattle.laws_grown.proofs.Opening.{a_seed_opens}
use Rattle.laws_grown.proofs.openings.a_seed_opens.Goals as goal

pub returns : goal.returns
returns c seed n = a_seed_opens seed n
