use Rattle.laws_steps.proofs.Erring.{where_a_blockade_comes_from}
use Rattle.laws_steps.proofs.errors.where_a_blockade_comes_from.Goals as goal

pub returns : goal.returns
returns c = where_a_blockade_comes_from
