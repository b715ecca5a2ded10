use Rattle.settle_paths.proofs.Example.{a_path_is_left_over}
use Rattle.settle_paths.proofs.laws.a_path_is_left_over.Goals as goal

pub returns : goal.returns
returns c = a_path_is_left_over
