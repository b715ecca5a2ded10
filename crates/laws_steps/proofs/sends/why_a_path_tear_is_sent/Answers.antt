use Rattle.laws_steps.proofs.Speaking.{why_a_path_tear_is_sent}
use Rattle.laws_steps.proofs.sends.why_a_path_tear_is_sent.Goals as goal

pub returns : goal.returns
returns c = why_a_path_tear_is_sent
