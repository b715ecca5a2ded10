use Rattle.laws_steps.proofs.Hopward.{why_a_resv_tear_is_sent}
use Rattle.laws_steps.proofs.reservations.why_a_resv_tear_is_sent.Goals as goal

pub returns : goal.returns
returns c = why_a_resv_tear_is_sent
