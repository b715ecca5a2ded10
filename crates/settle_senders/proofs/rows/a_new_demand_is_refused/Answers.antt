use Rattle.settle_senders.proofs.Worked.{a_new_demand_is_refused}
use Rattle.settle_senders.proofs.rows.a_new_demand_is_refused.Goals as goal

pub returns : goal.returns
returns c = a_new_demand_is_refused
