use Rattle.settle_passes.proofs.Worked.{a_trade_is_refused}
use Rattle.settle_passes.proofs.rows.a_trade_is_refused.Goals as goal

pub returns : goal.returns
returns c = a_trade_is_refused
