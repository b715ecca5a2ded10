use Rattle.stale_state.specs.Tables.{tables_of}
use Rattle.stale_state.proofs.resvs.ResvsLeft.open.Goals as goal

pub returns-clause-none : goal.returns-clause-none
returns-clause-none c = λ i. tables_of (c.in_ok-open.ensures i).facts (c.in_ok-open-2.ensures i).facts (c.in_ok-open-3.ensures i).facts
