use Rattle.std.proofs.Common.{rules, of_calls}
use Rattle.std.proofs.lemmas.Fn.{filter_same}
use Rattle.local_state.proofs.wants.take_session.Goals as goal

pub returns-clause-rows : goal.returns-clause-rows
returns-clause-rows c = filter_same _ _ _ (λ x b f' k. search (rules, of_calls)) _ _ c.retain.ensures.filtered
