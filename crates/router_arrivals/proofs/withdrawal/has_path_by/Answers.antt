use Rattle.std.proofs.Common.{◌∙◌}
use Rattle.router_arrivals.proofs.withdrawal.has_path_by.Goals as goal

pub returns : goal.returns
returns c = λ clock n same. c.is_some.ensures ∙ c.path_by.ensures.by clock n same
