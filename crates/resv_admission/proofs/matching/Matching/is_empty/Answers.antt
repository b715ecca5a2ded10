use Rattle.std.proofs.Common.{refl, ap, ◌∙◌}
use Rattle.rsvp_base.specs.Sets.{is_none}
use Rattle.resv_admission.proofs.Steps.{many_some, some_names}
use Rattle.resv_admission.proofs.matching.Matching.is_empty.Goals as goal

pub returns-in-Some : goal.returns-in-Some
returns-in-Some c = some_names c.in-Some.names c.is_empty.result c.is_empty.ensures.0 c.is_empty.ensures.1 ∙ ap is_none c.in-Some.ensures.all

pub returns-in-None : goal.returns-in-None
returns-in-None c = many_some c.args.self.now (c.in-None.ensures.many.0 refl)
