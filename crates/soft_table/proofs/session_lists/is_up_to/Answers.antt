use Rattle.std.proofs.Common.{sym, ◌∙◌}
use Rattle.std.proofs.lemmas.Bool.{not-true}
use Rattle.soft_table.proofs.session_lists.is_up_to.Goals as goal

pub returns-in-Some : goal.returns-in-Some
returns-in-Some g c = λ t. (c.in-Some.key, c.in-Some.ensures, sym c.is_behind.ensures ∙ not-true _ t)
