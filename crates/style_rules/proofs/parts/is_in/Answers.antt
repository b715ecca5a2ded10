use Rattle.std.proofs.Common.{sym, ap, ◌∙◌}
use Rattle.std.specs.Option.{option_copied}
use Rattle.style_rules.specs.Same.{stands_for}
use Rattle.style_rules.proofs.Same.{as_tested}
use Rattle.style_rules.proofs.parts.is_in.Goals as goal

pub returns-in-Some : goal.returns-in-Some
returns-in-Some c = as_tested _ _ _ c.le_parts.ensures ∙ ap (stands_for c.args.row.now.1) (sym (ap option_copied c.in-Some.is) ∙ c.get.ensures)

pub returns-in-None : goal.returns-in-None
returns-in-None c = ap (stands_for c.args.row.now.1) (sym (ap option_copied c.in-None.is) ∙ c.get.ensures)
