use Rattle.std.proofs.Common.{sym, ap, ◌∙◌}
use Rattle.std.specs.Option.{option_copied}
use Rattle.resv_state.proofs.Merged.{wall_got, wall_none}
use Rattle.resv_sends.proofs.taking.is_way_walled.Goals as goal

pub returns-in-Some : goal.returns-in-Some
returns-in-Some c = c.is_walled.ensures ∙ wall_got c.args.asked.now c.args.name c.in-Some.line.now _ (sym (ap option_copied c.in-Some.is) ∙ c.get.ensures)

pub returns-in-None : goal.returns-in-None
returns-in-None c = wall_none c.args.asked.now c.args.name _ (sym (ap option_copied c.in-None.is) ∙ c.get.ensures)
