use Rattle.std.proofs.Common.{is_some, refl, sym, ap, ◌∙◌}
use Rattle.soft_table.proofs.Walks.{some_mapped}
use Rattle.soft_table.proofs.rows.has_fact.Goals as goal

pub nth-requires-clause-slots : goal.nth-requires-clause-slots
nth-requires-clause-slots g c = c.requires c.args.session

pub nth-requires-clause-from : goal.nth-requires-clause-from
nth-requires-clause-from g c = (0, c.first.ensures)

pub returns-in-Some : goal.returns-in-Some
returns-in-Some g c = sym (sym (some_mapped (λ e. e.1) _) ∙ ap is_some (c.in-Some.ensures.some 0 c.first.ensures) ∙ c.in-Some.ensures.live)

pub returns-in-None : goal.returns-in-None
returns-in-None g c = sym (ap is_some (c.in-None.ensures.none refl 0 c.first.ensures))
