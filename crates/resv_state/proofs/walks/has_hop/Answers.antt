use Rattle.std.proofs.Common.{rules, tests, ◌∙◌}
use Rattle.std.specs.Ordering.{eq_by_cmp}
use Rattle.std.proofs.lemmas.Iterator.Consumers.{YieldsList-from_first}
use Rattle.std.proofs.lemmas.Iterator.Search.{any_from_yields_List}
use Rattle.style_rules.specs.Lines.{next_hops}
use Rattle.resv_state.specs.Resvs.{held_key}
use Rattle.resv_state.proofs.Walked.{among}
use Rattle.resv_state.proofs.walks.has_hop.Goals as goal

pub returns : goal.returns
returns c =
    any_from_yields_List (λ h. eq_by_cmp next_hops.cmp c.args.hop (held_key h).1.0) _ _ _ c.any.ensures.ran (YieldsList-from_first (λ x. x.now) (λ it. it) _ c.of_session.ensures)
    (λ x b q k. search (rules, tests))
    ∙ among c.args.hop c.args.session c.args.table.now.facts
