use Rattle.std.proofs.Common.{rules, tests, ◌∙◌}
use Rattle.std.proofs.lemmas.Iterator.Consumers.{YieldsList-from_first}
use Rattle.std.proofs.lemmas.Iterator.Search.{any_from_yields_List}
use Rattle.path_state.specs.Paths.{is_from}
use Rattle.path_state.specs.declared.fact.PathFact.{PathFact}
use Rattle.path_state.proofs.Walked.{among}
use Rattle.path_state.proofs.walks.has_address.Goals as goal

pub returns : goal.returns
returns c =
    any_from_yields_List (λ (f : PathFact). is_from c.args.addr f.sender) _ _ _ c.any.ensures.ran (YieldsList-from_first (λ x. x.now) (λ it. it) _ c.of_session.ensures)
    (λ x b q k. search (rules, tests))
    ∙ among c.args.addr c.args.session c.args.table.now.facts
