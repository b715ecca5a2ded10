use Rattle.std.proofs.Common.{rules, ◌≡◌, ◌∙◌, List, ap, length}
use Rattle.tree_model.specs.declared.locals.LocalWant.{LocalWant}
use Rattle.script_grammar.specs.Adds.{wanted, wants_at, with_wants}
use Rattle.script_rules.proofs.WantCounts.{same_apart}
use Rattle.script_rules.proofs.own.count_with.Goals as goal

pub returns-clause-ok : goal.returns-clause-ok
returns-clause-ok c =
    let ws = c.args.state.now.wants in
    let news = wanted c.args.node c.args.session c.args.style c.args.names.now c.args.flow in
    let put : c.put.new.wants.items ≡ with_wants (wants_at ws c.args.node c.args.session) news = search rules in
    c.want_count.ensures ∙ ap (λ (there : List LocalWant). length (wants_at there c.args.node c.args.session)) (c.as_slice.ensures.value ∙ put)
    ∙ ap length (same_apart c.args.node c.args.session news ws)
