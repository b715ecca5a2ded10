use Rattle.std.proofs.Common.{◌++◌, ◌∙◌, List, ℕ, ap}
use Rattle.std.specs.Prelude.{codes}
use Rattle.std.specs.Fmt.{decimal}
use Rattle.node_stream.specs.Advice.{way_text, two_text}
use Rattle.node_stream.proofs.Texts.{joined, then_ok}
use Rattle.node_stream.proofs.advice.put_way.Goals as goal

pub returns-clause-text : goal.returns-clause-text
unfolding way_text
returns-clause-text c =
    let first = two_text (codes "kind 1, route ") c.args.route c.args.way.now c.args.number (codes ": the router has ") in
    let last = codes " interfaces, numbered from 0" in
    then_ok c.put.result
    (λ e. e ∙ ap (λ (x : List ℕ). x ++ last) (c.in_ok-put_number.ensures.text ∙ ap (λ (x : List ℕ). x ++ decimal c.args.count) c.in_ok-put_two.ensures.text)
    ∙ joined c.args.out.now.items first (decimal c.args.count) last) c.put.ensures.text
