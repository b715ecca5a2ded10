use Rattle.std.proofs.Common.{◌++◌, ◌∙◌, List, ℕ, ap}
use Rattle.std.specs.Prelude.{codes}
use Rattle.std.specs.Fmt.{decimal}
use Rattle.node_stream.specs.Advice.{cut_text, two_text}
use Rattle.node_stream.proofs.Texts.{joined, then_ok}
use Rattle.node_stream.proofs.advice.put_cut.Goals as goal

pub returns-clause-text : goal.returns-clause-text
unfolding cut_text
returns-clause-text c =
    let first = two_text (codes "kind ") c.args.kind (codes ", length ") c.args.wanted (codes ": the input ends behind ") in
    let last = codes " of these bytes" in
    then_ok c.put.result
    (λ e. e ∙ ap (λ (x : List ℕ). x ++ last) (c.in_ok-put_number.ensures.text ∙ ap (λ (x : List ℕ). x ++ decimal c.args.got) c.in_ok-put_two.ensures.text)
    ∙ joined c.args.out.now.items first (decimal c.args.got) last) c.put.ensures.text
