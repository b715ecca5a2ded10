use Rattle.std.proofs.Common.{arith}
use Rattle.std.proofs.lemmas.Bool.Decides.{nat_tests}
use Rattle.script_rules.proofs.WantLines.{some_there, there_some}
use Rattle.script_grammar.specs.Adds.{wants_at}
use Rattle.script_rules.proofs.want.has_wants.Goals as goal

pub returns : goal.returns
returns c =
    let at = wants_at c.args.wants.now c.args.node c.args.session in
    let count = c.count.ensures in (
      λ t. there_some at (grind (arith, nat_tests, t, count)),
      λ some. let lt = some_there at some in grind (arith, nat_tests, lt, count),
    )
