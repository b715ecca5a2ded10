use Rattle.std.proofs.Common.{sym, ◌∙◌}
use Rattle.style_rules.proofs.Same.{same_where, apart_where}
use Rattle.style_rules.proofs.parts.Parts.is_same.Goals as goal

pub returns-then-are_in : goal.returns-then-are_in
returns-then-are_in c = same_where c.args.self.now c.args.other.now c.are_in-then-are_in.result c.are_in-then-are_in.ensures (sym c.are_in.ensures ∙ c.if-are_in.true)

pub returns-else-are_in : goal.returns-else-are_in
returns-else-are_in c = apart_where c.args.self.now c.args.other.now c.are_in.result c.are_in.ensures c.if-are_in.false
