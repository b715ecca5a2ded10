use Rattle.std.proofs.Common.{◌≡◌, ap, sym, ◌∙◌, Bool, ℕ, Option, true, false, not, ◌&&◌}
use Rattle.std.specs.List.{list_any}
use Rattle.script_rules.specs.Said.{draft_of}
use Rattle.script_rules.specs.LinkEnds.{are_apart, is_at, node_at}
use Rattle.script_rules.proofs.Apart.{first_apart, others}
use Rattle.script_rules.proofs.link.+are_apart.Goals as goal

pub returns-then-not-is_at_one : goal.returns-then-not-is_at_one
returns-then-not-is_at_one t c =
    let d = draft_of c.args.state.now in
    let rest = others c.args.names.now in
    let met : list_any (is_at d (node_at d c.first-item.result)) rest ≡ false =
    ap (λ (n : Option ℕ). list_any (is_at d n) rest) (sym c.node_at.ensures) ∙ sym c.is_at_one.ensures ∙ c.if-not-is_at_one.true in
    c.are_apart.ensures
    ∙ sym (first_apart d c.args.names.now c.first-item.result c.in-len1-up.len_at_least c.first-item.is ∙ ap (λ (b : Bool). not b && are_apart d rest) met)

pub returns-else-not-is_at_one : goal.returns-else-not-is_at_one
returns-else-not-is_at_one t c =
    let d = draft_of c.args.state.now in
    let rest = others c.args.names.now in
    let met : list_any (is_at d (node_at d c.first-item.result)) rest ≡ true =
    ap (λ (n : Option ℕ). list_any (is_at d n) rest) (sym c.node_at.ensures) ∙ sym c.is_at_one.ensures ∙ c.if-not-is_at_one.false in
    ap not c.if-not-is_at_one.false
    ∙ sym (first_apart d c.args.names.now c.first-item.result c.in-len1-up.len_at_least c.first-item.is ∙ ap (λ (b : Bool). not b && are_apart d rest) met)
