use Rattle.std.proofs.Common.{◌≡◌, ◌∙◌, ◌++◌, ◌<◌, ◌≤◌, option_map, length, sym, ap, arith}
use Rattle.script_grammar.proofs.Pairs.{pairs_alone}
use Rattle.script_grammar.proofs.line_kinds.lists.pairs.Goals as goal

pub returns-in-len1 : goal.returns-in-len1
returns-in-len1 c =
    let some : 1 ≤ length c.loop-rest.rest.now = omega (arith, c.in-len1.len_at_least) in
    let few : length c.loop-rest.rest.now < 2 = omega (arith, c.in-len1.len_below) in
    sym c.loop-rest.invariant ∙ ap (λ o. option_map (λ xs. c.loop-rest.hops.items ++ xs) o) (pairs_alone (λ w. w.now) c.loop-rest.rest.now some few)
