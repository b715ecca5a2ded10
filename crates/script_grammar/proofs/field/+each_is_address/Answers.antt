use Rattle.std.proofs.Common.{rules, IfSome}
use Rattle.script_words.specs.Addresses.{IsAddr, quad_of}
use Rattle.script_grammar.proofs.ListRanges.{others_decide}
use Rattle.script_grammar.proofs.field.+each_is_address.Goals as goal

pub returns-then-is_address : goal.returns-then-is_address
returns-then-is_address t c =
    let here : IfSome (quad_of c.in-Some.first.now) IsAddr = search rules in
    others_decide (λ w. IfSome (quad_of w) IsAddr) _ _ c.in-Some.first.now c.each_is_address.result c.in-Some.ensures.parts here c.each_is_address.ensures
