use Rattle.std.proofs.Common.{rules, IfSome}
use Rattle.script_words.specs.Sessions.{IsSender, sender_of}
use Rattle.script_grammar.proofs.ListRanges.{others_decide}
use Rattle.script_grammar.proofs.field.+each_is_sender.Goals as goal

pub returns-then-is_sender : goal.returns-then-is_sender
returns-then-is_sender t c =
    let here : IfSome (sender_of c.in-Some.first.now) IsSender = search rules in
    others_decide (λ w. IfSome (sender_of w) IsSender) _ _ c.in-Some.first.now c.each_is_sender.result c.in-Some.ensures.parts here c.each_is_sender.ensures
