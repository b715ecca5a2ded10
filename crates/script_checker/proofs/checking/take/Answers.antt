use Rattle.std.proofs.Common.{Err, ap, inl, refl, subst}
use Rattle.script_words.specs.Unread.{Misses}
use Rattle.script_words.specs.declared.unread.Unread.{Unread}
use Rattle.script_grammar.specs.Grammar.{unread}
use Rattle.script_grammar.specs.LineKinds.{script_line_of}
use Rattle.script_rules.specs.Said.{draft_of}
use Rattle.script_checker.proofs.FedLines.{fed}
use Rattle.script_checker.proofs.Words.{formed}
use Rattle.script_checker.proofs.checking.take.Goals as goal

pub add-requires : goal.add-requires
add-requires c = formed c.args.line.now c.in-Ok.said c.requires c.in-Ok.ensures.said

pub returns-in-Ok : goal.returns-in-Ok
returns-in-Ok c =
    fed (draft_of c.args.state.now) c.args.line.now c.in-Ok.said c.requires c.in-Ok.ensures.said c.add.result
    (draft_of c.add.new.state) c.add.ensures.ok c.add.ensures.given c.add.ensures.refused c.add.ensures.asked c.add.ensures.same

pub returns-in-Err-Word : goal.returns-in-Err-Word
returns-in-Err-Word c = (unread c.requires (subst (λ (e : Unread). Misses e (script_line_of c.args.line.now)) c.in-Err-Word.field-0-is c.in-Err-Word.ensures.said), refl)

pub returns : goal.returns
returns c = inl (c.in-Err-NoMemory.ensures.asked (ap Err c.in-Err-NoMemory.field-0-is))
