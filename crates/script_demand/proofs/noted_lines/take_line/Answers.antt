use Rattle.std.proofs.Common.{◌≡◌, ◌∙◌, List, ap, sym}
use Rattle.network_demand.specs.declared.late.Begun.{Begun}
use Rattle.script_grammar.specs.Grammar.{too_long}
use Rattle.script_demand.proofs.Feeding.{fed_refused, fed_same}
use Rattle.script_demand.specs.Begun.{after_given}
use Rattle.script_demand.proofs.Orders.{begun_more}
use Rattle.script_demand.proofs.noted_lines.take_line.Goals as goal

pub returns-then-line-gt-MOST_LINE-clause-refused : goal.returns-then-line-gt-MOST_LINE-clause-refused
returns-then-line-gt-MOST_LINE-clause-refused g c = too_long c.if-line-gt-MOST_LINE.true

pub returns-clause-refused : goal.returns-clause-refused
returns-clause-refused g c = fed_refused (g.C.LinesBefore.lines c.args.checker.now) c.args.line.now c.in-Err.refused (g.C.LinesBefore.lines c.feed.new.self) c.in-Err.ensures

pub returns-clause-same : goal.returns-clause-same
returns-clause-same g c = fed_same (g.C.LinesBefore.lines c.args.checker.now) c.args.line.now c.in-Err.refused (g.C.LinesBefore.lines c.feed.new.self) c.in-Err.ensures

pub returns-in-Ok-keep_line-clause-begun : goal.returns-in-Ok-keep_line-clause-begun
returns-in-Ok-keep_line-clause-begun g c = λ before.
    let old = g.C.LinesBefore.lines c.args.checker.now in
    let new = g.C.LinesBefore.lines c.feed.new.self in
    c.in-Ok-keep_line.ensures.begun ∙ ap (λ (bs : List Begun). after_given bs c.in-Ok.event) before ∙ sym (begun_more old.events c.in-Ok.event new.events c.in-Ok.ensures.event)
