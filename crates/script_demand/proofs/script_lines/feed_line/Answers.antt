use Rattle.script_grammar.specs.Grammar.{too_long}
use Rattle.script_demand.proofs.Feeding.{fed_asked, fed_refused, fed_same}
use Rattle.script_demand.proofs.script_lines.feed_line.Goals as goal

pub returns-then-line-gt-MOST_LINE-clause-refused : goal.returns-then-line-gt-MOST_LINE-clause-refused
returns-then-line-gt-MOST_LINE-clause-refused g c = too_long c.if-line-gt-MOST_LINE.true

pub returns-in-Err-clause-refused : goal.returns-in-Err-clause-refused
returns-in-Err-clause-refused g c = fed_refused (g.C.LinesBefore.lines c.args.checker.now) c.args.line.now c.in-Err.refused (g.C.LinesBefore.lines c.feed.new.self) c.in-Err.ensures

pub returns-in-Err-clause-same : goal.returns-in-Err-clause-same
returns-in-Err-clause-same g c = fed_same (g.C.LinesBefore.lines c.args.checker.now) c.args.line.now c.in-Err.refused (g.C.LinesBefore.lines c.feed.new.self) c.in-Err.ensures

pub returns-in-Err-clause-asked : goal.returns-in-Err-clause-asked
returns-in-Err-clause-asked g c = fed_asked (g.C.LinesBefore.lines c.args.checker.now) c.args.line.now c.in-Err.refused (g.C.LinesBefore.lines c.feed.new.self) c.in-Err.ensures
