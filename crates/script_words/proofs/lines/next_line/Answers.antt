use Rattle.std.proofs.Common.{length, ◌<◌, rules}
use Rattle.script_words.proofs.PartLemmas.{lines_found, lines_none}
use Rattle.script_words.proofs.lines.next_line.Goals as goal

pub returns-in-Some-clause-lines : goal.returns-in-Some-clause-lines
returns-in-Some-clause-lines c = lines_found c.args.text.now c.in-Some.line.now c.in-Some.behind.now c.in-Some.ensures.parts

pub returns-in-None-clause-lines : goal.returns-in-None-clause-lines
returns-in-None-clause-lines c =
    let some : 0 < length c.args.text.now = search rules in
    lines_none c.args.text.now some c.in-None.ensures.parts
