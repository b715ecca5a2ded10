use Rattle.std.proofs.Common.{◌∙◌}
use Rattle.laws_scripts.proofs.AskedLines.{what_lines_ask_can_be_asked}
use Rattle.script_words.specs.Lines.{text_lines}
use Rattle.script_demand.proofs.ComingNoted.{said_of}
use Rattle.script_demand.proofs.findings.findings_of.Goals as goal

pub text_of-requires : goal.text_of-requires
text_of-requires g c = what_lines_ask_can_be_asked (text_lines c.args.input.now) _ c.in-Ok.ensures.taken

pub returns-in-Ok-text_of-clause-found : goal.returns-in-Ok-text_of-clause-found
returns-in-Ok-text_of-clause-found g c =
    said_of c.args.input.now c.in-Ok-text_of.saying.text.items c.in-Ok-text_of.saying.said (g.C.LinesBefore.lines c.read_lines.new.checker) c.as_slice.result.now c.as_slice-2.result.now c.in-Ok.ensures.taken
    (c.as_slice.ensures.value ∙ c.in-Ok.ensures.nodes) (c.as_slice-2.ensures.value ∙ c.in-Ok.ensures.begun) c.in-Ok-text_of.ensures
