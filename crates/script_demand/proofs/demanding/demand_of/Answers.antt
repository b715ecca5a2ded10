use Rattle.std.proofs.Common.{inl}
use Rattle.laws_scripts.proofs.AskedLines.{what_lines_ask_can_be_asked}
use Rattle.script_words.specs.Lines.{text_lines}
use Rattle.script_demand.proofs.demanding.demand_of.Goals as goal

pub text_of-requires : goal.text_of-requires
text_of-requires g c = what_lines_ask_can_be_asked (text_lines c.args.input.now) _ c.in-Ok.ensures.taken

pub returns-in-Err-clause-asked : goal.returns-in-Err-clause-asked
returns-in-Err-clause-asked g c = λ is. inl (c.in-Err.ensures.asked is)
