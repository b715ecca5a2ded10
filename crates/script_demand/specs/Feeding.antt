-- Why a line was not taken.
use Rattle.script_grammar.specs.declared.fault.Fault.{Fault as AFault}
use Rattle.script_grammar.specs.declared.stop.Stop.{Stop}
use Rattle.script_grammar.specs.declared.stop.Stop.TheVariants.{Bad, Crowded, NoMemory}

-- this holds of the fault; nothing is said where memory ran out, and a checker is never crowded
abbrev pub MatchRefused : (AFault → Type 0) → Stop → Type 0
MatchRefused P (Bad why) = P why
MatchRefused P Crowded = ⊥
MatchRefused P NoMemory = Unit {0}
