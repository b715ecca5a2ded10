-- Why a line was not taken. What only checks lines is never crowded.
use Rattle.std.specs.Prelude.{◌≡◌}
use Rattle.script_grammar.specs.Draft.{Draft}
use Rattle.script_grammar.specs.Rules.{Closes, Exceeds, Keeps, BreaksFirst}
use Rattle.script_grammar.specs.declared.line.ScriptLine.{ScriptLine}
use Rattle.script_grammar.specs.declared.stop.Stop.{Stop}
use Rattle.script_grammar.specs.declared.stop.Stop.TheVariants.{Bad, Crowded, NoMemory}

-- the first rule that the line breaks is that of the fault
abbrev pub Refuses : Draft → ScriptLine → Stop → Type 0
Refuses d l (Bad why) = BreaksFirst (Keeps d l) (Exceeds d l) (Closes d l) why
Refuses d l Crowded = ⊥
Refuses d l NoMemory = Unit {0}

-- unless memory ran out, the lines so far stay as they were
abbrev pub IsUntouched : Draft → Draft → Stop → Type 0
IsUntouched old new (Bad why) = new ≡ old
IsUntouched old new Crowded = new ≡ old
IsUntouched old new NoMemory = Unit {0}

-- it is for want of memory
abbrev pub OnlyNoMemory : Stop → Type 0
OnlyNoMemory (Bad why) = ⊥
OnlyNoMemory Crowded = ⊥
OnlyNoMemory NoMemory = Unit {0}
