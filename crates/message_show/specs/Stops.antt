-- Why showing stops at a line.
use Rattle.script_words.specs.declared.fault.LineWhy.{LineWhy}
use Rattle.message_show.specs.declared.stop.Stop.{Stop}
use Rattle.message_show.specs.declared.stop.Stop.TheVariants.{Bad, NoMemory}

-- this holds of the fault; want of memory tells nothing
abbrev pub MatchStop : (LineWhy → Type 0) → Stop → Type 0
MatchStop P (Bad why) = P why
MatchStop P NoMemory = Unit {0}
