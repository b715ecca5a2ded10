-- Why there is no script.
use Rattle.script_words.specs.declared.fault.LineErr.{LineErr}
use Rattle.script_words.specs.declared.fault.ParseErr.{ParseErr}
use Rattle.script_words.specs.declared.fault.ParseErr.TheVariants.{Line, NoMemory}

-- this holds of the bad line; being out of memory tells nothing
abbrev pub MatchParseErr : (LineErr → Type 0) → ParseErr → Type 0
MatchParseErr P (Line e) = P e
MatchParseErr P NoMemory = Unit {0}
