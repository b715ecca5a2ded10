-- The texts of statuses, as they stand on standard error.
use Rattle.std.specs.Prelude.{ℕ, List, [], ◌++◌, codes}
use Rattle.std.specs.Fmt.{decimal}
use Rattle.value_texts.specs.Texts.{addr_text}
use Rattle.script_grammar.specs.declared.fault.Fault.{Fault}
use Rattle.script_grammar.specs.declared.fault.Fault.TheVariants.{Word, Late, Range, Name, Twice, Style, Limit, NotTree, Over, Loop}
use Rattle.command_run.specs.declared.status.Status.{Status}
use Rattle.command_run.specs.declared.status.Status.TheVariants.{Done, Usage, BadLine, ReadFault, WriteFault, NoMemory, Crowded, TooLong}

-- a loop by its group and the ends of its least hop
abbrev pub fault_text : Fault → List ℕ
fault_text Word = codes "word"
fault_text Late = codes "late"
fault_text Range = codes "range"
fault_text Name = codes "name"
fault_text Twice = codes "twice"
fault_text Style = codes "style"
fault_text Limit = codes "limit"
fault_text NotTree = codes "nottree"
fault_text (Over much) = codes "over"
fault_text (Loop group from to) = codes "loop in " ++ addr_text group ++ codes " through " ++ from ++ codes ">" ++ to

abbrev pub status_text : Status → List ℕ
status_text Done = []
status_text Usage = codes "usage: rsvpd replay|demand|show|grow|node|police [--seed N]"
status_text (BadLine line why) = codes "line " ++ decimal line ++ codes ": " ++ fault_text why
status_text ReadFault = codes "read fault"
status_text WriteFault = codes "write fault"
status_text NoMemory = codes "no memory"
status_text Crowded = codes "crowded"
status_text TooLong = codes "too long"
