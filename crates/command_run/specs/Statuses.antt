-- The statuses of runs.
use Rattle.std.specs.Prelude.{◌≡◌, ◌⊎◌, ℕ}
use Rattle.script_run.specs.declared.ending.Ending.{Ending}
use Rattle.script_run.specs.declared.ending.Ending.TheVariants as ending
use Rattle.command_run.specs.declared.status.Status.{Status}
use Rattle.command_run.specs.declared.status.Status.TheVariants.{Done, Usage, BadLine, ReadFault, WriteFault, NoMemory, Crowded, TooLong}

-- the exit status
abbrev pub code_of : Status → ℕ
code_of Done = 0
code_of Usage = 1
code_of (BadLine line why) = 2
code_of ReadFault = 3
code_of WriteFault = 4
code_of NoMemory = 5
code_of Crowded = 6
code_of TooLong = 7

-- the status of a run of a script that ended so
abbrev pub status_of : Ending → Status
status_of ending.Done = Done
status_of (ending.BadLine line why) = BadLine line why
status_of ending.ReadFault = ReadFault
status_of ending.WriteFault = WriteFault
status_of ending.NoMemory = NoMemory
status_of ending.Crowded = Crowded
status_of ending.TooLong = TooLong

-- this status, or memory ran out
abbrev pub IsOrNoMemory : Status → Status → Type 0
IsOrNoMemory wanted got = (got ≡ wanted) ⊎ (got ≡ NoMemory)
