-- Policing a stream of packets: what was taken of the source, and what was written.
use Rattle.std.specs.Prelude.{◌≡◌, ℕ, ◌≤◌, List, length, Some}
use Rattle.byte_streams.specs.Reading.{most_bytes}
use Rattle.load_policer.specs.Advice.{IsAdvised}
use Rattle.load_policer.specs.Endings.{ComesTo, IsPoliced}
use Rattle.load_policer.specs.declared.ending.Ending.{Ending}
use Rattle.load_policer.specs.declared.ending.Ending.TheVariants as ending
use Rattle.command_run.specs.Ran.{HasFailed, Ran}
use Rattle.command_run.specs.Showing.{fault_of}
use Rattle.command_run.specs.Statuses.{IsOrNoMemory}
use Rattle.command_run.specs.declared.status.Status.{Status}
use Rattle.command_run.specs.declared.status.Status.TheVariants.{Done, BadLine, ReadFault, WriteFault, NoMemory, TooLong}

-- the status of policing that ended so
abbrev pub police_status : Ending → Status
police_status ending.Done = Done
police_status (ending.BadLine line why) = BadLine line (fault_of why)
police_status ending.ReadFault = ReadFault
police_status ending.WriteFault = WriteFault
police_status ending.NoMemory = NoMemory
police_status ending.TooLong = TooLong

pub record Policed (r : Ran) : Type 0 where
  -- how it ended, and what it took and wrote then
  pub how : Ending
  pub status : r.status ≡ police_status how
  pub ending : IsPoliced how r.source.old r.source.new r.sink.old r.sink.new
  -- over known input: the advice on the bad line
  pub advised : (bytes : List ℕ) → r.source.old ≡ Some bytes → IsAdvised how bytes r.advice
  -- nothing else ends it over known input and devices that do not fail
  pub complete : (bytes text : List ℕ) (wanted : Ending) → r.source.old ≡ Some bytes → length bytes ≤ most_bytes → ComesTo wanted bytes text
      → (HasFailed r.source → ⊥) → (HasFailed r.sink → ⊥) → IsOrNoMemory (police_status wanted) r.status
