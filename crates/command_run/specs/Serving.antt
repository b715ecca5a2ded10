-- Serving one router over a stream of frames: what was taken of the source, and what was written.
use Rattle.std.specs.Prelude.{◌≡◌, ℕ, ◌≤◌, List, length, Some}
use Rattle.node_stream.specs.Endings.{ComesTo, IsAdvised, IsServed, most_bytes}
use Rattle.node_stream.specs.declared.ending.Ending.{Ending}
use Rattle.node_stream.specs.declared.ending.Ending.TheVariants as ending
use Rattle.command_run.specs.Ran.{HasFailed, Ran}
use Rattle.command_run.specs.Showing.{fault_of}
use Rattle.command_run.specs.Statuses.{IsOrNoMemory}
use Rattle.command_run.specs.declared.status.Status.{Status}
use Rattle.command_run.specs.declared.status.Status.TheVariants.{Done, BadLine, ReadFault, WriteFault, NoMemory, TooLong}

-- the status of a service that ended so; the number of a line is that of a frame
abbrev pub serve_status : Ending → Status
serve_status ending.Done = Done
serve_status (ending.BadFrame frame why) = BadLine frame (fault_of why)
serve_status ending.ReadFault = ReadFault
serve_status ending.WriteFault = WriteFault
serve_status ending.NoMemory = NoMemory
serve_status ending.TooLong = TooLong

pub record Served (r : Ran) : Type 0 where
  -- how it ended, and what it took and wrote then
  pub how : Ending
  pub status : r.status ≡ serve_status how
  pub ending : IsServed how r.source.old r.source.new r.sink.old r.sink.new
  -- over known input: the advice on the bad frame
  pub advised : (bytes : List ℕ) → r.source.old ≡ Some bytes → IsAdvised how bytes r.advice
  -- nothing else ends it over known input and devices that do not fail
  pub complete : (bytes text : List ℕ) (wanted : Ending) → r.source.old ≡ Some bytes → length bytes ≤ most_bytes → ComesTo wanted bytes text
      → (HasFailed r.source → ⊥) → (HasFailed r.sink → ⊥) → IsOrNoMemory (serve_status wanted) r.status
