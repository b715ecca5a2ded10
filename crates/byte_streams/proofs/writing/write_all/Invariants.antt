use Rattle.std.proofs.Common.{◌≡◌, ◌≤◌, ◌-◌, length, take}
use Rattle.std.specs.Io.KnownBytes.{Appends}
use Rattle.byte_streams.proofs.writing.write_all.Given as goal

-- the front up to here was appended
abbrev pub invariant-loop-done : goal.invariant-loop-done
invariant-loop-done g l =
    record {
      front : Appends (g.K.Sink.holds l.initial.sink) (g.K.Sink.holds l.sink) (take l.done l.bytes);
      within : l.done ≤ length l.bytes;
      no_fault : g.K.Sink.faults l.sink ≡ g.K.Sink.faults l.initial.sink;
      later : g.K.Sink.faults l.initial.sink ≤ g.K.Sink.faults l.sink;
    }

abbrev pub decreases-loop-done : goal.decreases-loop-done
decreases-loop-done g l = length l.bytes - l.done
