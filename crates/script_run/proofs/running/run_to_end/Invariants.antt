use Rattle.std.proofs.Common.{◌≡◌, ◌-◌, ◌≤◌, [], length}
use Rattle.std.specs.Vec.{vec_capacity}
use Rattle.byte_streams.specs.Reading.{most_bytes}
use Rattle.line_advice.specs.Blamed.{most_advice}
use Rattle.script_run.proofs.Ended.{Progress}
use Rattle.script_run.proofs.Shown.{BothStand}
use Rattle.script_run.proofs.running.run_to_end.Given as goal

-- the lines up to here were run, what they wrote was written, and all that there is to be seen of them was shown
abbrev pub invariant-loop-advice : goal.invariant-loop-advice
invariant-loop-advice g l =
    record {
      played : Progress (BothStand g.P.Player.stands g.W.Watch.saw l.initial.watch) (g.S.Source.left l.initial.source) (g.S.Source.left l.source) (g.K.Sink.holds l.initial.sink)
          (g.K.Sink.holds l.sink) l.reader (l.player, l.watch);
      read : g.S.Source.faults l.initial.source ≤ g.S.Source.faults l.source;
      no_read_fault : g.S.Source.faults l.source ≡ g.S.Source.faults l.initial.source;
      no_write_fault : g.K.Sink.faults l.sink ≡ g.K.Sink.faults l.initial.sink;
      written : g.K.Sink.faults l.initial.sink ≤ g.K.Sink.faults l.sink;
      quiet : l.advice.items ≡ [];
      roomy : most_advice ≤ vec_capacity l.advice;
    }

-- each turn gives a byte at least of those that an input may have
abbrev pub decreases-loop-advice : goal.decreases-loop-advice
decreases-loop-advice g l = most_bytes - (l.reader.taken - length l.reader.bytes)
