use Rattle.std.proofs.Common.{◌≡◌, ◌-◌, ◌≤◌, [], length}
use Rattle.std.specs.Vec.{vec_capacity}
use Rattle.byte_streams.specs.Reading.{most_bytes}
use Rattle.line_advice.specs.Blamed.{most_advice}
use Rattle.load_policer.proofs.Ended.{Progress}
use Rattle.load_policer.proofs.policing.police_to_end.Given as goal

-- the lines up to here were policed, and the verdicts on their packets were written, or wait
abbrev pub invariant-loop-out : goal.invariant-loop-out
invariant-loop-out g l =
    record {
      policed : Progress (g.S.Source.left l.initial.source) (g.S.Source.left l.source) (g.K.Sink.holds l.initial.sink) (g.K.Sink.holds l.sink) l.reader l.standing l.out.items;
      within : l.reader.taken ≤ most_bytes;
      room : 4096 ≤ vec_capacity l.out;
      read : g.S.Source.faults l.initial.source ≤ g.S.Source.faults l.source;
      no_read_fault : g.S.Source.faults l.source ≡ g.S.Source.faults l.initial.source;
      no_write_fault : g.K.Sink.faults l.sink ≡ g.K.Sink.faults l.initial.sink;
      written : g.K.Sink.faults l.initial.sink ≤ g.K.Sink.faults l.sink;
      quiet : l.advice.items ≡ [];
      roomy : most_advice ≤ vec_capacity l.advice;
    }

-- each turn gives a byte at least of those that an input may have
abbrev pub decreases-loop-out : goal.decreases-loop-out
decreases-loop-out g l = most_bytes - (l.reader.taken - length l.reader.bytes)
