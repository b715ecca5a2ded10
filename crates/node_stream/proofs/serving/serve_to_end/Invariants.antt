use Rattle.std.proofs.Common.{◌≡◌, ◌-◌, ◌≤◌, [], length}
use Rattle.std.specs.Vec.{vec_capacity}
use Rattle.line_advice.specs.Blamed.{most_advice}
use Rattle.node_stream.specs.Endings.{most_at_once, most_bytes}
use Rattle.node_stream.proofs.Going.{Going}
use Rattle.node_stream.proofs.serving.serve_to_end.Given as goal

-- the frames up to here were served, and their answers were written
abbrev pub invariant-loop-frame : goal.invariant-loop-frame
invariant-loop-frame g l =
    record {
      going : Going g.R.Router.seen (g.S.Source.left l.initial.source) (g.S.Source.left l.source) (g.K.Sink.holds l.initial.sink) (g.K.Sink.holds l.sink) l.router l.limits l.taken l.number;
      within : l.taken ≤ most_bytes;
      room : 65538 ≤ vec_capacity l.frame;
      piece : length l.piece ≡ most_at_once;
      read : g.S.Source.faults l.initial.source ≤ g.S.Source.faults l.source;
      no_read_fault : g.S.Source.faults l.source ≡ g.S.Source.faults l.initial.source;
      no_write_fault : g.K.Sink.faults l.sink ≡ g.K.Sink.faults l.initial.sink;
      written : g.K.Sink.faults l.initial.sink ≤ g.K.Sink.faults l.sink;
      quiet : l.advice.items ≡ [];
      roomy : most_advice ≤ vec_capacity l.advice;
    }

-- each turn takes three bytes at least of those that a stream may have
abbrev pub decreases-loop-frame : goal.decreases-loop-frame
decreases-loop-frame g l = most_bytes - l.taken
