use Rattle.std.proofs.Common.{◌-◌, ◌<◌, ◌≤◌, ◌≡◌, length}
use Rattle.std.specs.Io.KnownBytes.{Consumes}
use Rattle.std.specs.Vec.{vec_capacity}
use Rattle.node_stream.specs.Frames.{IsFront}
use Rattle.node_stream.proofs.reading.read_frame.Given as goal

-- what came so far is what was taken, and no more than a frame
abbrev pub invariant-loop-most : goal.invariant-loop-most
invariant-loop-most g l =
    record {
      took : Consumes (g.S.Source.left l.initial.source) (g.S.Source.left l.source) l.frame.items;
      no_more : IsFront l.frame.items;
      few : length l.frame.items ≤ l.most;
      room : 65538 ≤ vec_capacity l.frame;
      some : 0 < length l.piece;
      piece : length l.piece ≡ length l.initial.piece;
      later : g.S.Source.faults l.initial.source ≤ g.S.Source.faults l.source;
      no_fault : g.S.Source.faults l.source ≡ g.S.Source.faults l.initial.source;
    }

-- each turn takes a byte at least
abbrev pub decreases-loop-most : goal.decreases-loop-most
decreases-loop-most g l = 65538 - length l.frame.items
