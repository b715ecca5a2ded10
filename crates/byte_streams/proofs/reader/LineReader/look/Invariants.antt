use Rattle.std.proofs.Common.{◌≡◌, ◌+◌, ◌-◌, ◌++◌, ◌≤◌, ℕ, List, None, length}
use Rattle.std.specs.Io.KnownBytes.{Consumes, Keeps, prepend_known}
use Rattle.byte_streams.specs.Streams.{HasFeed, IsCounted}
use Rattle.byte_streams.proofs.reader.LineReader.look.Given as goal

-- what was taken moved, and nothing of it was given
abbrev pub invariant-loop-self : goal.invariant-loop-self
invariant-loop-self g l =
    record {
      kept : Keeps (prepend_known l.initial.self.bytes (g.S.Source.left l.initial.source)) (prepend_known l.self.bytes (g.S.Source.left l.source));
      later : g.S.Source.faults l.initial.source ≤ g.S.Source.faults l.source;
      no_fault : g.S.Source.faults l.source ≡ g.S.Source.faults l.initial.source;
      counted : IsCounted (g.S.Source.left l.initial.source) (g.S.Source.left l.source) l.initial.self.taken l.self.taken;
      moved : (bs : List ℕ) × Consumes (g.S.Source.left l.initial.source) (g.S.Source.left l.source) bs × (l.self.taken ≡ l.initial.self.taken + length bs)
          × (l.self.bytes ≡ l.initial.self.bytes ++ bs);
      numbered : l.self.number ≡ l.initial.self.number;
      going : l.self.ended ≡ None;
      asked : HasFeed l.initial.self.bytes → (l.self.bytes ≡ l.initial.self.bytes) × (l.source ≡ l.initial.source);
    }

-- each turn takes a byte at least
abbrev pub decreases-loop-self : goal.decreases-loop-self
decreases-loop-self g l = 2049 - length l.self.bytes
