use Rattle.std.proofs.Common.{◌≡◌, ◌≤◌, ◌+◌, ◌-◌, vec_len}
use Rattle.std.specs.Io.KnownBytes.{Consumes}
use Rattle.byte_streams.specs.Reading.{most_bytes}
use Rattle.byte_streams.proofs.reading.read_all.Given as goal

-- what was read so far is what was taken
abbrev pub invariant-loop-bytes : goal.invariant-loop-bytes
invariant-loop-bytes g l =
    record {
      taken : Consumes (g.S.Source.left l.initial.source) (g.S.Source.left l.source) l.bytes.items;
      short : vec_len l.bytes ≤ most_bytes;
      later : g.S.Source.faults l.initial.source ≤ g.S.Source.faults l.source;
      no_fault : g.S.Source.faults l.source ≡ g.S.Source.faults l.initial.source;
    }

-- each turn takes a byte at least
abbrev pub decreases-loop-bytes : goal.decreases-loop-bytes
decreases-loop-bytes g l = most_bytes + 1 - vec_len l.bytes
