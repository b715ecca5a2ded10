use Rattle.std.proofs.Common.{◌≡◌, ◌≤◌, drop}
use Rattle.byte_streams.specs.Devices.{least_for}
use Rattle.byte_streams.proofs.memory.least_for.Given as goal

-- the entries to come cut what is left to what all of them cut the whole to
abbrev pub invariant-loop-number : goal.invariant-loop-number
invariant-loop-number l =
    record {
      rest : least_for (drop l.number-index l.short) l.call l.least ≡ least_for l.short l.call l.most;
      at_most : l.least ≤ l.most;
    }
