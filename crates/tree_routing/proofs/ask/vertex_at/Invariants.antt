use Rattle.std.proofs.Common.{◌≡◌, ◌+◌, drop}
use Rattle.tree_routing.specs.Known.{first_place, is_pair}
use Rattle.tree_routing.proofs.ask.vertex_at.Given as goal

-- the place is so many behind its first in the rest
abbrev pub invariant-loop-known : goal.invariant-loop-known
invariant-loop-known l =
    record {
      place : l.place ≡ l.known-index;
      rest : l.known-index + first_place (is_pair l.group l.hop) (drop l.known-index l.hops) ≡ first_place (is_pair l.group l.hop) l.hops;
    }
