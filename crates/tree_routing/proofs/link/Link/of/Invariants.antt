use Rattle.std.proofs.Common.{◌≡◌, [], drop, length}
use Rattle.tree_routing.specs.Answers.{put_numbers}
use Rattle.tree_routing.proofs.link.Link.of.Given as goal

-- the rest goes among those that were put in order
abbrev pub invariant-loop-end : goal.invariant-loop-end
invariant-loop-end l =
    record {
      count : length l.sorted.items ≡ l.end-index;
      rest : put_numbers l.sorted.items (drop l.end-index l.ends) ≡ put_numbers [] l.ends;
    }
