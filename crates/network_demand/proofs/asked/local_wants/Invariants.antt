use Rattle.std.proofs.Common.{◌≡◌, ◌++◌, ℕ, length, drop}
use Rattle.network_demand.specs.Steps.{local_parts, at_node}
use Rattle.network_demand.proofs.asked.local_wants.Given as goal

-- with the rest, each node is asked for all of its wants
abbrev pub invariant-loop-want : goal.invariant-loop-want
invariant-loop-want g l =
    record {
      size : length l.asked.items ≡ l.nodes;
      asked : (n : ℕ) → at_node l.asked.items n ++ local_parts g.S.Style.kind_is l.session l.all n (drop l.want-index l.wants) ≡ local_parts g.S.Style.kind_is l.session l.all n l.wants;
    }
