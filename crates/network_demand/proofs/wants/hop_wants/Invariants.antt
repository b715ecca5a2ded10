use Rattle.std.proofs.Common.{◌≡◌, ℕ, length, take}
use Rattle.network_demand.specs.Asked.{locals_of}
use Rattle.network_demand.specs.Steps.{hops_in, asked_at, at_node, hop_wants}
use Rattle.network_demand.proofs.wants.hop_wants.Given as goal

-- the wants so far, and what is asked by them
abbrev pub invariant-loop-one : goal.invariant-loop-one
invariant-loop-one g l =
    record {
      size : length l.asked.items ≡ l.routing.nodes;
      asked : (n : ℕ) → at_node l.asked.items n ≡ asked_at g.S.Style.kind_is l.routing (locals_of l.locals) l.session (hops_in l.session.group (take l.one-index l.order)) n;
      all : l.all.items ≡ hop_wants g.S.Style.kind_is l.routing (locals_of l.locals) l.session (take l.one-index l.order);
    }
