use Rattle.std.proofs.Common.{◌≡◌, ◌||◌, drop}
use Rattle.tree_routing.specs.Marks.{pass, moves}
use Rattle.tree_routing.proofs.marks.carry_all.Given as goal

-- what is done so far and what the rest does is the whole pass
abbrev pub invariant-loop-hop : goal.invariant-loop-hop
invariant-loop-hop l =
    record {
      marks : pass (drop l.hop-index l.hops) l.marks ≡ pass l.hops l.initial.marks;
      told : (l.moved || moves (drop l.hop-index l.hops) l.marks) ≡ moves l.hops l.initial.marks;
    }
