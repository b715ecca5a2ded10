use Rattle.std.proofs.Common.{◌≡◌, ℕ, take}
use Rattle.std.specs.Prelude.{◌↔◌}
use Rattle.std.specs.Int.{bit_at}
use Rattle.tree_routing.specs.Routes.{IsWay}
use Rattle.tree_routing.proofs.ways.ways_out.Given as goal

-- the interfaces of the hops so far
abbrev pub invariant-loop-hop : goal.invariant-loop-hop
invariant-loop-hop l = (i : ℕ) → (bit_at l.ways i ≡ 1) ↔ IsWay l.ends l.node (take l.hop-index l.hops) i
