use Rattle.std.proofs.Common.{◌≡◌, ◌≤◌, length, vec_capacity, ℕ}
use Rattle.soft_table.specs.Ring.{at}
use Rattle.soft_table.proofs.ring.grow.Given as goal

abbrev pub invariant-loop-more : goal.invariant-loop-more
invariant-loop-more l = record {
  made : length l.links.items ≡ l._more;
  same : (j : ℕ) → at l.links.items j ≡ at l.fn.links.items j;
  more : length l.fn.links.items ≤ length l.links.items;
  capacity : vec_capacity l.links ≡ vec_capacity l.fn.links;
}
