use Rattle.std.proofs.Common.{◌≡◌, vec_capacity}
use Rattle.soft_table.specs.Links.{AreHeads}
use Rattle.soft_table.proofs.slot_lists.put_heads.Given as goal

abbrev pub invariant-loop-list : goal.invariant-loop-list
invariant-loop-list l = AreHeads l.list l.links.items × (vec_capacity l.links ≡ vec_capacity l.fn.links)
