use Rattle.std.proofs.Common.{◌≡◌, drop}
use Rattle.tree_model.specs.Networks.{owner}
use Rattle.tree_routing.proofs.ask.owner.Given as goal

-- the end is among the rest
abbrev pub invariant-loop-end : goal.invariant-loop-end
invariant-loop-end l = owner (drop l.end-index l.ends) l.address ≡ owner l.ends l.address
