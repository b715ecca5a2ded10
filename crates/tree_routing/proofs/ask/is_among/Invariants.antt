use Rattle.std.proofs.Common.{◌≡◌, drop}
use Rattle.tree_model.specs.Networks.{among}
use Rattle.tree_routing.proofs.ask.is_among.Given as goal

-- it is among the rest
abbrev pub invariant-loop-other : goal.invariant-loop-other
invariant-loop-other l = among l.end (drop l.other-index l.link) ≡ among l.end l.link
