use Rattle.std.proofs.Common.{◌≡◌, ◌==◌, drop}
use Rattle.std.specs.Prelude.{not}
use Rattle.std.specs.List.{filter}
use Rattle.tree_model.specs.Networks.{among}
use Rattle.tree_routing.proofs.ask.is_other.Given as goal

-- it is among the rest
abbrev pub invariant-loop-peer : goal.invariant-loop-peer
invariant-loop-peer l = among l.other (filter (λ x. not (x == l.end)) (drop l.peer-index l.link)) ≡ among l.other (filter (λ x. not (x == l.end)) l.link)
