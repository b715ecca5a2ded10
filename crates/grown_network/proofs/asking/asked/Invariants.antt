use Rattle.std.proofs.Common.{◌≡◌, take}
use Rattle.std.specs.List.{flat_map}
use Rattle.grown_network.specs.Grown.{local_wants}
use Rattle.grown_network.proofs.asking.asked.Given as goal

-- those of the first wants
abbrev pub invariant-loop-wanted : goal.invariant-loop-wanted
invariant-loop-wanted l = l.all.items ≡ flat_map local_wants (take l.wanted-index l.wants)
