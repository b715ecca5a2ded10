use Rattle.std.proofs.Common.{◌≡◌, map, take}
use Rattle.network_demand.specs.Asked.{locals_of}
use Rattle.network_demand.specs.Askers.{asking, what_it_asks}
use Rattle.network_demand.proofs.askers.askers.Given as goal

-- those so far
abbrev pub invariant-loop-want : goal.invariant-loop-want
invariant-loop-want l = map what_it_asks l.all.items ≡ map (asking l.routing (locals_of l.locals)) (take l.want-index l.locals.wants.items)
