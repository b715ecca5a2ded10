use Rattle.std.proofs.Common.{◌≡◌, ◌++◌, map, drop}
use Rattle.rsvp_base.specs.Table.{values}
use Rattle.network_demand.proofs.asked.Asked.push_all.Given as goal

-- those so far and the rest are all
abbrev pub invariant-loop-part : goal.invariant-loop-part
invariant-loop-part l = l.self ++ map (λ e. e.1) (drop l.part-index l.part-items) ≡ l.initial.self ++ values l.parts
