use Rattle.std.proofs.Common.{◌≡◌, ◌++◌, codes, drop}
use Rattle.std.specs.Fmt.{decimal}
use Rattle.std.specs.List.{flat_map}
use Rattle.script_events.proofs.flights.put_others.Given as goal

-- what is written and what the rest writes is the whole text
abbrev pub invariant-loop-id : goal.invariant-loop-id
invariant-loop-id l = l.out.items ++ flat_map (λ n. codes "," ++ decimal n) (drop l.id-index l.others) ≡ l.fn.out.items ++ flat_map (λ n. codes "," ++ decimal n) l.others
