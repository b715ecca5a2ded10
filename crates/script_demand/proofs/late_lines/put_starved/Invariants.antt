use Rattle.std.proofs.Common.{◌≡◌, ◌++◌, drop}
use Rattle.std.specs.List.{flat_map}
use Rattle.script_demand.specs.Texts.{starved_in}
use Rattle.script_demand.proofs.late_lines.put_starved.Given as goal

-- what is written and what the rest writes is the whole text
abbrev pub invariant-loop-one : goal.invariant-loop-one
invariant-loop-one l = l.out.items ++ flat_map (starved_in l.nodes l.names l.session) (drop l.one-index l.starved) ≡ l.fn.out.items ++ flat_map (starved_in l.nodes l.names l.session) l.starved
