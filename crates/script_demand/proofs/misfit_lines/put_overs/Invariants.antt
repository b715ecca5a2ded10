use Rattle.std.proofs.Common.{◌≡◌, ◌++◌, drop}
use Rattle.std.specs.List.{flat_map}
use Rattle.script_demand.specs.Texts.{over_text}
use Rattle.script_demand.proofs.misfit_lines.put_overs.Given as goal

-- what is written and what the rest writes is the whole text
abbrev pub invariant-loop-end : goal.invariant-loop-end
invariant-loop-end l = l.out.items ++ flat_map (over_text l.nodes l.names l.ends l.found) (drop l.end-index l.found.misfits.over.items) ≡ l.fn.out.items ++ flat_map (over_text l.nodes l.names l.ends l.found) l.found.misfits.over.items
