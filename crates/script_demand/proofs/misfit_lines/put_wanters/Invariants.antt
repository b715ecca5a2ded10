use Rattle.std.proofs.Common.{◌≡◌, ◌++◌, drop}
use Rattle.std.specs.List.{flat_map}
use Rattle.script_demand.specs.Texts.{wanter_line}
use Rattle.script_demand.proofs.misfit_lines.put_wanters.Given as goal

-- what is written and what the rest writes is the whole text
abbrev pub invariant-loop-asker : goal.invariant-loop-asker
invariant-loop-asker l = l.out.items ++ flat_map (wanter_line l.nodes l.session) (drop l.asker-index l.askers) ≡ l.fn.out.items ++ flat_map (wanter_line l.nodes l.session) l.askers
