use Rattle.std.proofs.Common.{◌≡◌, ◌++◌, drop}
use Rattle.std.specs.List.{flat_map}
use Rattle.network_demand.specs.Asked.{locals_of}
use Rattle.script_demand.specs.Texts.{stray_text}
use Rattle.script_demand.proofs.stray_lines.put_stray_wants.Given as goal

-- what is written and what the rest writes is the whole text
abbrev pub invariant-loop-asker : goal.invariant-loop-asker
invariant-loop-asker l = l.out.items ++ flat_map (stray_text l.nodes (locals_of l.locals)) (drop l.asker-index l.askers) ≡ l.fn.out.items ++ flat_map (stray_text l.nodes (locals_of l.locals)) l.askers
