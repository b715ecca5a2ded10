use Rattle.std.proofs.Common.{◌≡◌, ◌++◌, drop}
use Rattle.std.specs.List.{flat_map}
use Rattle.script_demand.specs.Texts.{clash_text}
use Rattle.script_demand.proofs.misfit_lines.put_clashes.Given as goal

-- what is written and what the rest writes is the whole text
abbrev pub invariant-loop-session : goal.invariant-loop-session
invariant-loop-session l = l.out.items ++ flat_map (clash_text l.nodes l.names l.found) (drop l.session-index l.found.misfits.clashing.items) ≡ l.fn.out.items ++ flat_map (clash_text l.nodes l.names l.found) l.found.misfits.clashing.items
