use Rattle.std.proofs.Common.{◌≡◌, ◌++◌, drop}
use Rattle.std.specs.List.{flat_map}
use Rattle.script_demand.specs.Texts.{idle_text}
use Rattle.script_demand.proofs.stray_lines.put_idle.Given as goal

-- what is written and what the rest writes is the whole text
abbrev pub invariant-loop-place : goal.invariant-loop-place
invariant-loop-place l = l.out.items ++ flat_map (idle_text l.nodes l.senders) (drop l.place-index l.idle) ≡ l.fn.out.items ++ flat_map (idle_text l.nodes l.senders) l.idle
