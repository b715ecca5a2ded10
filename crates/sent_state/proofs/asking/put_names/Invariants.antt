use Rattle.std.proofs.Common.{◌≡◌, take}
use Rattle.sent_state.specs.Listed.{flows_in, flows_with}
use Rattle.sent_state.proofs.asking.put_names.Given as goal

abbrev pub invariant-loop-i : goal.invariant-loop-i
invariant-loop-i l = flows_in l.list ≡ flows_with l.parts (flows_in l.initial.list) (take l.i l.names)
