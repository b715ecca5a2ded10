use Rattle.std.proofs.Common.{◌≡◌, take}
use Rattle.rsvp_base.proofs.end_name.EndName.copy.Given as goal

abbrev pub invariant-loop-c : goal.invariant-loop-c
invariant-loop-c l = l.list.items ≡ take l.c-index l.c-items
