use Rattle.std.proofs.Common.{◌≡◌, take}
use Rattle.rsvp_base.specs.Sets.{with_keys}
use Rattle.resv_sends.proofs.units.Units.add_all.Given as goal

abbrev pub invariant-loop-i : goal.invariant-loop-i
invariant-loop-i l = l.self ≡ with_keys l.initial.self (take l.i l.list)
