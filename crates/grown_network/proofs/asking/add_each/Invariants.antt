use Rattle.std.proofs.Common.{◌≡◌, ◌++◌, map as each, take}
use Rattle.rsvp_base.specs.Table.{keys}
use Rattle.rsvp_messages.specs.Units.{only}
use Rattle.grown_network.specs.Asking.{want_of}
use Rattle.grown_network.proofs.asking.add_each.Given as goal

-- with those of the first senders
abbrev pub invariant-loop-sender : goal.invariant-loop-sender
invariant-loop-sender l = l.all.items ≡ l.initial.all.items ++ each (λ x. want_of l.wanted (only x)) (take l.sender-index (keys l.wanted.senders))
