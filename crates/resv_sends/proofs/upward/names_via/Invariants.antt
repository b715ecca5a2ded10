use Rattle.std.proofs.Common.{◌≡◌, map as each, take}
use Rattle.rsvp_base.specs.Orders.{senders}
use Rattle.rsvp_base.specs.Sets.{set_of}
use Rattle.rsvp_base.specs.Styles.{name_of}
use Rattle.resv_sends.proofs.upward.names_via.Given as goal

abbrev pub invariant-loop-sender : goal.invariant-loop-sender
invariant-loop-sender l = l.names ≡ set_of {o = senders} (each (name_of l.style) (take l.sender-index l.sender-items))
