use Rattle.std.proofs.Common.{◌≡◌, take}
use Rattle.rsvp_base.specs.Sets.{cut, set_of}
use Rattle.sent_state.proofs.Listing.{names_gone}
use Rattle.sent_state.proofs.asking.gone_among.Given as goal

abbrev pub invariant-loop-i : goal.invariant-loop-i
invariant-loop-i l = l.names ≡ cut (set_of (names_gone l.after (take l.i l.rows))) l.among
