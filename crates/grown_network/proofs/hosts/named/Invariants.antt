use Rattle.std.proofs.Common.{◌≡◌, map as each}
use Rattle.std.specs.List.{filter, range_with_len}
use Rattle.rsvp_base.specs.Sets.{set_of}
use Rattle.grown_network.specs.Hosts.{is_named, sender_of}
use Rattle.grown_network.proofs.hosts.named.Given as goal

abbrev pub invariant-loop-i : goal.invariant-loop-i
invariant-loop-i l = l.names ≡ set_of (each (sender_of l.word) (filter (is_named l.digit) (range_with_len 0 l.i)))
