use Rattle.std.proofs.Common.{◌≡◌, ◌≤◌, ◌-◌, List, [], length}
use Rattle.rsvp_objects.specs.declared.object.Object.{Object}
use Rattle.message_codec.specs.Said.{seen_of}
use Rattle.message_codec.specs.Places.{Stand}
use Rattle.message_codec.proofs.reading.walk.Given as goal

abbrev pub invariant-loop-at : goal.invariant-loop-at
invariant-loop-at l = record {
  inside : l.at ≤ length l.bytes;
  so_far : (xs : List Object) × Stand l.kind l.bytes [] 8 xs l.at × (l.seen ≡ seen_of xs);
}

abbrev pub decreases-loop-at : goal.decreases-loop-at
decreases-loop-at l = length l.bytes - l.at
