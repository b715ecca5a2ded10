use Rattle.std.proofs.Common.{◌≡◌, ◌≤◌, ◌-◌, List, Option, length}
use Rattle.rsvp_objects.specs.declared.object.Object.{Object}
use Rattle.message_codec.specs.Hints.{Follow, hint_of}
use Rattle.message_codec.proofs.hinting.hint.Given as goal

abbrev pub invariant-loop-at : goal.invariant-loop-at
invariant-loop-at l = record {
  inside : l.at ≤ length l.bytes;
  so_far : (ys : List (Option Object)) × Follow l.bytes 8 ys l.at × (l.hint ≡ hint_of ys);
}

abbrev pub decreases-loop-at : goal.decreases-loop-at
decreases-loop-at l = length l.bytes - l.at
