use Rattle.std.proofs.Common.{◌≡◌, length}
use Rattle.rsvp_objects.specs.Form.{words_in}
use Rattle.rsvp_objects.specs.Fragment.{more_in, behind_in}
use Rattle.rsvp_objects.proofs.walk.fragments.Given as goal

abbrev pub invariant-loop-rest : goal.invariant-loop-rest
invariant-loop-rest l = more_in l.walk.due l.walk.load l.walk.kept.items (words_in l.rest) ≡ behind_in (words_in l.bytes)

abbrev pub decreases-loop-rest : goal.decreases-loop-rest
decreases-loop-rest l = length l.rest
