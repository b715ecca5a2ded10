use Rattle.std.proofs.Common.{◌≡◌, length}
use Rattle.rsvp_base.specs.Sets.{with_keys}
use Rattle.rsvp_objects.specs.Contents.{sources_in, scope_in}
use Rattle.rsvp_objects.proofs.contents.scope.Given as goal

abbrev pub invariant-loop-rest : goal.invariant-loop-rest
invariant-loop-rest l = with_keys l.senders (sources_in l.rest) ≡ scope_in l.body

abbrev pub decreases-loop-rest : goal.decreases-loop-rest
decreases-loop-rest l = length l.rest
