use Rattle.rsvp_objects.proofs.Lists.{marked_follow}
use Rattle.rsvp_objects.proofs.fragments.mark.Goals as goal

pub returns-then-due-gt0 : goal.returns-then-due-gt0
returns-then-due-gt0 c = λ ws. marked_follow c.args.due c.args.word ws c.if-due-gt0.true
