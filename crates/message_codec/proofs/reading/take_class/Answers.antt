use Rattle.std.proofs.Common.{rules}
use Rattle.rsvp_objects.specs.Classes.{class_with}
use Rattle.message_codec.proofs.Taken.{other_read}
use Rattle.message_codec.proofs.reading.take_class.Goals as goal

pub returns-in_default : goal.returns-in_default
unfolding class_with
returns-in_default g c =
    let read = other_read g.row.N c.args.at c.args.head.ctype c.args.body.now c.requires.known (search rules) (search rules) in
    rw (c.requires.class, c.requires.known, read) (search rules)
