use Rattle.rsvp_objects.proofs.AdspecReadProper.{what_is_read_can_be_written}
use Rattle.rsvp_objects.proofs.field_laws.what_is_read_can_be_written.Goals as goal

pub returns : goal.returns
returns c = what_is_read_can_be_written
