use Rattle.message_codec.proofs.Testing.{range_is_known}
use Rattle.message_codec.proofs.writing_laws.in_range_is_what_types_know.Goals as goal

pub returns : goal.returns
returns c = range_is_known
