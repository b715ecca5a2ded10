use Rattle.message_codec.proofs.Fitting.{what_is_in_place_stands}
use Rattle.message_codec.proofs.writing_laws.what_is_in_place_stands.Goals as goal

pub returns : goal.returns
returns c = what_is_in_place_stands
