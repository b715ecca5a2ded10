use Rattle.message_codec.proofs.Whole.{each_object_is_in_place}
use Rattle.message_codec.proofs.laws.each_object_is_in_place.Goals as goal

pub returns : goal.returns
returns c = each_object_is_in_place
