use Rattle.message_codec.proofs.Bytes.{in_range_spelt}
use Rattle.message_codec.proofs.writing_laws.what_is_in_range_is_spelt.Goals as goal

pub returns : goal.returns
returns c = in_range_spelt
