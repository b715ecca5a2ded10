use Rattle.message_codec.proofs.Spelt.{what_is_spelt_is_writable}
use Rattle.message_codec.proofs.writing_laws.what_is_spelt_is_writable.Goals as goal

pub returns : goal.returns
returns c = what_is_spelt_is_writable
