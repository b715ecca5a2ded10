use Rattle.message_codec.proofs.Testing.{range_test}
use Rattle.message_codec.proofs.ranges.know_range.Goals as goal

pub returns : goal.returns
returns c = range_test c.args.message.now (record { numbers = c.know_fields.ensures; lists = c.know_lengths.ensures })
