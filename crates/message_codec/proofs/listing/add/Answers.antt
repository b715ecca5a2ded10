use Rattle.message_codec.proofs.ReadLists.{size_with_key, had_room}
use Rattle.message_codec.proofs.listing.add.Goals as goal

pub returns : goal.returns
returns c = had_room _ c.insert.result _ _ c.insert.ensures.ok c.insert.ensures.full (size_with_key c.args.senders.now c.args.sender) c.requires
