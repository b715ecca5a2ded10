use Rattle.live_router.proofs.Doing.{bounded_nodes_send_proper_messages}
use Rattle.live_router.proofs.laws.bounded_nodes_send_proper_messages.Goals as goal

pub returns : goal.returns
returns c = bounded_nodes_send_proper_messages
