use Rattle.tree_model.proofs.TreeLaws.{true_false}
use Rattle.tree_routing.proofs.LinkLaws.{takes_tested}
use Rattle.tree_routing.proofs.topology.Topology.takes_link_of.Goals as goal

pub returns-then-has_room_for_link_of : goal.returns-then-has_room_for_link_of
returns-then-has_room_for_link_of c =
    takes_tested c.args.self.now c.args.ends.now (c.has_room_for_link_of.ensures.0 c.if-has_room_for_link_of.true) c.can_be_linked.result c.can_be_linked.ensures

pub returns-else-has_room_for_link_of : goal.returns-else-has_room_for_link_of
returns-else-has_room_for_link_of c =
    (λ t. absurd (true_false _ t c.if-has_room_for_link_of.false), λ takes. c.has_room_for_link_of.ensures.1 (takes.some, takes.few, takes.room))
