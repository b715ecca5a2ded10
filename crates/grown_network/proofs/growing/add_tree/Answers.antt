use Rattle.std.proofs.Common.{◌∙◌}
use Rattle.tree_model.specs.declared.hops.LinkHop.{LinkHop}
use Rattle.grown_network.proofs.HopLists.{always_of_tree, has_room, never_a_loop}
use Rattle.grown_network.proofs.growing.add_tree.Goals as goal

abbrev no_hop : LinkHop
no_hop = record { from = 0; to = 0 }

pub add_hop-requires : goal.add_hop-requires
add_hop-requires c =
    has_room c.args.topology.now c.args.sender.now c.requires.home c.requires.takes c.as_slice-hop-items.result.now
    (c.as_slice-hop-items.ensures.value ∙ c.in_ok-hops.ensures) c.loop-hop.hop-index no_hop c.loop-hop-test.true c.loop-hop.topology c.loop-hop.invariant

pub unreachable-requires : goal.unreachable-requires
unreachable-requires c =
    always_of_tree c.args.topology.now c.args.sender.now c.requires.home c.requires.takes c.as_slice-hop-items.result.now
    (c.as_slice-hop-items.ensures.value
    ∙ c.in_ok-hops.ensures) c.loop-hop.hop-index no_hop c.loop-hop-test.true c.loop-hop.topology c.loop-hop.invariant c.in-Err-NotTree.field-0 c.in-Err-NotTree.field-0-is
    c.in-Err-NotTree.ensures.answer

pub unreachable-requires-in-Err-Loop : goal.unreachable-requires-in-Err-Loop
unreachable-requires-in-Err-Loop c =
    never_a_loop c.args.topology.now c.args.sender.now c.requires.home c.requires.takes c.as_slice-hop-items.result.now
    (c.as_slice-hop-items.ensures.value
    ∙ c.in_ok-hops.ensures) c.loop-hop.hop-index no_hop c.loop-hop-test.true c.loop-hop.topology c.loop-hop.invariant c.in-Err-Loop.field-0 c.in-Err-Loop.field-0-0 c.in-Err-Loop.field-0-1
    c.in-Err-Loop.field-0-2 c.in-Err-Loop.field-0-is c.in-Err-Loop.ensures.answer
