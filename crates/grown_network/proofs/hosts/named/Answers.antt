use Rattle.grown_network.proofs.HostLists.{is_chosen, not_chosen}
use Rattle.grown_network.proofs.hosts.named.Goals.{then-is_named, else-is_named}
use Rattle.grown_network.proofs.hosts.named.Goals as goal

pub loop-i-preserved : goal.loop-i-preserved
loop-i-preserved c = elim c.if-is_named.branch [
  | then-is_named w ↦ is_chosen c.args.word c.args.digit c.loop-i.i c.loop-i.names c.if-is_named.names w.sender_of.result w.insert.result c.loop-i-test.true (cc) w.sender_of.ensures
      (rw w.names-is w.insert.ensures.ok) w.insert.ensures.full c.loop-i.invariant
  | else-is_named w ↦ not_chosen c.args.word c.args.digit c.loop-i.i c.loop-i.names c.if-is_named.names (cc) w.names-is c.loop-i.invariant
]
