use Rattle.grown_network.proofs.HostLists.{sender_pushed}
use Rattle.grown_network.proofs.hosts.add_senders.Goals as goal

pub loop-i-preserved : goal.loop-i-preserved
loop-i-preserved c = sender_pushed c.args.style c.args.word c.loop-i.i c.args.all.now.items c.loop-i.all.items c.push.new.self.items c.sender_node.result c.session_of.result c.sender_of.result
    c.sender_node.ensures.value c.session_of.ensures c.sender_of.ensures c.loop-i.invariant c.in_ok-push.ensures.items
