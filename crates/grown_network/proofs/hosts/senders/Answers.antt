use Rattle.grown_network.proofs.HostLists.{senders_pushed, session_words}
use Rattle.grown_network.proofs.hosts.senders.Goals as goal

pub returns : goal.returns
returns c =
    let words = session_words c.args.seed c.new-words.result.state c.next.new.self.state c.next-2.new.self.state c.next-3.new.self.state c.next.result c.next-2.result c.next-3.result
    c.new-words.ensures c.next.ensures.state c.next.ensures.word c.next-2.ensures.state c.next-2.ensures.word c.next-3.ensures.state c.next-3.ensures.word in
    senders_pushed c.args.seed c.next.result c.next-2.result c.next-3.result c.new-all.result.items c.add_senders.new.all.items c.add_senders-2.new.all.items c.add_senders-3.new.all.items
    c.new-all.ensures.items words.0 c.in_ok-add_senders.ensures c.in_ok-add_senders-2.ensures c.in_ok-add_senders-3.ensures
