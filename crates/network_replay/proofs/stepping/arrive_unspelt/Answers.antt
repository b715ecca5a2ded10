use Rattle.router_rules.specs.Inputs.{Came, Unspelt}
use Rattle.router_rules.specs.Rule.{sent_after}
use Rattle.network_replay.proofs.Mailed.{posted_spelt}
use Rattle.network_replay.proofs.stepping.arrive_unspelt.Goals as goal

pub returns-clause-fit : goal.returns-clause-fit
returns-clause-fit g c = λ t.
    let see = g.R.Router.seen in
    let ss = sent_after (see.place c.args.node.now) (see.place c.args.node.now) t (Came c.args.iface c.args.dst (Unspelt c.args.fault.now)) (see.facts c.args.node.now t) in
    posted_spelt c.args.mail.now c.arrive_unspelt-heard.new.out ss c.requires.room (c.arrive_unspelt-heard.ensures.sent t) c.is_full-full.ensures.range (c.arrive_unspelt-heard.ensures.fit t)
