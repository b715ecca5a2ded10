use Rattle.std.proofs.Common.{◌≡◌, subst}
use Rattle.std.specs.Prelude.{fold}
use Rattle.router_rules.specs.Inputs.{Arrival, Came, Spelt, Unspelt}
use Rattle.router_rules.specs.Rule.{facts_after, heard_after, sent_after}
use Rattle.network_replay.specs.Following.{AreSpelt}
use Rattle.network_replay.specs.Posting.{with_post}
use Rattle.network_replay.proofs.Heard.{read_as, unread_as}
use Rattle.network_replay.proofs.Mailed.{posted_wires}
use Rattle.network_replay.proofs.stepping.take_in.Goals as goal

pub returns-in-Ok-clause-facts : goal.returns-in-Ok-clause-facts
returns-in-Ok-clause-facts g c = λ t a is.
    let see = g.R.Router.seen in
    subst (λ (x : Arrival). see.facts c.arrive.new.node t ≡ facts_after (see.place c.args.node.now) (see.place c.args.node.now) t (Came c.args.iface c.args.dst x) (see.facts c.args.node.now t))
    (read_as c.args.bytes.now c.decode-read.result c.decode-read.ensures.only c.decode-read.ensures.first c.in-Ok.message c.in-Ok.is a is) (c.arrive.ensures.facts t)

pub returns-in-Ok-clause-heard : goal.returns-in-Ok-clause-heard
returns-in-Ok-clause-heard g c = λ t a is.
    let see = g.R.Router.seen in
    subst (λ (x : Arrival). c.arrive.result ≡ heard_after (see.place c.args.node.now) t c.args.iface c.args.dst x (see.facts c.args.node.now t))
    (read_as c.args.bytes.now c.decode-read.result c.decode-read.ensures.only c.decode-read.ensures.first c.in-Ok.message c.in-Ok.is a is) (c.arrive.ensures.heard t)

pub returns-in-Ok-clause-sent : goal.returns-in-Ok-clause-sent
returns-in-Ok-clause-sent g c = λ t a is.
    let see = g.R.Router.seen in
    subst (λ (x : Arrival). c.arrive.new.mail ≡ fold with_post c.args.mail.now (sent_after (see.place c.args.node.now) (see.place c.args.node.now) t (Came c.args.iface c.args.dst x)
    (see.facts c.args.node.now t))) (read_as c.args.bytes.now c.decode-read.result c.decode-read.ensures.only c.decode-read.ensures.first c.in-Ok.message c.in-Ok.is a is) (c.arrive.ensures.sent t)

pub returns-in-Ok-clause-fit : goal.returns-in-Ok-clause-fit
returns-in-Ok-clause-fit g c = λ t a is.
    let see = g.R.Router.seen in
    subst (λ (x : Arrival). AreSpelt (sent_after (see.place c.args.node.now) (see.place c.args.node.now) t (Came c.args.iface c.args.dst x) (see.facts c.args.node.now t)))
    (read_as c.args.bytes.now c.decode-read.result c.decode-read.ensures.only c.decode-read.ensures.first c.in-Ok.message c.in-Ok.is a is) (c.arrive.ensures.fit t)

pub returns-in-Ok-clause-net : goal.returns-in-Ok-clause-net
returns-in-Ok-clause-net g c =
    let see = g.R.Router.seen in
    posted_wires c.args.mail.now c.arrive.new.mail (sent_after (see.place c.args.node.now) (see.place c.args.node.now) 0 (Came c.args.iface c.args.dst (Spelt c.in-Ok.message))
    (see.facts c.args.node.now 0)) c.wires-wires.ensures.most (c.arrive.ensures.sent 0)

pub returns-in-Err-clause-facts : goal.returns-in-Err-clause-facts
returns-in-Err-clause-facts g c = λ t a is.
    let see = g.R.Router.seen in
    subst (λ (x : Arrival). see.facts c.arrive_unspelt.new.node t ≡ facts_after (see.place c.args.node.now) (see.place c.args.node.now) t (Came c.args.iface c.args.dst x)
    (see.facts c.args.node.now t)) (unread_as c.args.bytes.now c.decode-read.result c.decode-read.ensures.only c.decode-read.ensures.first c.in-Err.fault c.in-Err.is a is)
    (c.arrive_unspelt.ensures.facts t)

pub returns-in-Err-clause-heard : goal.returns-in-Err-clause-heard
returns-in-Err-clause-heard g c = λ t a is.
    let see = g.R.Router.seen in
    subst (λ (x : Arrival). c.arrive_unspelt.result ≡ heard_after (see.place c.args.node.now) t c.args.iface c.args.dst x (see.facts c.args.node.now t))
    (unread_as c.args.bytes.now c.decode-read.result c.decode-read.ensures.only c.decode-read.ensures.first c.in-Err.fault c.in-Err.is a is) (c.arrive_unspelt.ensures.heard t)

pub returns-in-Err-clause-sent : goal.returns-in-Err-clause-sent
returns-in-Err-clause-sent g c = λ t a is.
    let see = g.R.Router.seen in
    subst (λ (x : Arrival). c.arrive_unspelt.new.mail ≡ fold with_post c.args.mail.now (sent_after (see.place c.args.node.now) (see.place c.args.node.now) t (Came c.args.iface c.args.dst x)
    (see.facts c.args.node.now t))) (unread_as c.args.bytes.now c.decode-read.result c.decode-read.ensures.only c.decode-read.ensures.first c.in-Err.fault c.in-Err.is a is)
    (c.arrive_unspelt.ensures.sent t)

pub returns-in-Err-clause-fit : goal.returns-in-Err-clause-fit
returns-in-Err-clause-fit g c = λ t a is.
    let see = g.R.Router.seen in
    subst (λ (x : Arrival). AreSpelt (sent_after (see.place c.args.node.now) (see.place c.args.node.now) t (Came c.args.iface c.args.dst x) (see.facts c.args.node.now t)))
    (unread_as c.args.bytes.now c.decode-read.result c.decode-read.ensures.only c.decode-read.ensures.first c.in-Err.fault c.in-Err.is a is) (c.arrive_unspelt.ensures.fit t)

pub returns-in-Err-clause-net : goal.returns-in-Err-clause-net
returns-in-Err-clause-net g c =
    let see = g.R.Router.seen in
    posted_wires c.args.mail.now c.arrive_unspelt.new.mail (sent_after (see.place c.args.node.now) (see.place c.args.node.now) 0 (Came c.args.iface c.args.dst (Unspelt c.in-Err.fault))
    (see.facts c.args.node.now 0)) c.wires-wires.ensures.most (c.arrive_unspelt.ensures.sent 0)
