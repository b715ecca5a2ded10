use Rattle.router_rules.specs.Inputs.{Came, Spelt}
use Rattle.router_rules.specs.Rule.{sent_after}
use Rattle.node_stream.proofs.Doing.{has_done}
use Rattle.node_stream.proofs.Posted.{few_posted}
use Rattle.node_stream.proofs.Units.{few_units}
use Rattle.node_stream.proofs.acting.arrive.Goals as goal

pub returns-clause-few : goal.returns-clause-few
returns-clause-few g c =
    let see = g.R.Router.seen in
    let p = see.place c.args.router.now in
    few_posted c.args.out.now c.arrive.new.out (sent_after p p 0 (Came c.args.iface c.args.dst (Spelt c.args.message.now)) (see.facts c.args.router.now 0)) c.requires.empty (c.arrive.ensures.sent 0)

pub returns-clause-done : goal.returns-clause-done
returns-clause-done g c = λ t within.
    has_done g.R.Router.seen c.args.router.now c.arrive.new.self c.args.limits (Came c.args.iface c.args.dst (Spelt c.args.message.now)) c.args.out.now c.arrive.new.out c.requires.limits c.arrive.ensures.place
    (c.requires.iface, c.requires.proper) (few_units c.args.message.now c.know_range.ensures) c.requires.empty t (c.arrive.ensures.facts t) (c.arrive.ensures.sent t) within
