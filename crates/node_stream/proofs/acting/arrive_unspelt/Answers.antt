use Rattle.router_rules.specs.Inputs.{Came, Unspelt}
use Rattle.router_rules.specs.Rule.{sent_after}
use Rattle.node_stream.proofs.Doing.{has_done}
use Rattle.node_stream.proofs.Posted.{few_posted}
use Rattle.node_stream.proofs.acting.arrive_unspelt.Goals as goal

pub returns-clause-few : goal.returns-clause-few
returns-clause-few g c =
    let see = g.R.Router.seen in
    let p = see.place c.args.router.now in
    few_posted c.args.out.now c.arrive_unspelt.new.out (sent_after p p 0 (Came c.args.iface c.args.dst (Unspelt c.args.fault.now)) (see.facts c.args.router.now 0)) c.requires.empty
    (c.arrive_unspelt.ensures.sent 0)

pub returns-clause-done : goal.returns-clause-done
returns-clause-done g c = λ t within.
    has_done g.R.Router.seen c.args.router.now c.arrive_unspelt.new.self c.args.limits (Came c.args.iface c.args.dst (Unspelt c.args.fault.now)) c.args.out.now c.arrive_unspelt.new.out c.requires.limits
    c.arrive_unspelt.ensures.place (c.requires.iface, tt) tt c.requires.empty t (c.arrive_unspelt.ensures.facts t) (c.arrive_unspelt.ensures.sent t) within
