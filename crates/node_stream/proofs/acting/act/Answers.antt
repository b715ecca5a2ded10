use Rattle.std.proofs.Common.{Some, subst}
use Rattle.node_stream.specs.Rules.{IsInRange}
use Rattle.node_stream.specs.declared.frame.Frame.{Frame}
use Rattle.node_stream.proofs.acting.act.Goals as goal

pub come-requires-clause-iface : goal.come-requires-clause-iface
come-requires-clause-iface g c =
    let q = g.R.Router.seen.place c.args.router.now in
    let range = c.in-None.ensures.none q c.args.contents.now c.requires.limits.ifaces c.requires.limits.quarter in
    subst (λ (f : Frame). IsInRange (Some q) c.args.contents.now f) c.in-Comes.is range

pub wait-requires-clause-short : goal.wait-requires-clause-short
wait-requires-clause-short g c =
    let q = g.R.Router.seen.place c.args.router.now in
    let range = c.in-None.ensures.none q c.args.contents.now c.requires.limits.ifaces c.requires.limits.quarter in
    (subst (λ (f : Frame). IsInRange (Some q) c.args.contents.now f) c.in-Waits.is range).most
