use Rattle.std.proofs.Common.{refl, ◌∙◌}
use Rattle.node_stream.proofs.Opening.{few_ifaces, limits_of}
use Rattle.node_stream.proofs.acting.open.Goals as goal

pub open_alone-requires-clause-few : goal.open_alone-requires-clause-few
open_alone-requires-clause-few g c = few_ifaces c.in_ok-place.place c.args.contents.now c.in_ok-place.ensures.place c.in_ok-place.ensures.range

pub returns-clause-limits : goal.returns-clause-limits
returns-clause-limits g c =
    let q = c.in_ok-place.place in
    limits_of q c.args.contents.now c.in_ok-place.ensures.place c.in_ok-place.ensures.range (g.R.Router.seen.place c.in_ok-router.router) c.len.result q.quarter c.in_ok-router.ensures.place
    (c.len.ensures ∙ q.ifaces.ok.0) refl
