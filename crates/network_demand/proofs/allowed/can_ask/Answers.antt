use Rattle.network_demand.specs.Asked.{locals_of}
use Rattle.network_demand.proofs.AllowedLaws.{can_then, can_else}
use Rattle.network_demand.proofs.allowed.can_ask.Goals as goal

pub returns-then-are_inside : goal.returns-then-are_inside
returns-then-are_inside c =
    can_then c.args.routing.now (locals_of c.args.locals.now) c.nodes.result c.as_slice.result.now c.nodes.ensures.nodes c.as_slice.ensures.value c.are_bounded.result
    (c.are_inside.ensures.0 c.if-are_inside.true) c.are_bounded.ensures

pub returns-else-are_inside : goal.returns-else-are_inside
returns-else-are_inside c =
    can_else c.args.routing.now (locals_of c.args.locals.now) c.nodes.result c.as_slice.result.now c.nodes.ensures.nodes c.as_slice.ensures.value c.are_inside.result c.if-are_inside.false
    c.are_inside.ensures
