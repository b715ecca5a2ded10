use Rattle.std.proofs.Common.{refl}
use Rattle.tree_routing.proofs.LeastLaws.{new_closes_none}
use Rattle.tree_routing.proofs.least.check_loop.Goals as goal

pub returns-in-Ok : goal.returns-in-Ok
returns-in-Ok c = (record { before = c.in-Some.before; is = c.in-Some.is; leads = c.in-Ok-true.ensures.0 c.in-Ok-true.field-0-test }, refl, c.in-Ok.ensures)

pub returns-then-new-hops : goal.returns-then-new-hops
returns-then-new-hops c = new_closes_none c.args.hops.now c.args.new.now c.requires.befores c.requires.before c.if-new-hops.true
