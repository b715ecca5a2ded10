use Rattle.network_demand.proofs.Clashes.{added, not_added}
use Rattle.network_demand.proofs.clashing.add_if.Goals as goal

pub returns-then-holds-clause-all : goal.returns-then-holds-clause-all
returns-then-holds-clause-all c = added c.add_once.result c.args.found.now.items c.add_once.new.found.items c.args.session c.args.holds c.if-holds.true c.add_once.ensures.all

pub returns-clause-all : goal.returns-clause-all
returns-clause-all c = not_added c.args.found.now.items c.args.session c.args.holds c.if-holds.false
