use Rattle.std.proofs.Common.{ap, ◌∙◌}
use Rattle.network_demand.specs.Counts.{all_copies}
use Rattle.network_demand.proofs.Senders.{copies_same}
use Rattle.network_demand.proofs.paths.paths_of.Goals as goal

pub returns-clause-paths : goal.returns-clause-paths
returns-clause-paths c =
    c.all_copies.ensures.copies ∙ ap (all_copies c.args.routing.now) (c.as_slice.ensures.value ∙ c.in_ok-hops.ensures)
    ∙ copies_same c.args.routing.now c.args.order.now c.requires c.args.sender.now.session.group c.args.sender.now.sender.addr
