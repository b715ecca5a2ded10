use Rattle.tree_routing.proofs.ValidMore.{few_ends_in_all}
use Rattle.network_flight.proofs.tables.few_ends.Goals as goal

pub returns-clause-few : goal.returns-clause-few
returns-clause-few c = few_ends_in_all c.args.routing.now c.ends.ensures.valid
