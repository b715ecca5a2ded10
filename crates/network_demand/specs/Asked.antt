-- What is asked of a network, from lists that are kept.
use Rattle.network_demand.specs.declared.locals.Locals.{Locals as Kept}
use Rattle.tree_model.specs.Wants.{Locals}

abbrev pub locals_of : Kept → Locals
locals_of k = record { senders = k.senders.items; wants = k.wants.items }
