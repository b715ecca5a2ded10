-- A want of a grown network as one that is wanted at its node.
use Rattle.rsvp_base.specs.Orders.{Names}
use Rattle.tree_model.specs.declared.locals.LocalWant.{LocalWant}
use Rattle.grown_network.specs.Hosts.{session_of}
use Rattle.grown_network.specs.declared.hosts.Wanted.{Wanted}

-- of these senders together
abbrev pub want_of : Wanted → Names → LocalWant
want_of w names = record { node = w.node; session = session_of w.style; style = w.style; part = record { senders = names; flow = w.flow } }
