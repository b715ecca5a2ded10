-- Flows by sender: the flow descriptors of a fixed filter (RFC 2205, 3.1.4).
use Rattle.rsvp_base.specs.Orders.{senders}
use Rattle.rsvp_base.specs.Table.{Table}
use Rattle.rsvp_base.specs.TokenBucket.{TokenBucket}

abbrev pub FlowTable : Type 0
FlowTable = Table senders TokenBucket
