-- What is told where one sender changed, in two halves: before the errors and confirmations of the change, and behind them.
use Rattle.std.specs.Prelude.{List, ◌++◌, Option, Some, None}
use Rattle.std.specs.List.{filter_map, flat_map}
use Rattle.std.specs.Option.{option_map}
use Rattle.rsvp_base.specs.Orders.{units}
use Rattle.rsvp_base.specs.Sets.{Set}
use Rattle.rsvp_base.specs.Table.{changed, empty, keys}
use Rattle.rsvp_base.specs.declared.addr.Addr.{Addr}
use Rattle.router_rules.specs.Facts.{Facts, SenderKey}
use Rattle.router_rules.specs.Inputs.{Asked, Send}
use Rattle.router_rules.specs.NodeConfig.{NodeConfig}
use Rattle.router_rules.specs.Sends.{resv_send_to, resv_tear, unmarked, used_marks}
use Rattle.laws_sends.specs.SendsHere.{hops_in, lanes_at}
use Rattle.laws_sends.specs.Told.{offered, told_gone, told_new}

-- the tears of the sender, and of its session's lanes
abbrev pub told_before : NodeConfig → SenderKey → Facts → Facts → List Send
told_before p k f g = told_gone p k (offered f k) (offered g k) ++ flat_map (resv_tear p p f g) (lanes_at k.0 (keys (hops_in f k.0)))

-- the sender's Paths, and the Resvs of its session's lanes
abbrev pub told_behind : NodeConfig → SenderKey → Facts → Facts → Option Asked → List Send
told_behind p k f g asked = told_new p k (offered f k) (offered g k) ++ filter_map (resv_send_to p p f g empty asked) (lanes_at k.0 (keys (hops_in g k.0)))

-- whom a wish names
abbrev pub address_of : Option Asked → Option Addr
address_of asked = option_map (λ a. a.confirm) asked

-- the facts once marks were used
abbrev pub facts_told : NodeConfig → Facts → Facts → Option Asked → Facts
facts_told p f g asked = record g { wants = changed (unmarked (used_marks p p f g asked)) g.wants }

-- marks are used where the message that made the change says nobody to be confirmed
abbrev pub used_where : Option Addr → Set units → Set units
used_where None used = used
used_where (Some a) used = empty
