-- What is told of a sender where routes moved.
use Rattle.std.specs.Prelude.{false, List, [], map as each, Option, Some, None}
use Rattle.router_rules.specs.Facts.{SenderKey}
use Rattle.router_rules.specs.Inputs.{Send}
use Rattle.router_rules.specs.NodeConfig.{NodeConfig, tree}
use Rattle.router_rules.specs.Offers.{Offer}
use Rattle.router_rules.specs.Sends.{path_send, path_tear}
use Rattle.laws_sends.specs.Told.{offer_key}
use Rattle.laws_sends.specs.Routes.{ways_out}
use Rattle.path_sends.specs.Ways.{ways_but}

-- its PathTears, by the interfaces by which its tree went on and does no more
abbrev pub torn_of : NodeConfig → NodeConfig → SenderKey → List Send
torn_of old p k = each (λ i. path_tear p (offer_key k i)) (ways_but p (ways_out (tree old k.0 k.1)) (ways_out (tree p k.0 k.1)))

-- its Paths, by those by which it goes on and did not
abbrev pub new_of : NodeConfig → NodeConfig → SenderKey → Option Offer → List Send
new_of old p k None = []
new_of old p k (Some o) = each (λ i. path_send p false (offer_key k i, o)) (ways_but p (ways_out (tree p k.0 k.1)) (ways_out (tree old k.0 k.1)))
