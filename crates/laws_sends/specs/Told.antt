-- What a node tells of one sender.
use Rattle.std.specs.Prelude.{ℕ, Bool, false, List, [], map as each, Option, Some, None}
use Rattle.std.specs.List.{filter}
use Rattle.router_state.specs.RouterRules.Facts.{Facts, SenderKey}
use Rattle.router_state.specs.RouterRules.Inputs.{Send}
use Rattle.router_state.specs.RouterRules.Offers.{Offer, OfferKey, offer_at}
use Rattle.router_state.specs.RouterRules.NodeConfig.{NodeConfig, outward}
use Rattle.router_state.specs.RouterRules.Sends.{is_new_offer, path_send, path_tear}

abbrev pub offer_key : SenderKey → ℕ → OfferKey
offer_key k i = record { session = k.0; sender = k.1; iface = i }

-- what is offered of a sender, whatever the interface
abbrev pub offered : Facts → SenderKey → Option Offer
offered f k = offer_at f (offer_key k 0)

-- its Paths, by each interface by which its tree goes on
abbrev pub paths_told : NodeConfig → Bool → SenderKey → Offer → List Send
paths_told p refresh k o = each (λ i. path_send p refresh (offer_key k i, o)) (outward p k.0 k.1)

abbrev pub tears_told : NodeConfig → SenderKey → List Send
tears_told p k = each (λ i. path_tear p (offer_key k i)) (outward p k.0 k.1)

-- the Paths, by the interfaces at which what is offered is new
abbrev pub told_new : NodeConfig → SenderKey → Option Offer → Option Offer → List Send
told_new p k before None = []
told_new p k before (Some o) = each (λ i. path_send p false (offer_key k i, o)) (filter (λ i. is_new_offer p i o before) (outward p k.0 k.1))

-- the PathTears, where nothing is offered any more
abbrev pub told_gone : NodeConfig → SenderKey → Option Offer → Option Offer → List Send
told_gone p k None after = []
told_gone p k (Some o) None = tears_told p k
told_gone p k (Some o) (Some n) = []
