-- What is offered of a sender, by the tables; and its Paths as a refresh.
use Rattle.std.specs.Prelude.{ℕ, true, cond, List, [], Option, Some, None}
use Rattle.std.specs.List.{flat_map}
use Rattle.std.specs.Option.{option_map}
use Rattle.rsvp_base.specs.Orders.{Names, sessions, senders}
use Rattle.rsvp_base.specs.Sets.{with_keys}
use Rattle.rsvp_base.specs.Table.{Table, empty, get, has, keys}
use Rattle.rsvp_base.specs.Under.{under}
use Rattle.rsvp_base.specs.declared.session.Session.{Session}
use Rattle.rsvp_base.specs.TokenBucket.{TokenBucket}
use Rattle.path_state.specs.Paths.{path_keys}
use Rattle.path_state.specs.declared.fact.PathFact.{PathFact}
use Rattle.local_state.specs.Rows.{Announced}
use Rattle.style_rules.specs.Toward.{or_else}
use Rattle.router_rules.specs.Facts.{SenderKey, sender_keys}
use Rattle.router_rules.specs.Inputs.{Send}
use Rattle.router_rules.specs.NodeConfig.{NodeConfig}
use Rattle.router_rules.specs.Offers.{Offer, own_offer}
use Rattle.laws_sends.specs.Told.{paths_told, tears_told}
use Rattle.path_sends.specs.Offering.{fact_offer}
use Rattle.path_sends.specs.RouterState.State.{State}

-- what local senders announce, as a state has it
abbrev pub announced : State → Announced
announced n = record { tspecs = n.senders; advertised = n.advertised }

-- in its own words where it is a local one, else in those of its path
abbrev pub kept_offer : PathFact × ℕ → Offer
kept_offer e = fact_offer e.0

abbrev pub offer_by : Announced → Table path_keys (PathFact × ℕ) → SenderKey → Option Offer
offer_by own paths k = or_else (option_map (own_offer (has own.advertised k)) (get own.tspecs k)) (option_map kept_offer (get paths k))

-- all its Paths, where it is offered
abbrev pub told_again : NodeConfig → SenderKey → Option Offer → List Send
told_again p k None = []
told_again p k (Some o) = paths_told p true k o

-- all Paths of the known senders of a session, in order
abbrev pub known_names : Table sender_keys TokenBucket → Table path_keys (PathFact × ℕ) → Session → Names
known_names own paths s = with_keys (with_keys empty (keys (under sessions senders own s))) (keys (under sessions senders paths s))

abbrev pub refreshed_by : NodeConfig → Announced → Table path_keys (PathFact × ℕ) → Session → List Send
refreshed_by p own paths s = flat_map (λ x. told_again p (s, x) (offer_by own paths (s, x))) (keys (known_names own.tspecs paths s))

-- PathTears of a sender whose path died, if it is no local one
abbrev pub gone_by : NodeConfig → Table sender_keys TokenBucket → SenderKey → List Send
gone_by p own k = cond (has own k) [] (tears_told p k)
