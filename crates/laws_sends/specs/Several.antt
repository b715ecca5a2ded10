-- What is told of several sessions and of several senders, one after another.
use Rattle.std.specs.Prelude.{Bool, true, false, not, cond, List, ◌++◌, map as each}
use Rattle.std.specs.List.{filter, flat_map, list_any}
use Rattle.std.specs.Ordering.{eq_by_cmp}
use Rattle.rsvp_base.specs.Orders.{sessions, senders}
use Rattle.rsvp_base.specs.Rows.{AreRows}
use Rattle.rsvp_base.specs.Sets.{Set}
use Rattle.rsvp_base.specs.Table.{Table, get, has, keys}
use Rattle.rsvp_base.specs.Under.{under}
use Rattle.rsvp_base.specs.declared.session.Sender.{Sender}
use Rattle.rsvp_base.specs.declared.session.Session.{Session}
use Rattle.style_rules.specs.Merge.{table_at}
use Rattle.router_state.specs.RouterRules.Facts.{Facts, SenderKey, sender_keys}
use Rattle.router_state.specs.RouterRules.Inputs.{Send}
use Rattle.router_state.specs.RouterRules.Known.{Lane}
use Rattle.router_state.specs.RouterRules.NodeConfig.{NodeConfig, outward}
use Rattle.router_state.specs.RouterRules.Offers.{Offer, offers}
use Rattle.router_state.specs.RouterRules.Sends.{is_new_offer, path_send, path_tear}
use Rattle.laws_sends.specs.SendsHere.{hops_in, lanes_at}
use Rattle.laws_sends.specs.Told.{offer_key, offered, paths_told, told_gone}

-- ---- sessions in their order, none twice
abbrev pub as_session : Session → Session × Unit {0}
as_session s = (s, tt)

abbrev pub AreSessions : List Session → Type 0
AreSessions ss = AreRows sessions as_session ss

abbrev pub is_among : List Session → Session → Bool
is_among ss s = list_any (λ q. eq_by_cmp sessions.cmp q s) ss

-- ---- lanes: for each session those of each style toward its previous hops
abbrev pub lanes_for : List Session → Facts → List Lane
lanes_for ss f = flat_map (λ s. lanes_at s (keys (hops_in f s))) ss

-- ---- offers: what is offered of each known sender, whatever the interface
abbrev pub known_offers : Facts → Table sender_keys Offer
known_offers f = table_at (offered f) (keys f.senders ++ keys f.paths)

abbrev pub offers_in : Facts → Session → Table senders Offer
offers_in f s = under sessions senders (known_offers f) s

abbrev pub offer_of : Session → Sender × Offer → SenderKey × Offer
offer_of s e = ((s, e.0), e.1)

abbrev pub offers_for : List Session → Facts → List (SenderKey × Offer)
offers_for ss f = flat_map (λ s. each (offer_of s) (offers_in f s).rows) ss

-- all Paths of a session's senders, as the refresh of a session that came due
abbrev pub refreshed : NodeConfig → Facts → Session → List Send
refreshed p f s = flat_map (λ e. paths_told p true (s, e.0) e.1) (offers_in f s).rows

-- PathTears of the senders of a list that are offered no more
abbrev pub gone_told : NodeConfig → Facts → Facts → List SenderKey → List Send
gone_told p f g ks = flat_map (λ k. told_gone p k (offered f k) (offered g k)) ks

-- ---- with other routes than before
module _ (old p : NodeConfig) (f g : Facts) where
  -- PathTears of a sender, by the interfaces by which it was offered and is no more
  abbrev pub tears_of : SenderKey → List Send
  tears_of k = each (λ i. path_tear p (offer_key k i)) (filter (λ i. not (has (offers p g) (offer_key k i))) (outward old k.0 k.1))

  -- Paths of a sender: all where its session came due, else those by the interfaces by which its offer is new
  abbrev pub paths_of : Set sessions → SenderKey × Offer → List Send
  paths_of fired e =
      cond (has fired e.0.0) (paths_told p true e.0 e.1) (each
      (λ i. path_send p false (offer_key e.0 i, e.1)) (filter
      (λ i. is_new_offer p i e.1 (get (offers old f) (offer_key e.0 i))) (outward p e.0.0 e.0.1)))
