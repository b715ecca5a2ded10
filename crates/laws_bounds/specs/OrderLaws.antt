-- In which order sends go, and how often each goes: the claims of the public laws.
use Rattle.std.specs.Prelude.{◌≡◌, false, cond, not, List, [], ◌∷◌, ◌++◌, map as each, Some, None}
use Rattle.std.specs.List.{filter}
use Rattle.std.specs.Ordering.{eq_by_cmp, is_lt}
use Rattle.router_rules.specs.RsvpBase.Keys.{Keys}
use Rattle.router_rules.specs.RsvpBase.Members.{In}
use Rattle.router_rules.specs.RsvpBase.Orders.{sessions}
use Rattle.router_rules.specs.RsvpBase.Sets.{Set, is_none}
use Rattle.router_rules.specs.RsvpBase.Table.{Table, changed, has, values}
use Rattle.router_rules.specs.Lines.{NextHop, next_hops}
use Rattle.router_rules.specs.Asking.{err_place, err_places, errors_in_order}
use Rattle.router_rules.specs.Facts.{Facts}
use Rattle.router_rules.specs.Inputs.{Change, ConfSend, ErrSend, Send}
use Rattle.router_rules.specs.Known.{lane_keys, lanes}
use Rattle.router_rules.specs.Offers.{Offers, offer_keys, offers}
use Rattle.router_rules.specs.NodeConfig.{NodeConfig}
use Rattle.router_rules.specs.Sends.{conf_send, conf_sends, confirmed, error_sends, path_send_of, path_sends, path_tear, path_tears, resv_send_to, resv_sends, resv_tear_send, resv_tears}
use Rattle.router_rules.specs.Sends.{sends, torn_names}

-- ---- lists in the order of a key
module _ {X K : Type 0} (o : Keys K) (key : X → K) where
  -- nobody stands before one with a smaller key
  abbrev pub IsInOrder : List X → Type 0
  IsInOrder [] = Unit {0}
  IsInOrder (x ∷ xs) = ((y : X) → In y xs → is_lt (o.cmp (key y) (key x)) ≡ false) × IsInOrder xs

  -- those with this key
  abbrev pub with_key : K → List X → List X
  with_key k xs = filter (λ x. eq_by_cmp o.cmp k (key x)) xs

  -- the list is in order, and those of each key stand as they came, each as often
  pub record IsOrdered (came list : List X) : Type 0 where
    pub rises : IsInOrder list
    pub same : (k : K) → with_key k list ≡ with_key k came

-- ---- tables of what is sent: their keys rise, and each stands once
abbrev pub tears_by_offer : NodeConfig → Offers → Offers → Table offer_keys Send
tears_by_offer p before after = changed (λ k o. cond (not (has after k)) (Some (path_tear p k)) None) before

abbrev pub tears_by_lane : NodeConfig → NodeConfig → Facts → Facts → Table lane_keys Send
tears_by_lane old p before after = changed (λ l u. cond (is_none (torn_names old p before after l)) None (Some (resv_tear_send p after l (torn_names old p before after l)))) (lanes before)

abbrev pub paths_by_offer : NodeConfig → Offers → Offers → Set sessions → Table offer_keys Send
paths_by_offer p before after fired = changed (λ k o. path_send_of p before fired (k, o)) after

abbrev pub resvs_by_lane : NodeConfig → NodeConfig → Facts → Facts → Change → Table lane_keys Send
resvs_by_lane old p before after k = changed (λ l u. resv_send_to old p before after k.fired k.asked l) (lanes after)

abbrev pub conf_place : ConfSend → NextHop
conf_place s = (s.iface, s.dst)

pub record SendsInOrder : Type 0 where
  -- six lists, one after another
  pub six : (old p : NodeConfig) (before after : Facts) (k : Change) → sends old p before after k
      ≡ path_tears p (offers old before) (offers p after)
      ++ (resv_tears old p before after ++ (error_sends k.errors
      ++ (conf_sends (k.confs ++ confirmed old p before after k.asked)
      ++ (path_sends p (offers old before) (offers p after) k.fired ++ resv_sends old p before after k.fired k.asked))))
  -- by session, sender and interface
  pub path_tears_by : (p : NodeConfig) (before after : Offers) → path_tears p before after ≡ values (tears_by_offer p before after)
  pub paths_by : (p : NodeConfig) (before after : Offers) (fired : Set sessions) → path_sends p before after fired ≡ values (paths_by_offer p before after fired)
  -- by session, style, interface and address of the hop
  pub resv_tears_by : (old p : NodeConfig) (before after : Facts) → resv_tears old p before after ≡ values (tears_by_lane old p before after)
  pub resvs_by : (old p : NodeConfig) (before after : Facts) (k : Change) → resv_sends old p before after k.fired k.asked ≡ values (resvs_by_lane old p before after k)
  -- errors by interface, next hop and first sender, and confirmations by interface and next hop
  pub errors_by : (ss : List ErrSend) → IsOrdered err_places err_place ss (errors_in_order ss)
  pub confs_by : (ss : List ConfSend) → (list : List ConfSend) × (conf_sends ss ≡ each conf_send list) × IsOrdered next_hops conf_place ss list
