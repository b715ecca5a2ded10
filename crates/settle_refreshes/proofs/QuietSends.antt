-- What a node sends for an input by which nothing changes: the refreshes of the sessions that came due, and nothing else.
use Rattle.std.proofs.Common.{◌≡◌, ◌⊎◌, ℕ, List, [], ◌∷◌, ◌++◌, Bool, true, false, cond, Option, None, Some, inl, inr, ⊎_elim, sym, refl, ap, subst, ◌∙◌}
use Rattle.std.specs.Prelude.{is_some, map as each, not, ◌||◌}
use Rattle.std.specs.List.{filter}
use Rattle.rsvp_base.specs.declared.part.Part.{Part}
use Rattle.rsvp_base.specs.Members.{In}
use Rattle.rsvp_base.specs.Orders.{Names, senders, sessions}
use Rattle.rsvp_base.specs.Sets.{Set, is_none}
use Rattle.rsvp_base.specs.Table.{empty, get, has, keys}
use Rattle.rsvp_base.proofs.Counts.{in_found}
use Rattle.rsvp_base.proofs.Fronts.{in_filter_map, in_keys}
use Rattle.rsvp_base.proofs.Members.{in_append, in_filter, in_flat_map}
use Rattle.rsvp_base.proofs.SetLaws.{and_both, has-cut}
use Rattle.rsvp_messages.specs.declared.ask.Ask.{Ask}
use Rattle.rsvp_messages.specs.declared.message.Message.TheVariants as message
use Rattle.rsvp_messages.specs.declared.message.ResvMsg.{ResvMsg}
use Rattle.style_rules.specs.Merge.{PartTable}
use Rattle.router_rules.specs.Act.{act}
use Rattle.router_rules.specs.Asking.{ask_of}
use Rattle.router_rules.specs.Facts.{Facts}
use Rattle.router_rules.specs.Inputs.{Change, Input, Send}
use Rattle.router_rules.specs.Known.{Lane, lane_keys, lanes, names_via}
use Rattle.router_rules.specs.NodeConfig.{NodeConfig}
use Rattle.router_rules.specs.Offers.{Offer, OfferKey, offer_keys, offers}
use Rattle.router_rules.specs.Requests.{toward}
use Rattle.router_rules.specs.Rule.{is_silent, settled}
use Rattle.router_rules.specs.Sends.{conf_sends, confirmed, error_sends, gone_names, is_changed, is_new_offer, path_send, path_send_of, path_sends, path_tear, path_tears}
use Rattle.router_rules.specs.Sends.{resv_send, resv_send_of, resv_send_to, resv_sends, resv_tear, resv_tear_send, resv_tears, torn_names}
use Rattle.router_rules.specs.Steps.{sent_then}
use Rattle.laws_bounds.proofs.Asks.{gone_told}
use Rattle.laws_bounds.proofs.Lists.{none_in, one_name, passed}
use Rattle.laws_bounds.proofs.Ruling.{rule_in_parts}
use Rattle.laws_bounds.proofs.Tests.{parts_tested}
use Rattle.settle_refreshes.proofs.NodeSends.{IsRefreshing}

module _ (p : NodeConfig) (c : ℕ) (i : Input) (f : Facts) where
  abbrev pub change : Change
  change = act p c i f

  -- before marks are used
  abbrev pub after : Facts
  after = settled p c f change.facts

  -- the node tells nobody of an error and confirms nothing, offers what it offered, and what goes toward each hop is what went
  pub record IsUnchanged : Type 0 where
    pub loud : is_silent i ≡ false
    pub errors : change.errors ≡ []
    pub confs : change.confs ≡ []
    pub asked : change.asked ≡ None
    pub offered : (k : OfferKey) → has (offers p f) k ≡ true → has (offers p after) k ≡ true
    pub not_new : (k : OfferKey) (o : Offer) → get (offers p after) k ≡ Some o → is_new_offer p k.iface o (get (offers p f) k) ≡ false
    pub went : (l : Lane) → has (lanes f) l ≡ true → toward p f l ≡ toward p after l
    pub goes : (l : Lane) → has (lanes after) l ≡ true → toward p f l ≡ toward p after l

  -- what is sent in a lane, and to which hop
  pub resv_sent : (l : Lane) (new due : Bool) (o : Option Ask) (s : Send) → resv_send_of p after l new due None o ≡ Some s → (a : Ask) × (o ≡ Some a) × (s.iface ≡ l.hop.0) × (s.dst ≡ l.hop.1)
  resv_sent l new due None s e = absurd (cc)
  resv_sent l true due (Some a) s e = by _ e
    where
      by : (z : Send) → Some z ≡ Some s → (b : Ask) × (Some a ≡ Some b) × (s.iface ≡ z.iface) × (s.dst ≡ z.dst)
      by z t = let same : z ≡ s = cc in (a, refl, ap (λ (x : Send). x.iface) (sym same), ap (λ (x : Send). x.dst) (sym same))
  resv_sent l false true (Some a) s e = by _ e
    where
      by : (z : Send) → Some z ≡ Some s → (b : Ask) × (Some a ≡ Some b) × (s.iface ≡ z.iface) × (s.dst ≡ z.dst)
      by z t = let same : z ≡ s = cc in (a, refl, ap (λ (x : Send). x.iface) (sym same), ap (λ (x : Send). x.dst) (sym same))
  resv_sent l false false (Some a) s e = absurd (cc)

  not_due : (l : Lane) (o : Option Ask) → resv_send_of p after l false false None o ≡ None
  not_due l None = refl
  not_due l (Some a) = refl

  refresh_of : (l : Lane) (due : Bool) (o : Option Ask) (s : Send) → resv_send_of p after l false due None o ≡ Some s → (m : ResvMsg) × (s.message ≡ message.Resv m) × (m.confirm ≡ None)
  refresh_of l due None s e = absurd (cc)
  refresh_of l true (Some a) s e = let same : resv_send p after l None true a ≡ s = cc in (_, ap (λ (z : Send). z.message) (sym same), refl)
  refresh_of l false (Some a) s e = absurd (cc)

  module _ (same : IsUnchanged) where
    no_path_tears : path_tears p (offers p f) (offers p after) ≡ []
    no_path_tears =
        ap (each (path_tear p))
        (none_in (filter (λ k. not (has (offers p after) k)) (keys (offers p f)))
        (λ k j.
        let r = in_filter (λ k. not (has (offers p after) k)) k (keys (offers p f)) j in
        let bad : true ≡ false = sym r.1 ∙ ap not (same.offered k (in_keys offer_keys (offers p f) k r.0)) in
        cc))

    none_torn : (l : Lane) → has (lanes f) l ≡ true → is_none (torn_names p p f after l) ≡ true
    none_torn l there = by (is_none (torn_names p p f after l)) refl
      where
        by : (b : Bool) → is_none (torn_names p p f after l) ≡ b → is_none (torn_names p p f after l) ≡ true
        by true e = e
        by false e =
            let x = one_name (torn_names p p f after l) e in
            let gone : Names = gone_names (toward p f l) (toward p after l) in
            let g = (and_both _ _ (sym (has-cut senders gone (names_via after l) x.0) ∙ x.1)).0 in
            let z = gone_told (toward p f l) (toward p after l) x.0 g in
            let yes : has (toward p after l) z.unit ≡ true = ap (λ (t : PartTable). has t z.unit) (sym (same.went l there)) ∙ ap (λ (o : Option Part). is_some o) z.was in
            let bad : true ≡ false = sym yes ∙ z.gone in
            absurd (cc)

    no_resv_tears : resv_tears p p f after ≡ []
    no_resv_tears =
        none_in (resv_tears p p f after)
        (λ s j.
        let r = in_flat_map (resv_tear p p f after) s (keys (lanes f)) j in
        let none = none_torn r.0 (in_keys lane_keys (lanes f) r.0 r.1) in
        subst (λ (b : Bool). In s (cond b [] (resv_tear_send p after r.0 (torn_names p p f after r.0) ∷ []))) none r.2)

    -- refreshes alone
    abbrev pub path_refreshes : List Send
    path_refreshes = path_sends p (offers p f) (offers p after) change.fired

    abbrev pub resv_refreshes : List Send
    resv_refreshes = resv_sends p p f after change.fired None

    pub sends_are : sent_then p p c i f ≡ path_refreshes ++ resv_refreshes
    sends_are =
        rule_in_parts.loud p p c i f same.loud
        ∙ (λ j. no_path_tears j ++ (no_resv_tears j ++ (error_sends (same.errors j) ++ (conf_sends (same.confs j ++ confirmed p p f after (same.asked j))
        ++ (path_sends p (offers p f) (offers p after) change.fired ++ resv_sends p p f after change.fired (same.asked j))))))

    unchanged_lane : (l : Lane) → has (lanes after) l ≡ true → is_changed p p f after l ≡ false
    unchanged_lane l there = ap not (parts_tested (toward p f l) (toward p after l) (same.goes l there))

    -- ---- each is one
    abbrev pub path_of : OfferKey × Offer → Option Send
    path_of = path_send_of p (offers p f) change.fired

    abbrev pub resv_of : Lane → Option Send
    resv_of = resv_send_to p p f after change.fired None

    pub path_refreshed : (s : Send) → In s path_refreshes
        → (e : OfferKey × Offer) × (get (offers p after) e.0 ≡ Some e.1) × (has change.fired e.0.session ≡ true) × (s ≡ path_send p (has change.fired e.0.session) e)
    path_refreshed s j =
        let r = in_filter_map path_of s (offers p after).rows j in
        let there = in_found offer_keys (offers p after) r.0.0 r.0.1 r.1 in
        let t = passed (has change.fired r.0.0.session || is_new_offer p r.0.0.iface r.0.1 (get (offers p f) r.0.0)) (Some (path_send p (has change.fired r.0.0.session) r.0)) s r.2 in
        let is : path_send p (has change.fired r.0.0.session) r.0 ≡ s = (let z = t.1 in cc) in
        (r.0, there, due (has change.fired r.0.0.session) (is_new_offer p r.0.0.iface r.0.1 (get (offers p f) r.0.0)) t.0 (same.not_new r.0.0 r.0.1 there), sym is)
      where
        due : (a b : Bool) → (a || b) ≡ true → b ≡ false → a ≡ true
        due true b e n = refl
        due false b e n = let bad : true ≡ false = sym e ∙ n in absurd (cc)

    -- by the interface of its offer
    pub path_iface : (e : OfferKey × Offer) (s : Send) → path_of e ≡ Some s → s.iface ≡ e.0.iface
    path_iface e s is =
        let t = passed (has change.fired e.0.session || is_new_offer p e.0.iface e.1 (get (offers p f) e.0)) (Some (path_send p (has change.fired e.0.session) e)) s is in
        let same_send : path_send p (has change.fired e.0.session) e ≡ s = (let z = t.1 in cc) in
        ap (λ (z : Send). z.iface) (sym same_send)

    pub resv_refreshed : (s : Send) → In s resv_refreshes
        → (l : Lane) × (has (lanes after) l ≡ true) × (resv_send_of p after l false (has change.fired l.session) None (ask_of l.style (toward p after l)) ≡ Some s)
    resv_refreshed s j =
        let r = in_filter_map resv_of s (keys (lanes after)) j in
        let there = in_keys lane_keys (lanes after) r.0 r.1 in
        (r.0, there, ap (λ (b : Bool). resv_send_of p after r.0 b (has change.fired r.0.session) None (ask_of r.0.style (toward p after r.0))) (sym (unchanged_lane r.0 there)) ∙ r.2)

    -- where no session came due, nothing is sent
    pub nothing_sent : change.fired ≡ empty → sent_then p p c i f ≡ []
    nothing_sent none =
        none_in (sent_then p p c i f)
        (λ s j.
        ⊎_elim
        (λ (a : In s path_refreshes).
        let r = path_refreshed s a in
        let bad : true ≡ false = sym r.2 ∙ ap (λ (z : Set sessions). has z r.0.0.session) none in
        cc)
        (λ (b : In s resv_refreshes).
        let r = resv_refreshed s b in
        let no : has change.fired r.0.session ≡ false = ap (λ (z : Set sessions). has z r.0.session) none in
        let bad : None ≡ Some s =
        sym (not_due r.0 (ask_of r.0.style (toward p after r.0))) ∙ ap (λ (b : Bool). resv_send_of p after r.0 false b None (ask_of r.0.style (toward p after r.0))) (sym no) ∙ r.2 in
        cc)
        (in_append s path_refreshes resv_refreshes (subst (λ (z : List Send). In s z) sends_are j)))

    -- and what is sent is a Path, or a Resv that asks for no confirmation
    pub sends_refreshes : (s : Send) → In s (sent_then p p c i f) → IsRefreshing s.message
    sends_refreshes s j =
        ⊎_elim
        (λ (a : In s path_refreshes). let r = path_refreshed s a in inl (_, ap (λ (z : Send). z.message) r.3))
        (λ (b : In s resv_refreshes). let r = resv_refreshed s b in inr (refresh_of r.0 (has change.fired r.0.session) (ask_of r.0.style (toward p after r.0)) s r.2))
        (in_append s path_refreshes resv_refreshes (subst (λ (z : List Send). In s z) sends_are j))
