-- What laws of a step share: countdowns, where path state and offers come from, and the kinds of what is sent.
use Rattle.std.specs.Prelude.{◌≡◌, ℕ, ◌+◌, ◌⊎◌, Bool, true, false, cond, is_some, Option, Some, None, refl, nat_lt, ◌<◌, ◌||◌, length}
use Rattle.std.proofs.Common.{sym, ap, ◌∙◌, inl, inr, ⊎_elim}
use Rattle.std.proofs.lemmas.Bool.{ltb-true}
use Rattle.std.specs.Option.{unwrap_or, option_map}
use Rattle.rsvp_base.specs.declared.addr.Addr.{Addr}
use Rattle.rsvp_base.specs.declared.session.Session.{Session}
use Rattle.rsvp_base.specs.Orders.{senders}
use Rattle.rsvp_base.specs.Table.{empty, get, has, put_in}
use Rattle.rsvp_base.proofs.Tables.{got_changed, got_put_in, got_without}
use Rattle.router_rules.specs.Act.{act, is_mine, act_spelt}
use Rattle.router_rules.specs.Facts.{Facts, PathState, Paths, SenderKey, sender_keys}
use Rattle.router_rules.specs.Forgetting.{counted, settle}
use Rattle.router_rules.specs.Inputs.{Arrival, Input, Call, Wait, Clear, Came, Moved, Spelt, Unspelt, Send}
use Rattle.router_rules.specs.NodeConfig.{NodeConfig, period, comes_in, goes_out}
use Rattle.router_rules.specs.Waiting.{living}
use Rattle.laws_bounds.proofs.Knowing.{has-known}
use Rattle.laws_bounds.proofs.Leaving.{countdowns_settle}
use Rattle.laws_bounds.proofs.Lists.{some_same, passed}
use Rattle.rsvp_base.specs.declared.session.Sender.{Sender}
use Rattle.rsvp_base.specs.TokenBucket.{TokenBucket}
use Rattle.router_rules.specs.RsvpMessages.declared.message.Message.{Message}
use Rattle.router_rules.specs.RsvpMessages.declared.message.Message.TheVariants as message
use Rattle.router_rules.specs.RsvpMessages.declared.message.PathMsg.{PathMsg}
use Rattle.router_rules.specs.RsvpMessages.declared.message.PathTearMsg.{PathTearMsg}
use Rattle.router_rules.specs.Known.{known}
use Rattle.router_rules.specs.Paths.{is_path_by, learn, learn_inward, learnt, path_state, tear_path, torn_path}
use Rattle.router_rules.specs.Rule.{is_silent, settled, spoken}
use Rattle.laws_bounds.proofs.Tests.{addr_told}
use Rattle.rsvp_base.specs.Members.{In}
use Rattle.rsvp_base.proofs.SetLaws.{and_both}
use Rattle.router_rules.specs.Toward.{or_else}
use Rattle.router_rules.specs.Offers.{Offer, OfferKey, offer_at, offers, own_offer, path_offer}
use Rattle.laws_bounds.specs.FactLaws.{is_way}
use Rattle.laws_bounds.specs.SendLaws.{IsSend}
use Rattle.laws_bounds.proofs.Offering.{offers_by_way}
use Rattle.laws_bounds.proofs.Sending.{sends_are_of_six_kinds}
use Rattle.laws_bounds.specs.Sources.{IsLearnt, IsLocalOffer, IsPathOffer}
use Rattle.router_rules.specs.Steps.{facts_then, sent_then}
use Rattle.laws_bounds.proofs.Framing.{spelt_leaves}

-- ---- countdowns
pub stands_settled : (p : NodeConfig) (c : ℕ) (f : Facts) (s : Session) → has (settle p c f).due s ≡ has (counted f) s
stands_settled p c f s = ap is_some (countdowns_settle p c f s) ∙ by (has (counted f) s)
  where
    by : (b : Bool) → is_some (cond b (Some (unwrap_or (get f.due s) (c + period p))) None) ≡ b
    by true = refl
    by false = refl

pub quiet_due : (p : NodeConfig) (c e : ℕ) (dst : Addr) (a : Arrival) (f : Facts) → ((act p c (Came e dst a) f).facts.due ≡ f.due) × ((act p c (Came e dst a) f).fired ≡ empty)
quiet_due p c e dst (Unspelt m) f = (refl, refl)
quiet_due p c e dst (Spelt m) f = let l = spelt_leaves p c e m (is_mine p e dst m) f in (l.due, l.fired)

-- ---- path state
-- what a Path brought, before it is known that it came to its group
record Brought (p : NodeConfig) (c e : ℕ) (m : PathMsg) (k : SenderKey) (x : PathState) : Type 0 where
  tspec : TokenBucket
  session : m.session ≡ k.0
  sender : m.sender ≡ Some (k.1, tspec)
  tree : comes_in p k.0 e k.1 ≡ true
  is : x ≡ path_state p c e m tspec

module _ (p : NodeConfig) (c e : ℕ) (m : PathMsg) (k : SenderKey) (x : PathState) where
  put_one : (s : Sender) (tspec : TokenBucket) (t : Paths) → m.sender ≡ Some (s, tspec) → comes_in p m.session e s ≡ true → get (put_in t (m.session, s) (path_state p c e m tspec)) k ≡ Some x
      → (get t k ≡ Some x) ⊎ Brought p c e m k x
  put_one s tspec t said tree h =
      ⊎_elim
      (λ (new : (k ≡ (m.session, s)) × (x ≡ path_state p c e m tspec)).
      let ks : m.session ≡ k.0 = sym (ap (λ (z : SenderKey). z.0) new.0) in
      let kx : s ≡ k.1 = sym (ap (λ (z : SenderKey). z.1) new.0) in
      inr (record { tspec = tspec; session = ks; sender = said ∙ (λ i. Some (kx i, tspec)); tree = (λ i. comes_in p (sym ks i) e (sym kx i)) ∙ tree; is = new.1 }))
      (λ (old : get t k ≡ Some x). inl old)
      (got_put_in sender_keys t (m.session, s) (path_state p c e m tspec) k x h)

  learnt_one : (s : Sender) (tspec : TokenBucket) (t : Paths) (b : Bool) → m.sender ≡ Some (s, tspec) → comes_in p m.session e s ≡ true
      → get (learnt b (put_in t (m.session, s) (path_state p c e m tspec)) t).0 k ≡ Some x
      → (get t k ≡ Some x) ⊎ Brought p c e m k x
  learnt_one s tspec t true said tree h = put_one s tspec t said tree h
  learnt_one s tspec t false said tree h = inl h

  inward_one : (s : Sender) (tspec : TokenBucket) (t : Paths) (b : Bool) → comes_in p m.session e s ≡ b → m.sender ≡ Some (s, tspec) → get (learn_inward p c e m s tspec b t).0 k ≡ Some x
      → (get t k ≡ Some x) ⊎ Brought p c e m k x
  inward_one s tspec t true is said h = learnt_one s tspec t _ said is h
  inward_one s tspec t false is said h = inl h

  learn_one : (t : Paths) (o : Option (Sender × TokenBucket)) → m.sender ≡ o → get (learn p c e m o t).0 k ≡ Some x → (get t k ≡ Some x) ⊎ Brought p c e m k x
  learn_one t None said h = inl h
  learn_one t (Some s) said h = inward_one s.0 s.1 t _ refl said h

tear_one : (e : ℕ) (m : PathTearMsg) (o : Option Sender) (t : Paths) (k : SenderKey) (x : PathState) → get (tear_path e m o t).0 k ≡ Some x → get t k ≡ Some x
tear_one e m None t k x h = h
tear_one e m (Some s) t k x h = by (is_path_by (e, m.hop.addr) (get t (m.session, s))) h
  where
    by : (b : Bool) → get (torn_path b (m.session, s) t).0 k ≡ Some x → get t k ≡ Some x
    by true h = got_without sender_keys t (m.session, s) k x h
    by false h = h

spelt_paths : (p : NodeConfig) (c e : ℕ) (dst : Addr) (f : Facts) (k : SenderKey) (x : PathState) (m : Message) (b : Bool) → is_mine p e dst m ≡ b → get (act_spelt p c e m b f).facts.paths k ≡ Some x
    → (get f.paths k ≡ Some x) ⊎ IsLearnt p c (Came e dst (Spelt m)) k x
spelt_paths p c e dst f k x m false is h = inl h
spelt_paths p c e dst f k x (message.Path m) true is h =
    ⊎_elim
    (λ (old : get f.paths k ≡ Some x). inl old)
    (λ (new : Brought p c e m k x).
    let to : dst ≡ k.0.group = addr_told _ _ is ∙ ap (λ (z : Session). z.group) new.session in
    inr (record {
      by = record { at = e; path = m; tspec = new.tspec; came = λ i. Came e (to i) (Spelt (message.Path m)); session = new.session; sender = new.sender; tree = new.tree };
      is = new.is;
    }))
    (learn_one p c e m k x f.paths m.sender refl h)
spelt_paths p c e dst f k x (message.PathTear m) true is h = inl (tear_one e m m.sender f.paths k x h)
spelt_paths p c e dst f k x (message.Resv m) true is h = inl h
spelt_paths p c e dst f k x (message.PathErr m) true is h = inl h
spelt_paths p c e dst f k x (message.ResvErr m) true is h = inl h
spelt_paths p c e dst f k x (message.ResvTear m) true is h = inl h
spelt_paths p c e dst f k x (message.ResvConf m) true is h = inl h

-- what lives stays as it is
pub lives_as_is : {X : Type 0} (c : ℕ) (dies : X → ℕ) (x y : X) → living c dies x ≡ Some y → x ≡ y
lives_as_is c dies x y e = some_same x y (passed (nat_lt c (dies x)) (Some x) y e).1

pub came_from : (old p : NodeConfig) (c : ℕ) (i : Input) (f : Facts) (k : SenderKey) (x : PathState) → get (facts_then old p c i f).paths k ≡ Some x → (get f.paths k ≡ Some x) ⊎ IsLearnt p c i k x
came_from old p c (Call l) f k x h = inl h
came_from old p c (Wait ms word) f k x h =
    let r = got_changed sender_keys (λ q. living c (λ (y : PathState). y.dies)) f.paths k x h in inl (r.1 ∙ ap (λ z. Some z) (lives_as_is c (λ (y : PathState). y.dies) r.0 x r.2))
came_from old p c Clear f k x h = absurd (cc)
came_from old p c Moved f k x h = inl h
came_from old p c (Came e dst (Unspelt m)) f k x h = inl h
came_from old p c (Came e dst (Spelt m)) f k x h = spelt_paths p c e dst f k x m (is_mine p e dst m) refl h

-- ---- offers
source_by : (f : Facts) (k : OfferKey) (o : Offer) (u : Option TokenBucket) (w : Option PathState) → get f.senders (k.session, k.sender) ≡ u → get f.paths (k.session, k.sender) ≡ w
    → or_else (option_map (own_offer (has f.advertised (k.session, k.sender))) u) (option_map path_offer w) ≡ Some o
    → IsLocalOffer f k o ⊎ IsPathOffer f k o
source_by f k o (Some flow) w g h e =
    let is : own_offer (has f.advertised (k.session, k.sender)) flow ≡ o = cc in inl (record { there = g ∙ ap (λ (z : Offer). Some z.tspec) is; local = ap (λ (z : Offer). z.local) (sym is); advert = ap (λ (z : Offer). z.advert) (sym is) })
source_by f k o None (Some path) g h e =
    let is : path_offer path ≡ o = cc in inr (record { no_local = g; path = path; there = h; tspec = ap (λ (z : Offer). z.tspec) (sym is); local = ap (λ (z : Offer). z.local) (sym is); advert = ap (λ (z : Offer). z.advert) (sym is) })
source_by f k o None None g h e = absurd (cc)

pub offer_source : (f : Facts) (k : OfferKey) (o : Offer) → offer_at f k ≡ Some o → IsLocalOffer f k o ⊎ IsPathOffer f k o
offer_source f k o e = source_by f k o (get f.senders (k.session, k.sender)) (get f.paths (k.session, k.sender)) refl refl e

-- a sender is offered exactly where it is known
pub offered_is_known : (f : Facts) (k : OfferKey) → is_some (offer_at f k) ≡ has (known f k.session) k.sender
offered_is_known f k = by (get f.senders (k.session, k.sender)) (get f.paths (k.session, k.sender)) ∙ sym (has-known f k.session k.sender)
  where
    by : (u : Option TokenBucket) (w : Option PathState) → is_some (or_else (option_map (own_offer (has f.advertised (k.session, k.sender))) u) (option_map path_offer w)) ≡ (is_some u || is_some w)
    by (Some flow) w = refl
    by None (Some path) = refl
    by None None = refl

-- what is offered has a way, and its sender is known
pub record IsOffered (p : NodeConfig) (f : Facts) (k : OfferKey) (o : Offer) : Type 0 where
  pub way : is_way p k ≡ true
  pub at : offer_at f k ≡ Some o
  pub there : k.iface < length p.ifaces
  pub out : goes_out p k.session k.iface k.sender ≡ true
  pub known_one : has (known f k.session) k.sender ≡ true

pub offered : (p : NodeConfig) (f : Facts) (k : OfferKey) (o : Offer) → get (offers p f) k ≡ Some o → IsOffered p f k o
offered p f k o e =
    let t = passed (is_way p k) (offer_at f k) o (sym (offers_by_way p f k) ∙ e) in
    let w = and_both (nat_lt k.iface (length p.ifaces)) (goes_out p k.session k.iface k.sender) t.0 in
    record { way = t.0; at = t.1; there = ltb-true k.iface (length p.ifaces) w.0; out = w.1; known_one = sym (offered_is_known f k) ∙ ap is_some t.1 }

pub offer_of : (p : NodeConfig) (f : Facts) (k : OfferKey) (o : Offer) → get (offers p f) k ≡ Some o → offer_at f k ≡ Some o
offer_of p f k o e = (offered p f k o e).at

-- ---- what is sent is of six kinds
pub send_told : (old p : NodeConfig) (c : ℕ) (i : Input) (f : Facts) (s : Send) → In s (sent_then old p c i f) → IsSend old p f (settled p c f (act p c i f).facts) (act p c i f) s
send_told old p c i f s h = by (is_silent i) h
  where
    by : (b : Bool) → In s (spoken b old p f (settled p c f (act p c i f).facts) (act p c i f)).sent → IsSend old p f (settled p c f (act p c i f).facts) (act p c i f) s
    by true h = absurd h
    by false h = (sends_are_of_six_kinds.each old p f (settled p c f (act p c i f).facts) (act p c i f) s).0 h
