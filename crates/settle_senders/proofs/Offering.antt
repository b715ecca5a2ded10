-- What a step makes a node offer of a sender over a hop of its tree: all that is new there carries what the node offers after the step, and where that
-- is something else than before, something new carries it.
use Rattle.std.proofs.Common.{◌≡◌, ℕ, List, ◌++◌, Bool, true, false, cond, Option, Some, None, ◌⊎◌, inl, inr, ⊎_elim, sym, refl, ap, subst, ◌∙◌}
use Rattle.std.specs.Prelude.{slice_get, not, ◌||◌}
use Rattle.std.specs.Option.{option_and_then, option_map}
use Rattle.rsvp_base.specs.declared.iface.Iface.{Iface}
use Rattle.rsvp_base.specs.declared.session.Sender.{Sender}
use Rattle.rsvp_base.specs.declared.session.Session.{Session}
use Rattle.rsvp_base.specs.Members.{In}
use Rattle.rsvp_base.specs.Table.{get, has}
use Rattle.rsvp_base.specs.TokenBucket.{TokenBucket}
use Rattle.rsvp_base.proofs.Members.{in_each, to_each}
use Rattle.rsvp_messages.specs.declared.message.Message.TheVariants as message
use Rattle.rsvp_messages.specs.declared.message.PathMsg.{PathMsg}
use Rattle.style_rules.specs.Toward.{or_else}
use Rattle.laws_bounds.specs.FactLaws.{is_way}
use Rattle.laws_bounds.proofs.Offering.{offers_by_way}
use Rattle.router_rules.specs.Paths.{path_state}
use Rattle.router_rules.specs.Facts.{Facts, PathState, SenderKey}
use Rattle.router_rules.specs.Inputs.{Send}
use Rattle.router_rules.specs.NodeConfig.{NodeConfig}
use Rattle.router_rules.specs.Offers.{Offer, OfferKey, offer_at, offers, own_offer, path_offer}
use Rattle.router_rules.specs.Rule.{Outcome}
use Rattle.router_rules.specs.Sends.{is_new_offer, path_send, same_offer, told_at}
use Rattle.router_rules.specs.Steps.{facts_then, fired_then, node_step, sent_then}
use Rattle.tree_model.specs.declared.hops.End.{End}
use Rattle.tree_model.specs.declared.hops.LinkHop.{LinkHop}
use Rattle.tree_model.specs.Networks.{end_at, iface_of, node_of, peers}
use Rattle.tree_model.specs.Trees.{inward, outward, tree}
use Rattle.tree_model.proofs.Ifaces.{interfaces_are_ends}
use Rattle.tree_model.proofs.Links.{one_sending_end_on_a_link}
use Rattle.tree_model.proofs.TreeLaws.{one, way_in_tested}
use Rattle.network_model.specs.Bounds.{AreBounds, AreHosts}
use Rattle.network_model.specs.Links.{copy_to, is_group}
use Rattle.network_model.specs.Steps.{Step, outcome, sent, step, still}
use Rattle.network_model.specs.Worlds.{Item, World}
use Rattle.network_model.proofs.Stepping.{copies_made, facts_after_found, sent_made}
use Rattle.laws_network.specs.SpeakingLaws.{IsOfOffer}
use Rattle.laws_network.proofs.Known.{of_some, or_true}
use Rattle.laws_network.proofs.Sends.{goes_to_peers}
use Rattle.laws_network.proofs.Speaking.{send_made, what_a_path_sent_says}
use Rattle.laws_network.proofs.Standing.{own_iface, way_out}
use Rattle.settle_passes.proofs.Deliveries.{at_end, goes, key, of_group, way}
use Rattle.settle_passes.proofs.Turns.{IsSentInTurn, Turns, left, moment, news, place, sent_in_turn}
use Rattle.settle_senders.specs.Readings.{ArePathsOnTheTree, Reading, carried_to, kept_after, kept_at, key_at, offered_by}
use Rattle.settle_senders.proofs.OfferItems.{AllCarry, after_all, after_append, after_one, carried_made, carried_told}

-- ---- what is needed of a reading: a path that is learnt keeps what its Path carries, a Path carries what is offered, and two offers for whose
-- difference a node sends no Path are read alike
pub record IsFaithful {A : Type 0} (read : Reading A) : Type 0 where
  pub learnt : (p : NodeConfig) (c i : ℕ) (m : PathMsg) (t : TokenBucket) → read.kept (path_state p c i m t) ≡ read.carried m t
  pub sent : (p : NodeConfig) (i : ℕ) (m : PathMsg) (o : Offer) → m.adspec ≡ told_at p i o → read.carried m o.tspec ≡ read.offered (slice_get p.ifaces i) o
  pub same : (p : NodeConfig) (i : ℕ) (a b : Offer) → same_offer p i a b ≡ true → read.offered (slice_get p.ifaces i) a ≡ read.offered (slice_get p.ifaces i) b

-- ---- what a node offers, by its facts
pub record IsOffered {A : Type 0} (read : Reading A) (w : World) (k : SenderKey) (e : ℕ) (a : A) : Type 0 where
  pub facts : Facts
  pub there : slice_get w.nodes (node_of w.net.ends e) ≡ Some facts
  pub offer : Offer
  pub offered : offer_at facts (key_at w.net k e) ≡ Some offer
  pub told : read.offered (option_map (λ (x : End). x.iface) (slice_get w.net.ends e)) offer ≡ a

pub offered_found : {A : Type 0} (read : Reading A) (w : World) (k : SenderKey) (e : ℕ) (a : A) → offered_by read w k e ≡ Some a → IsOffered read w k e a
offered_found read w k e a h = by (slice_get w.nodes (node_of w.net.ends e)) refl h
  where
    on : Option Iface
    on = option_map (λ (x : End). x.iface) (slice_get w.net.ends e)

    by_offer : (f : Facts) → slice_get w.nodes (node_of w.net.ends e) ≡ Some f → (o : Option Offer) → offer_at f (key_at w.net k e) ≡ o
        → option_map (read.offered on) o ≡ Some a → IsOffered read w k e a
    by_offer f at None is h = absurd (cc)
    by_offer f at (Some o) is h = record { facts = f; there = at; offer = o; offered = is; told = of_some (read.offered on o) a h }

    by : (o : Option Facts) → slice_get w.nodes (node_of w.net.ends e) ≡ o
        → option_map (read.offered on) (option_and_then (λ (f : Facts). offer_at f (key_at w.net k e)) o) ≡ Some a → IsOffered read w k e a
    by None at h = absurd (cc)
    by (Some f) at h = by_offer f at (offer_at f (key_at w.net k e)) refl h

pub offered_made : {A : Type 0} (read : Reading A) (w : World) (k : SenderKey) (e : ℕ) (a : A) → IsOffered read w k e a → offered_by read w k e ≡ Some a
offered_made read w k e a s =
    let on : Option Iface = option_map (λ (x : End). x.iface) (slice_get w.net.ends e) in
    ap (λ (o : Option Facts). option_map (read.offered on) (option_and_then (λ (f : Facts). offer_at f (key_at w.net k e)) o)) s.there
    ∙ ap (option_map (read.offered on)) s.offered
    ∙ ap Some s.told

-- whoever a node offers sends to a group
pub offered_to_group : {A : Type 0} (read : Reading A) (w : World) → AreHosts w → ArePathsOnTheTree w → (k : SenderKey) (e : ℕ) (a : A) → IsOffered read w k e a → is_group k.0.group ≡ true
offered_to_group read w hosts sound k e a s = by (get s.facts.senders k) (get s.facts.paths k) refl refl
  where
    by : (o : Option TokenBucket) (p : Option PathState) → get s.facts.senders k ≡ o → get s.facts.paths k ≡ p → is_group k.0.group ≡ true
    by (Some t) p sends is = hosts.groups (node_of w.net.ends e) s.facts k t s.there sends
    by None (Some x) none is = let p = sound.facts (node_of w.net.ends e) s.facts k x s.there is in of_group w hosts k p.sound.0 p.sound.1.live
    by None None none is =
        let bad : None ≡ Some s.offer = sym (λ j. or_else (option_map (own_offer (has s.facts.advertised k)) (none j)) (option_map path_offer (is j))) ∙ s.offered in absurd (cc)

-- ---- a step
module _ (q : ℕ) (t : Step) (u : World) (bounds : AreBounds q u) (turns : (n : ℕ) (f : Facts) → slice_get u.nodes n ≡ Some f → (outcome q t u n f ≡ still f) ⊎ Turns q t u n f) where
  -- a Path that is sent is of an offer after the step
  of_offer : (y : Item) (m : PathMsg) (r : IsSentInTurn q t u bounds turns y (message.Path m)) → IsOfOffer (place q t u r.node) (outcome q t u r.node r.facts).facts r.send m
  of_offer y m r =
      let p : NodeConfig = place q t u r.node in
      subst (λ (z : Outcome). IsOfOffer p z.facts r.send m) (sym r.by.is)
      (what_a_path_sent_says.says (node_step p p u.clock (moment q t u) r.by.input r.facts) (bounds.facts r.node r.facts r.there) r.send m r.sent_one r.says)

  module _ {A : Type 0} (read : Reading A) (faithful : IsFaithful read) (k : SenderKey) (h : LinkHop) (there : In h (tree u.net.hops k.0.group k.1.addr)) where
    abbrev from : ℕ
    from = node_of u.net.ends h.from

    abbrev by_key : OfferKey
    by_key = key q t u bounds k h there

    abbrev told_over : Offer → A
    told_over o = read.offered (slice_get (place q t u from).ifaces by_key.iface) o

    told_here : (o : Offer) → told_over o ≡ read.offered (option_map (λ (x : End). x.iface) (slice_get u.net.ends h.from)) o
    told_here o =
        let on = own_iface q u.net u.trees from by_key.iface h.from (at_end q t u bounds k h there) in
        ap (λ (z : Option Iface). read.offered z o) (on.2 ∙ sym (ap (option_map (λ (x : End). x.iface)) on.1))

    module _ (f : Facts) (at : slice_get u.nodes from ≡ Some f) (o' : Offer) (offered : offer_at (outcome q t u from f).facts by_key ≡ Some o') where
      -- ---- the node offers it with a Path, or offered the same before
      record IsNews : Type 0 where
        pub item : Item
        pub among : In item (news q t u)
        pub carried : carried_to read k h.to item ≡ Some (told_over o')

      record IsOfferedBefore : Type 0 where
        pub offer : Offer
        pub before : offer_at f by_key ≡ Some offer
        pub same : told_over offer ≡ told_over o'

      sends_one : is_group k.0.group ≡ true → (r : Turns q t u from f) → get (offers (place q t u from) (facts_then (place q t u from) (place q t u from) (moment q t u) r.input f)) by_key ≡ Some o'
          → (has (fired_then (place q t u from) (moment q t u) r.input f) k.0 || is_new_offer (place q t u from) by_key.iface o' (get (offers (place q t u from) f) by_key)) ≡ true → IsNews
      sends_one group r offered_then why =
          let p : NodeConfig = place q t u from in
          let c : ℕ = moment q t u in
          let fired : Bool = has (fired_then p c r.input f) k.0 in
          let send : Send = path_send p fired (by_key, o') in
          let sends : In send (sent_then p p c r.input f) =
          send_made p p c r.input f send r.loud (inr (inr (inr (inr (inl (record { key = by_key; offer = o'; offered = offered_then; why = why; is = refl })))))) in
          let out : In send (outcome q t u from f).sent = subst (λ (z : Outcome). In send z.sent) (sym r.is) sends in
          let y : Item × Bool = copy_to u.made send h.to in
          let one_sent : In y (sent q t u) = sent_made q t u from f y at (copies_made u.net u.made from (outcome q t u from f).sent send h.to out (goes q t u bounds k h there group)) in
          record {
            item = y.0;
            among = to_each (λ (z : Item × Bool). z.0) y (sent q t u) one_sent;
            carried = carried_made read k h.to y.0 (told_over o')
                (record { end = refl; path = _; spelt = refl; session = refl; tspec = o'.tspec; sender = refl; carried = faithful.sent p by_key.iface _ o' refl });
          }

      news_or_same : is_group k.0.group ≡ true → IsOfferedBefore ⊎ IsNews
      news_or_same group =
          ⊎_elim
          (λ (z : outcome q t u from f ≡ still f). inl (record { offer = o'; before = sym (ap (λ (o : Outcome). offer_at o.facts by_key) z) ∙ offered; same = refl }))
          (λ (r : Turns q t u from f). turned r)
          (turns from f at)
        where
          turned : Turns q t u from f → IsOfferedBefore ⊎ IsNews
          turned r = by (get (offers p f) by_key) refl
            where
              p : NodeConfig
              p = place q t u from

              after : Facts
              after = facts_then p p (moment q t u) r.input f

              goes_out : is_way p by_key ≡ true
              goes_out = way q t u bounds k h there

              offered_then : get (offers p after) by_key ≡ Some o'
              offered_then =
                  offers_by_way p after by_key ∙ ap (λ (b : Bool). cond b (offer_at after by_key) None) goes_out
                  ∙ sym (ap (λ (o : Outcome). offer_at o.facts by_key) r.is) ∙ offered

              was : (o : Offer) → get (offers p f) by_key ≡ Some o → offer_at f by_key ≡ Some o
              was o is = sym (ap (λ (b : Bool). cond b (offer_at f by_key) None) goes_out) ∙ sym (offers_by_way p f by_key) ∙ is

              sends : is_new_offer p by_key.iface o' (get (offers p f) by_key) ≡ true → IsNews
              sends new =
                  sends_one group r offered_then (ap (λ (b : Bool). has (fired_then p (moment q t u) r.input f) k.0 || b) new ∙ or_true (has (fired_then p (moment q t u) r.input f) k.0))

              by_same : (o : Offer) → get (offers p f) by_key ≡ Some o → (b : Bool) → same_offer p by_key.iface o' o ≡ b → IsOfferedBefore ⊎ IsNews
              by_same o is true same = inl (record { offer = o; before = was o is; same = sym (faithful.same p by_key.iface o' o same) })
              by_same o is false other = inr (sends (ap (is_new_offer p by_key.iface o') is ∙ ap not other))

              by : (b : Option Offer) → get (offers p f) by_key ≡ b → IsOfferedBefore ⊎ IsNews
              by None is = inr (sends (ap (is_new_offer p by_key.iface o') is))
              by (Some o) is = by_same o is (same_offer p by_key.iface o' o) refl

      one_offer : (n : ℕ) (g : Facts) (e : OfferKey) (o : Offer) → n ≡ from → g ≡ f → e ≡ by_key → offer_at (outcome q t u n g).facts e ≡ Some o → o ≡ o'
      one_offer n g e o node facts same is = of_some o o' (sym is ∙ (λ j. offer_at (outcome q t u (node j) (facts j)).facts (same j)) ∙ offered)

      -- ---- and all that is new over the hop carries it
      all_news : AllCarry read k h.to (told_over o') (news q t u)
      all_news y a i br =
          let b = carried_told read k h.to y a br in
          let c = in_each (λ (z : Item × Bool). z.0) y (sent q t u) i in
          let one_sent : In (y, c.0.1) (sent q t u) = subst (λ (z : Item). In (z, c.0.1) (sent q t u)) (sym c.2) c.1 in
          let r = sent_in_turn q t u bounds turns y c.0.1 (message.Path b.path) one_sent b.spelt in
          let o = of_offer y b.path r in
          let session : o.key.session ≡ k.0 = sym (ap (λ (z : PathMsg). z.session) o.is) ∙ b.session in
          let both : ◌≡◌ {A = Sender × TokenBucket} (o.key.sender, o.offer.tspec) (k.1, b.tspec) =
          of_some (o.key.sender, o.offer.tspec) (k.1, b.tspec) (sym (ap (λ (z : PathMsg). z.sender) o.is) ∙ b.sender) in
          let sender : o.key.sender ≡ k.1 = ap (λ (z : Sender × TokenBucket). z.0) both in
          let e = way_out q u.net u.trees r.node bounds.net o.key.session o.key.iface o.key.sender o.there o.way in
          let named : In e.0 (outward u.net r.node k.0.group k.1.addr) =
          subst (λ (z : Sender). In e.0 (outward u.net r.node k.0.group z.addr)) sender (subst (λ (z : Session). In e.0 (outward u.net r.node z.group o.key.sender.addr)) session e.3) in
          let leaves : In e.0 (outward u.net (node_of u.net.ends e.0) k.0.group k.1.addr) = subst (λ (z : ℕ). In e.0 (outward u.net z k.0.group k.1.addr)) (sym e.2) named in
          let to : In h.to (peers u.net.links e.0) =
          subst (λ (z : ℕ). In z (peers u.net.links e.0)) b.end
          (goes_to_peers u.net (end_at u.net.ends r.node r.send.iface) e.0 r.send.dst y.end (ap (end_at u.net.ends r.node) o.iface ∙ e.1) r.to) in
          let into : inward u.net (node_of u.net.ends h.to) k.0.group k.1.addr ≡ Some h.to = way_in_tested u.net bounds.net (node_of u.net.ends h.to) h.to k.0.group k.1.addr (h, there, refl, refl) in
          let x = (one_sending_end_on_a_link u.net bounds.net).hop k.0.group k.1.addr e.0 h.to leaves to into in
          let same : x.0 ≡ h = one u.net bounds.net k.0.group k.1.addr x.0 h x.1 there (ap (node_of u.net.ends) x.3) in
          let end : e.0 ≡ h.from = sym x.2 ∙ ap (λ (z : LinkHop). z.from) same in
          let node : r.node ≡ from = sym e.2 ∙ ap (node_of u.net.ends) end in
          let iface : o.key.iface ≡ by_key.iface = sym ((interfaces_are_ends u.net).iface_of_end r.node o.key.iface e.0 e.1).2 ∙ ap (iface_of u.net.ends) end in
          let facts : r.facts ≡ f = of_some r.facts f (sym r.there ∙ ap (λ (z : ℕ). slice_get u.nodes z) node ∙ at) in
          let one_key : o.key ≡ by_key = (λ j. record { session = session j; sender = sender j; iface = iface j }) in
          let offer : o.offer ≡ o' = one_offer r.node r.facts o.key o.offer node facts one_key o.offered in
          let flow : b.tspec ≡ o.offer.tspec = sym (ap (λ (z : Sender × TokenBucket). z.1) both) in
          sym b.carried ∙ ap (read.carried b.path) flow ∙ faithful.sent (place q t u r.node) o.key.iface b.path o.offer (ap (λ (z : PathMsg). z.adspec) o.is)
          ∙ (λ j. read.offered (slice_get (place q t u (node j)).ifaces (iface j)) (offer j))

    -- ---- so what is offered is kept behind the hop in the end, if it was so before the step
    pub kept_on : (front : List Item) → (step q t u).flight ≡ front ++ news q t u
        → kept_after read k h.to (kept_at read (left q t u) k (node_of u.net.ends h.to)) front ≡ kept_after read k h.to (kept_at read u k (node_of u.net.ends h.to)) u.flight
        → ((a : A) → offered_by read u k h.from ≡ Some a → kept_after read k h.to (kept_at read u k (node_of u.net.ends h.to)) u.flight ≡ Some a)
        → AreHosts (left q t u) → ArePathsOnTheTree (left q t u)
        → (a : A) → offered_by read (left q t u) k h.from ≡ Some a → kept_after read k h.to (kept_at read (left q t u) k (node_of u.net.ends h.to)) (step q t u).flight ≡ Some a
    kept_on front flight same before hosts sound a e =
        let s = offered_found read (left q t u) k h.from a e in
        let f = facts_after_found q t u from s.facts s.there in
        let offered : offer_at (outcome q t u from f.0).facts by_key ≡ Some s.offer = ap (λ (z : Facts). offer_at z by_key) (sym f.2) ∙ s.offered in
        let group = offered_to_group read (left q t u) hosts sound k h.from a s in
        let now : Option A = kept_at read (left q t u) k (node_of u.net.ends h.to) in
        let is : told_over s.offer ≡ a = told_here s.offer ∙ s.told in
        let all : AllCarry read k h.to (told_over s.offer) (news q t u) = all_news f.0 f.1 s.offer offered in
        ap (kept_after read k h.to now) flight
        ∙ after_append read k h.to now front (news q t u)
        ∙ ⊎_elim
        (λ (b : IsOfferedBefore f.0 f.1 s.offer offered).
        let was : offered_by read u k h.from ≡ Some (told_over b.offer) =
        offered_made read u k h.from (told_over b.offer) (record { facts = f.0; there = f.1; offer = b.offer; offered = b.before; told = sym (told_here b.offer) }) in
        after_all read k h.to (told_over s.offer) (kept_after read k h.to now front) (news q t u) all (same ∙ before (told_over b.offer) was ∙ ap Some b.same))
        (λ (n : IsNews f.0 f.1 s.offer offered). after_one read k h.to (told_over s.offer) (kept_after read k h.to now front) (news q t u) all n.item n.among n.carried)
        (news_or_same f.0 f.1 s.offer offered group)
        ∙ ap Some is
