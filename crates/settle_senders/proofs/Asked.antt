-- So it goes on, delivery by delivery, from a settled network in which nothing is in flight; and once no name of the sender is left each node has
-- asked for what goes from it.
use Rattle.std.proofs.Common.{◌≡◌, ℕ, zero, suc, List, [], ◌∷◌, ◌++◌, length, Bool, true, Option, None, Some, ◌⊎◌, inl, inr, ⊎_elim, sym, refl, ap, subst, ◌∙◌, false}
use Rattle.std.specs.Prelude.{slice_get}
use Rattle.settle_senders.proofs.Ending.{IsLettingGo, all_came, letting_go_next, turns, ways_before}
use Rattle.settle_passes.proofs.Turns.{IsAskedBack, all_ask_back, stays_or_asked_back}
use Rattle.settle_passes.proofs.Deliveries.{live_next, known_self, live_back, same_next}
use Rattle.tree_model.specs.declared.locals.LocalWant.{LocalWant}
use Rattle.settle_passes.proofs.Growing.{HasNoLess}
use Rattle.tree_model.specs.Wants.{Locals}
use Rattle.settle_senders.proofs.Going.{AllLike, AreAskedLike, IsKeptLike, IsLike, IsLikeLast, IsLiveLetter, Lives, SaysLike}
use Rattle.settle_senders.proofs.Going.{all_like_append, asked_is_kept, last_like, last_like_before, last_like_behind, like_itself, stays_like}
use Rattle.settle_passes.specs.Reserving.{AllAsk, AreAskedFor, IsAskedLast, IsLetter}
use Rattle.network_model.specs.Events.{pass, passes}
use Rattle.rsvp_base.proofs.SetLaws.{same_set}
use Rattle.settle_resvs.proofs.TowardNames.{toward_names}
use Rattle.style_rules.proofs.StyleLaws.{unit_name}
use Rattle.settle_senders.specs.Ending.{AreAsksOfLive, AreNamesLive, IsNameOfLive}
use Rattle.rsvp_base.specs.declared.part.Part.{Part}
use Rattle.rsvp_base.specs.declared.session.Sender.{Sender}
use Rattle.rsvp_base.specs.declared.session.Session.{Session}
use Rattle.rsvp_base.specs.declared.style.StyleKind.{StyleKind}
use Rattle.rsvp_base.specs.Members.{In}
use Rattle.rsvp_base.specs.Orders.{Names, senders}
use Rattle.rsvp_base.specs.Table.{get, has}
use Rattle.rsvp_base.specs.TokenBucket.{TokenBucket}
use Rattle.rsvp_messages.specs.declared.message.Message.TheVariants as message
use Rattle.rsvp_messages.specs.declared.message.ResvMsg.{ResvMsg}
use Rattle.rsvp_messages.specs.Units.{ask_style, tear_names, tear_style, AskedUnit, asked_units}
use Rattle.laws_bounds.proofs.Knowing.{known_and_via}
use Rattle.router_rules.specs.Facts.{Facts, SenderKey}
use Rattle.router_rules.specs.Inputs.{Spelt}
use Rattle.router_rules.specs.Known.{Lane}
use Rattle.router_rules.specs.NodeConfig.{NodeConfig}
use Rattle.router_rules.specs.Requests.{toward}
use Rattle.tree_model.specs.Networks.{node_of, Net}
use Rattle.tree_model.specs.Trees.{hops_of}
use Rattle.network_model.specs.Bounds.{AreBounds}
use Rattle.network_model.specs.Steps.{outcome, Deliver, step, sent}
use Rattle.network_model.specs.Worlds.{Item, World, config_of}
use Rattle.network_model.proofs.Stepping.{facts_after_made, facts_after_found}
use Rattle.laws_network.proofs.Known.{of_some}
use Rattle.settle_resvs.specs.Said.{HopKey, resv_key, IsOver, hop_over, lane_of}
use Rattle.settle_resvs.specs.SoftResvs.{line_key_of, AsksFor, SaysResv}
use Rattle.settle_resvs.proofs.SoftResvs.{resv_found}
use Rattle.settle_passes.proofs.Turns.{news}
use Rattle.rsvp_base.proofs.Members.{in_each}
use Rattle.rsvp_base.proofs.Tables.{either}
use Rattle.rsvp_messages.specs.declared.message.ResvTearMsg.{ResvTearMsg}
use Rattle.router_rules.specs.Asking.{stays}
use Rattle.tree_model.specs.Goals.{DemandsFit}
use Rattle.network_model.specs.Locals.{locals_of, IsLive}
use Rattle.network_model.proofs.Machines.{in_arrived, in_rest}
use Rattle.tree_model.specs.Wants.{live}
use Rattle.settle_resvs.specs.Laws.{AreWantParts}
use Rattle.settle_passes.specs.Passes.{after_passes}
use Rattle.std.specs.List.{remove}
use Rattle.settle_passes.specs.Calls.{HasItsPaths}
use Rattle.style_rules.specs.Merge.{PartTable}
use Rattle.settle_passes.proofs.Spreading.{after_deliveries, run_then}
use Rattle.settle_passes.proofs.Arriving.{of_item}

pub same_bool : (a b : Bool) → (a ≡ true → b ≡ true) → (b ≡ true → a ≡ true) → a ≡ b
same_bool true b f g = sym (f refl)
same_bool false true f g = g refl
same_bool false false f g = refl

pub plain : (o : World) (net : Net) (k : HopKey) (v : Part) (y : Item) → IsLiveLetter o net k v y → IsLetter net k v y
plain o net k v y (inl a) = inl a
plain o net k v y (inr b) = inr (b.0, b.1, b.2, b.3)

-- ---- one delivery
module _ (q : ℕ) (d : SenderKey) (flow : TokenBucket) (w u o : World) (was : IsLive w d flow) (kinds : AreWantParts (locals_of w)) (r : IsLettingGo q d w u) (net : u.net ≡ w.net)
    (fit : DemandsFit w.net (locals_of w)) (lives : (k : SenderKey) (t : TokenBucket) → IsLive o k t → IsLive u k t) (like : AreAskedLike q o u) where
  abbrev next : World
  next = step q (Deliver 0) u

  r' : IsLettingGo q d w next
  r' = letting_go_next q d flow w u was kinds r

  kept_next : (k : HopKey) (v : Part) (x : Sender) → In (hop_over k) (hops_of u.net.hops k.session.group) → has v.senders x ≡ true → Lives o k x → IsKeptLike o u k v → AllLike o u.net k v u.flight
      → IsKeptLike o next k v
  kept_next k v x there named live c all = by (slice_get u.flight 0) refl
    where
      spares : (y : Item) (m : ResvTearMsg) → slice_get u.flight 0 ≡ Some y → y.arrival ≡ Spelt (message.ResvTear m) → IsOver u.net k y m.session m.hop.addr (tear_style m.tear)
          → (z : Sender) → has v.senders z ≡ true → Lives o k z → stays (tear_names m.tear) z ≡ true
      spares y m arr spelt over z i l = either (stays (tear_names m.tear) z) (λ yes. yes) (λ no.
          let says = all y (in_arrived (Deliver 0) u y arr) (inr (m, spelt, over, record { name = z; was = i; goes = no }, l)) in
          let bad : Spelt (message.ResvTear m) ≡ Spelt (message.Resv says.1.resv) = sym spelt ∙ says.1.spelt in
          absurd (cc))

      by : (a : Option Item) → slice_get u.flight 0 ≡ a → IsKeptLike o next k v
      by None e =
          stays_like q d flow w u o was kinds r net fit lives k there v x named live c (λ y m arr spelt over. let bad : None ≡ Some y = sym e ∙ arr in absurd (cc)) spares
      by (Some y) e =
          ⊎_elim
          (λ (z : (m : ResvMsg) × (y.arrival ≡ Spelt (message.Resv m)) × IsOver u.net k y m.session m.hop.addr (ask_style m.ask)).
          asked_is_kept q d flow w u o was kinds r net fit lives k there v x named live y e (all y (in_arrived (Deliver 0) u y e) (inl z)))
          (λ (no : (m : ResvMsg) → y.arrival ≡ Spelt (message.Resv m) → IsOver u.net k y m.session m.hop.addr (ask_style m.ask) → ⊥).
          stays_like q d flow w u o was kinds r net fit lives k there v x named live c
          (λ z m arr spelt over.
          let is : z ≡ y = of_some z y (sym arr ∙ e) in
          no m (ap (λ (a : Item). a.arrival) (sym is) ∙ spelt) (subst (λ (a : Item). IsOver u.net k a m.session m.hop.addr (ask_style m.ask)) is over)) spares)
          (of_item q u r.fading.bounds k there y)

  by_flight : (k : HopKey) (v : Part) (x : Sender) → In (hop_over k) (hops_of u.net.hops k.session.group) → has v.senders x ≡ true → Lives o k x → (new : List Item) → AllLike o u.net k v new
      → (ys : List Item) → u.flight ≡ ys → IsLikeLast o u.net k v ys
      → (IsKeptLike o next k v × AllLike o u.net k v (remove u.flight 0 ++ new)) ⊎ IsLikeLast o u.net k v (remove u.flight 0 ++ new)
  by_flight k v x there named live new all [] e last = absurd last
  by_flight k v x there named live new all (z ∷ zs) e last =
      let flight : zs ≡ remove u.flight 0 = ap (λ (ys : List Item). remove ys 0) (sym e) in
      subst (λ (ys : List Item). (IsKeptLike o next k v × AllLike o u.net k v (ys ++ new)) ⊎ IsLikeLast o u.net k v (ys ++ new)) flight
      (⊎_elim (λ (more : IsLikeLast o u.net k v zs). inr (last_like_before o u.net k v zs new more all))
      (λ (now : SaysLike o u.net k z v × AllLike o u.net k v zs).
      inl (asked_is_kept q d flow w u o was kinds r net fit lives k there v x named live z (ap (λ (ys : List Item). slice_get ys 0) e) now.0, all_like_append o u.net k v zs new now.1 all)) last)

  pub asked_like_next : AreAskedLike q o next
  asked_like_next k v g x there at goes named live =
      let n : ℕ = node_of u.net.ends k.from in
      let p : NodeConfig = config_of q u.net u.trees n in
      let bounds : AreBounds q u = r.fading.bounds in
      let f = facts_after_found q (Deliver 0) u n g at in
      let after : Facts = (outcome q (Deliver 0) u n f.0).facts in
      let goes' : get (toward p after (lane_of u.net k)) k.unit ≡ Some v = ap (λ (z : Facts). get (toward p z (lane_of u.net k)) k.unit) (sym f.2) ∙ goes in
      let new : List Item = news q (Deliver 0) u in
      let turn = turns q d flow w u was kinds r in
      let ways = ways_before w next (all_came q d flow w next was r'.fading r'.lived) in
      let all_new : AllLike o u.net k v new =
      (λ y i l.
      let z = in_each (λ (a : Item × Bool). a.0) y (sent q (Deliver 0) u) i in
      let says = all_ask_back q (Deliver 0) u bounds turn r'.fading.bounds ways k there after (facts_after_made q (Deliver 0) u n f.0 f.1) v goes' y z.0.1
      (subst (λ (a : Item). In (a, z.0.1) (sent q (Deliver 0) u)) (sym z.2) z.1) (plain o u.net k v y l) in
      (v, says, like_itself o k v)) in
      ⊎_elim
      (λ (same : toward p f.0 (lane_of u.net k) ≡ toward p after (lane_of u.net k)).
      ⊎_elim
      (λ (c : IsKeptLike o u k v × AllLike o u.net k v u.flight).
      inl (kept_next k v x there named live c.0 c.1, all_like_append o u.net k v (remove u.flight 0) new (λ y i l. c.1 y (in_rest (Deliver 0) u y refl i) l) all_new))
      (λ (last : IsLikeLast o u.net k v u.flight). by_flight k v x there named live new all_new u.flight refl last)
      (like k v f.0 x there f.1 (ap (λ (z : PartTable). get z k.unit) same ∙ goes') named live))
      (λ (now : (z : Part) → get (toward p after (lane_of u.net k)) k.unit ≡ Some z
      → IsAskedBack q (Deliver 0) u bounds turn r'.fading.bounds ways k there z).
      let a = now v goes' in
      inr (last_like_behind o u.net k v (remove u.flight 0) new (last_like o u.net k v new a.item a.new (v, a.says, like_itself o k v) all_new)))
      (stays_or_asked_back q (Deliver 0) u bounds turn r'.fading.bounds ways k there f.0 f.1)

-- ---- passes, one after the other
module _ (q : ℕ) (d : SenderKey) (flow : TokenBucket) (w o : World) (was : IsLive w d flow) (kinds : AreWantParts (locals_of w)) (fit : DemandsFit w.net (locals_of w)) where
  pub record IsAsked (u : World) : Type 0 where
    pub going : IsLettingGo q d w u
    pub net : u.net ≡ w.net
    pub lives : (k : SenderKey) (t : TokenBucket) → IsLive o k t → IsLive u k t
    pub back : (k : SenderKey) (t : TokenBucket) → IsLive u k t → IsLive o k t
    pub like : AreAskedLike q o u
    pub wants : (x : LocalWant) → In x (locals_of w).wants → HasNoLess (locals_of u).wants x

  pub asked_next : (u : World) → IsAsked u → IsAsked (step q (Deliver 0) u)
  asked_next u r = record {
    going = letting_go_next q d flow w u was kinds r.going;
    net = (same_next q 0 u r.going.fading.bounds u (known_self q u r.going.fading.bounds).same).net ∙ r.net;
    lives = λ k t l. live_next q 0 u r.going.fading.bounds k t (r.lives k t l);
    back = λ k t l. r.back k t (live_back q 0 u r.going.fading.bounds k t l);
    like = asked_like_next q d flow w u o was kinds r.going r.net fit r.lives r.like;
    wants = λ x i.
        subst (λ (z : Locals). HasNoLess z.wants x) (sym (same_next q 0 u r.going.fading.bounds u (known_self q u r.going.fading.bounds).same).locals) (r.wants x i);
  }

  asked_on : (m : ℕ) (u : World) → IsAsked u → IsAsked (after_deliveries q m u)
  asked_on zero u r = r
  asked_on (suc m) u r = asked_on m (step q (Deliver 0) u) (asked_next u r)

  pub asked_passes : (m : ℕ) (u : World) → IsAsked u → IsAsked (after_passes q m u)
  asked_passes zero u r = r
  asked_passes (suc m) u r =
      let v : World = after_deliveries q (length u.flight) u in
      subst (λ (z : World). IsAsked z) (sym (run_then q (pass q u) (passes q m v) u)) (asked_passes m v (asked_on (length u.flight) u r))

-- ---- where all names are of those that send, it is so whole
module _ (q : ℕ) (o u : World) (paths : HasItsPaths q u) (asks : AreAsksOfLive u) (names_live : AreNamesLive u) (back : (k : SenderKey) (t : TokenBucket) → IsLive u k t → IsLive o k t)
    (lists : (y : Item) (m : ResvMsg) (v : AskedUnit) → In y u.flight → y.arrival ≡ Spelt (message.Resv m) → In v (asked_units m.ask)
    → (ns : Names) × (v.names ≡ Some ns)) (like : AreAskedLike q o u) where
  lives_then : (s : Session) (st : StyleKind) (x : Sender) → IsNameOfLive u s st x → IsNameOfLive o s st x
  lives_then s st x l = record { sender = l.sender; flow = l.flow; live = back (s, l.sender) l.flow l.live; name = l.name }

  same_where_live : (k : HopKey) (a b : Part) → IsLike o k a b → ((x : Sender) → has a.senders x ≡ true → Lives o k x) → ((x : Sender) → has b.senders x ≡ true → Lives o k x) → a ≡ b
  same_where_live k a b l in_a in_b =
      let ns : a.senders ≡ b.senders =
      same_set senders a.senders b.senders
      (λ x. same_bool (has a.senders x) (has b.senders x) (λ i. sym (l.names x (in_a x i)) ∙ i) (λ i. l.names x (in_b x i) ∙ i)) in
      (λ j. record { senders = ns j; flow = l.flow j })

  says_whole : (k : HopKey) (v : Part) → ((x : Sender) → has v.senders x ≡ true → Lives o k x) → (y : Item) → In y u.flight → SaysLike o u.net k y v → SaysResv u.net (resv_key u.net k) y v
  says_whole k v in_v y i says =
      let z = says.1 in
      let m : ResvMsg = z.resv in
      let in_x : (x : Sender) → has says.0.senders x ≡ true → Lives o k x =
      (λ x h.
      lives_then k.session k.style x (subst (λ (b : Session × StyleKind). IsNameOfLive u b.0 b.1 x)
      (λ j. (z.session j, z.style j)) (of_unit y i m z.unit z.spelt z.asks says.0.senders z.names x h))) in
      subst (λ (b : Part). SaysResv u.net (resv_key u.net k) y b) (same_where_live k says.0 v says.2 in_x in_v) z
    where
      of_unit : (y : Item) → In y u.flight → (m : ResvMsg) (un : AskedUnit) → y.arrival ≡ Spelt (message.Resv m) → In un (asked_units m.ask) → (ns : Names) → AsksFor un.names ns → (x : Sender)
          → has ns x ≡ true → IsNameOfLive u m.session (ask_style m.ask) x
      of_unit y i m un spelt j ns for x h = by un.names refl for
        where
          by : (a : Option Names) → un.names ≡ a → AsksFor a ns → IsNameOfLive u m.session (ask_style m.ask) x
          by (Some list) e f = asks y m un list x i spelt j e (ap (λ (z : Names). has z x) (sym f) ∙ h)
          by None e f = let l = lists y m un i spelt j in let bad : None ≡ Some l.0 = sym e ∙ l.1 in absurd (cc)

  all_whole : (k : HopKey) (v : Part) → ((x : Sender) → has v.senders x ≡ true → Lives o k x) → (ys : List Item) → ((y : Item) → In y ys → In y u.flight) → AllLike o u.net k v ys
      → AllAsk u.net k v ys
  all_whole k v in_v ys among all y i (inl a) = says_whole k v in_v y (among y i) (all y i (inl a))
  all_whole k v in_v ys among all y i (inr b) = says_whole k v in_v y (among y i) (all y i (inr (b.0, b.1, b.2, b.3, in_v b.3.name b.3.was)))

  last_whole : (k : HopKey) (v : Part) → ((x : Sender) → has v.senders x ≡ true → Lives o k x) → (ys : List Item) → ((y : Item) → In y ys → In y u.flight) → IsLikeLast o u.net k v ys
      → IsAskedLast u.net k v ys
  last_whole k v in_v [] among last = absurd last
  last_whole k v in_v (y ∷ ys) among last =
      ⊎_elim (λ (more : IsLikeLast o u.net k v ys). inl (last_whole k v in_v ys (λ z i. among z (inr i)) more))
      (λ (now : SaysLike o u.net k y v × AllLike o u.net k v ys).
      inr (says_whole k v in_v y (among y (inl refl)) now.0, all_whole k v in_v ys (λ z i. among z (inr i)) now.1)) last

  pub asked_whole : (s : Session) → AreAskedFor q s u
  asked_whole s k v f of there at goes =
      let here : NodeConfig = config_of q u.net u.trees (node_of u.net.ends k.from) in
      let within = paths.bounds.facts (node_of u.net.ends k.from) f at in
      let lane : Lane = lane_of u.net k in
      let names = toward_names here u.clock f within lane k.unit v goes in
      let in_v : (x : Sender) → has v.senders x ≡ true → Lives o k x =
      (λ x i.
      let a = (known_and_via.all_by f lane x).0 (names.1 x i) in
      let comes = (known_and_via.via_by f lane.session lane.hop a.sender).0 a.among in
      let live = (paths.sound.facts (node_of u.net.ends k.from) f (lane.session, a.sender) comes.path at comes.there).sound.live in
      lives_then k.session k.style x (record { sender = a.sender; flow = comes.path.tspec; live = live; name = a.name })) in
      let first = unit_name k.style v names.0 in
      ⊎_elim
      (λ (c : IsKeptLike o u k v × AllLike o u.net k v u.flight).
      let g = resv_found u (node_of u.net.ends k.to) k.style (line_key_of u.net (resv_key u.net k)) c.0.resv c.0.there in
      let in_resv : (x : Sender) → has c.0.resv.part.senders x ≡ true → Lives o k x =
      (λ x i. lives_then k.session k.style x (names_live k.style (node_of u.net.ends k.to) g.0 (line_key_of u.net (resv_key u.net k)) c.0.resv x g.1 g.2 i)) in
      inl (record { resv = c.0.resv; there = c.0.there; is = same_where_live k c.0.resv.part v c.0.like in_resv in_v }, all_whole k v in_v u.flight (λ y i. i) c.1))
      (λ (last : IsLikeLast o u.net k v u.flight). inr (last_whole k v in_v u.flight (λ y i. i) last))
      (like k v f first.name there at goes first.there (in_v first.name first.there))
