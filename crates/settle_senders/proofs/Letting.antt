-- A host ends in a settled network in which nothing is in flight: what goes from each node stands, or is asked for, but for the sender.
use Rattle.std.proofs.Common.{◌≡◌, ℕ, suc, ◌+◌, ◌*◌, ◌<◌, List, [], ◌∷◌, Bool, true, false, None, Some, ◌⊎◌, inl, inr, ⊎_elim, arith, sym, refl, ap, subst, ◌∙◌}
use Rattle.std.specs.Prelude.{slice_get, not, ◌&&◌}
use Rattle.std.specs.List.{list_all}
use Rattle.settle_senders.proofs.Wanted.{wants_named}
use Rattle.settle_senders.proofs.Ending.{IsLettingGo, a_settled_network_takes_all, all_came, flow, kinds, lets_go, names_live, no_reservation_names_it, no_resv_names_it, was, turns, ways_before}
use Rattle.settle_senders.proofs.Going.{AllLike, AreAskedLike, IsKeptLike, Lives, all_like_append, last_like, last_like_behind, like_itself, kept_some, kept_less, IsKeptFor}
use Rattle.settle_passes.proofs.Turns.{HaveWays, IsAskedBack, all_ask_back, stays_or_asked_back}
use Rattle.settle_senders.proofs.Asked.{IsAsked, asked_next, asked_passes, asked_whole, plain, same_bool}
use Rattle.settle_senders.proofs.Parting.{a_sender_that_ends_leaves_no_error, mute, no_rows, silent, start, unrefused}
use Rattle.settle_senders.proofs.Refusing.{IsUnrefused, unrefused_next}
use Rattle.settle_senders.proofs.Asking.{asks_next, paths_next}
use Rattle.settle_passes.proofs.Serving.{settled_is_reserved}
use Rattle.settle_passes.proofs.Reserving.{some_asks}
use Rattle.settle_passes.specs.Reserving.{AllAsk, HasReserved, IsAskedLast, IsKeptOver}
use Rattle.settle_passes.proofs.Turns.{Turns, news}
use Rattle.tree_model.specs.Ranks.{has_hop, longest, rank}
use Rattle.network_model.specs.Bounds.{IsStart}
use Rattle.network_model.specs.Sound.{AreResvsSound, HasNoFlowError, TakesAll}
use Rattle.settle_resvs.specs.Sessions.{AreExactOf}
use Rattle.settle_senders.proofs.Serving.{passes_sum}
use Rattle.tree_model.proofs.WantLaws.{name_made, name_told, want_names}
use Rattle.tree_model.specs.Wants.{goes_over, live, names, want}
use Rattle.tree_model.specs.Goals.{demand_of, addr_of}
use Rattle.rsvp_base.specs.declared.part.Part.{Part}
use Rattle.rsvp_base.specs.declared.session.Sender.{Sender}
use Rattle.rsvp_base.specs.declared.session.Session.{Session}
use Rattle.rsvp_base.specs.declared.style.StyleKind.{StyleKind}
use Rattle.rsvp_base.specs.Members.{In}
use Rattle.rsvp_base.specs.Orders.{entry_keys}
use Rattle.rsvp_base.specs.Table.{get, has}
use Rattle.rsvp_base.proofs.Members.{in_each}
use Rattle.rsvp_base.proofs.SetLaws.{and_both}
use Rattle.rsvp_base.proofs.Tables.{same_table}
use Rattle.style_rules.specs.Lines.{LineKey}
use Rattle.router_rules.specs.Books.{book}
use Rattle.router_rules.specs.Facts.{Facts, resvs_of, SenderKey}
use Rattle.router_rules.specs.Forgetting.{is_lost}
use Rattle.router_rules.specs.Inputs.{Call, DropAs, Local}
use Rattle.router_rules.specs.Known.{known, named_as}
use Rattle.router_rules.specs.NodeConfig.{NodeConfig}
use Rattle.router_rules.specs.Requests.{toward}
use Rattle.laws_bounds.proofs.Knowing.{known_and_via}
use Rattle.laws_bounds.proofs.Lists.{one_name}
use Rattle.router_rules.specs.Steps.{facts_then, node_step}
use Rattle.rsvp_base.specs.declared.addr.Addr.{Addr}
use Rattle.rsvp_base.specs.TokenBucket.{TokenBucket}
use Rattle.style_rules.specs.PartLaws.{part_at_most_told}
use Rattle.router_rules.specs.Rule.{Outcome}
use Rattle.tree_model.specs.declared.locals.LocalWant.{LocalWant}
use Rattle.tree_model.specs.Networks.{Net, iface_of, node_of}
use Rattle.tree_model.specs.Trees.{outward, tree}
use Rattle.tree_model.proofs.Following.{has_hop_in}
use Rattle.tree_model.proofs.Ifaces.{interfaces_are_ends}
use Rattle.tree_model.proofs.TreeLaws.{out_tested, the_root_has_no_inward}
use Rattle.network_model.specs.Locals.{IsLive, locals_of}
use Rattle.network_model.specs.Steps.{Step, is_quiet, ms_of, still, outcome, Deliver, step, sent, At}
use Rattle.network_model.specs.Worlds.{Item, World, config_of}
use Rattle.settle_senders.specs.Ending.{IsNameOfLive, AreAsksOfLive, AreNamesLive}
use Rattle.settle_passes.proofs.Growing.{HasNoLess, still_wanted}
use Rattle.network_model.proofs.Stepping.{facts_after_made, facts_after_found}
use Rattle.settle_resvs.specs.Said.{HopKey, resv_key, lane_of}
use Rattle.settle_resvs.specs.SoftResvs.{line_key_of}
use Rattle.settle_resvs.proofs.SoftResvs.{resv_found, resv_made}
use Rattle.settle_resvs.specs.Laws.{AreWantParts}
use Rattle.settle_passes.specs.Passes.{after_passes}
use Rattle.settle_passes.specs.Calls.{HasItsPaths, SendsAt, after_drop}
use Rattle.settle_passes.proofs.Called.{IsCalled, called, turns as called_turns, wants_same}
use Rattle.style_rules.specs.Merge.{PartTable}
use Rattle.style_rules.specs.CutLaws.{name_some}
use Rattle.settle_senders.proofs.TakenFor.{known_of_live, same_addr}
use Rattle.laws_steps.proofs.Asking.{what_keeps_a_reservation_fact}
use Rattle.settle_paths.proofs.PreviousHops.{live_among, ends_there, same_by_addr}
use Rattle.settle_network.specs.Settled.{HasSettled}
use Rattle.tree_model.specs.declared.hops.LinkHop.{LinkHop}
use Rattle.laws_network.specs.Known.{IsSameNet}
use Rattle.laws_network.proofs.Standing.{same_end}
use Rattle.settle_resvs.proofs.WantStyles.{want_parts}
use Rattle.settle_network.proofs.Reports.{entries_are_the_demand}
use Rattle.settle_releases.proofs.Sinking.{IsSinking, reservations_sink, sound_when_sunk}

module _ (q n : ℕ) (d : SenderKey) (w : World) (begins : IsStart q w) (settled : HasSettled q w) (quiet : w.flight ≡ []) (sends : SendsAt w n d) where
  abbrev begun : World
  begun = after_drop q n d w

  abbrev call : Local
  call = DropAs d.0 d.1

  st' : HasItsPaths q w
  st' = start q n d w begins settled quiet sends

  abbrev pub flow_now : TokenBucket
  flow_now = (flow q n d w (start q n d w begins settled quiet sends) settled.resvs_sound sends (silent q n d w begins settled quiet sends) (mute q n d w begins settled quiet sends)).0

  abbrev pub was_now : IsLive w d flow_now
  was_now = was q n d w (start q n d w begins settled quiet sends) settled.resvs_sound sends (silent q n d w begins settled quiet sends) (mute q n d w begins settled quiet sends)

  abbrev pub kinds_now : AreWantParts (locals_of w)
  kinds_now = kinds q n d w (start q n d w begins settled quiet sends) settled.resvs_sound sends (silent q n d w begins settled quiet sends) (mute q n d w begins settled quiet sends)

  pub going_now : IsLettingGo q d w begun
  going_now = lets_go q n d w (start q n d w begins settled quiet sends) settled.resvs_sound sends (silent q n d w begins settled quiet sends) (mute q n d w begins settled quiet sends)

  turn : (m : ℕ) (f : Facts) → slice_get w.nodes m ≡ Some f → (outcome q (At n call) w m f ≡ still f) ⊎ Turns q (At n call) w m f
  turn = called_turns q n call w

  ways : HaveWays begun
  ways = ways_before w begun (all_came q d flow_now w begun was_now going_now.fading going_now.lived)

  -- a reservation stays, with the names of those that send
  kept_begun : (k : HopKey) (v : Part) (first : Sender) → has v.senders first ≡ true → Lives begun k first → IsKeptOver w k v → IsKeptLike begun begun k v
  kept_begun k v first named goes c =
      let m : ℕ = node_of w.net.ends k.to in
      let key : LineKey = line_key_of w.net (resv_key w.net k) in
      let p : NodeConfig = config_of q w.net w.trees m in
      let f = resv_found w m k.style key c.resv c.there in
      let g : Facts = (outcome q (At n call) w m f.0).facts in
      let after : slice_get begun.nodes m ≡ Some g = facts_after_made q (At n call) w m f.0 f.1 in
      let y = settled.resvs_sound.facts k.style m f.0 key c.resv f.1 f.2 in
      let of = (interfaces_are_ends w.net).iface_of_end m key.1.0.0 y.end y.at in
      let up = part_at_most_told c.resv.part y.sound.wanted y.sound.below in
      let in_resv : (x : Sender) → has c.resv.part.senders x ≡ has v.senders x = (λ x. ap (λ (z : Part). has z.senders x) c.is) in
      let known_then : (x : Sender) → has c.resv.part.senders x ≡ true → Lives begun k x → has (named_as k.style (known g k.session)) x ≡ true =
      (λ x i b.
      let a = name_told k.style w.net (locals_of w) k.session (y.sound.hop ∷ []) x
      (want_names k.style w.net (locals_of w) k.session y.sound.hop key.1.1 y.sound.wanted y.sound.is x (up.names x i)) in
      let addr : a.0.addr ≡ b.sender.addr = same_addr k.style a.0 b.sender (sym a.3 ∙ b.name) in
      let hop : In y.sound.hop (tree w.net.hops k.session.group b.sender.addr) =
      subst (λ (z : Addr). In y.sound.hop (tree w.net.hops k.session.group z)) addr (has_hop_in (tree w.net.hops k.session.group a.0.addr) y.sound.hop (and_both _ _ a.2).0) in
      let leaves : In y.sound.hop.from (outward w.net m k.session.group b.sender.addr) =
      out_tested w.net m y.sound.hop.from k.session.group b.sender.addr (y.sound.hop, hop, refl, ap (node_of w.net.ends) y.sound.from ∙ of.1) in
      let reaches = (the_root_has_no_inward w.net begins.bounds.net).entered m y.sound.hop.from k.session.group b.sender.addr leaves in
      (known_and_via.named_by k.style (known g k.session) x).1
      (record { sender = b.sender; among = known_of_live q d begun going_now.fading m g after k.session b.sender b.flow b.live reaches; passes = refl; name = b.name })) in
      let ends : IsKeptFor k.style g key c.resv (Lives begun k) → IsKeptLike begun begun k v =
      (λ z. record {
        resv = z.resv;
        there = resv_made begun m k.style key g after ∙ z.there;
        like = record {
          flow = z.flow ∙ ap (λ (b : Part). b.flow) c.is;
          names = λ x l. same_bool (has z.resv.part.senders x) (has c.resv.part.senders x) (z.less x) (λ h. z.names x h l) ∙ in_resv x;
        };
      }) in
      ⊎_elim
      (λ (z : outcome q (At n call) w m f.0 ≡ still f.0).
      ends (record { resv = c.resv; there = ap (λ (b : Outcome). get (resvs_of k.style b.facts) key) z ∙ f.2; flow = refl; less = λ x i. i; names = λ x i l. i }))
      (λ (h : IsCalled q w n call m f.0).
      let same : g ≡ facts_then p p (w.clock + ms_of (At n call)) (Call call) f.0 = ap (λ (b : Outcome). b.facts) h.is in
      let then_facts : Facts = facts_then p p (w.clock + ms_of (At n call)) (Call call) f.0 in
      let known_still : (x : Sender) → has c.resv.part.senders x ≡ true → Lives begun k x → has (named_as k.style (known then_facts k.session)) x ≡ true =
      (λ x i l. ap (λ (b : Facts). has (named_as k.style (known b k.session)) x) (sym same) ∙ known_then x i l) in
      let lives_on : w.clock + ms_of (At n call) < c.resv.dies = (let z = ((begins.bounds.facts m f.0 f.1).alive.resvs k.style key c.resv f.2).later in omega (arith, z)) in
      let s = what_keeps_a_reservation_fact.some (node_step p p w.clock (w.clock + ms_of (At n call)) (Call call) f.0) (begins.bounds.facts m f.0 f.1) k.style key c.resv f.2 lives_on (λ z. z) first
      (in_resv first ∙ named) (known_still first (in_resv first ∙ named) goes) in
      ends (subst (λ (b : Facts). IsKeptFor k.style b key c.resv (Lives begun k)) (sym same)
      (record {
        resv = s.0;
        there = s.1;
        flow = s.2.flow;
        less = kept_less (λ (z : Sender). not (is_lost k.style f.0 then_facts k.session z)) c.resv s.0 s.2;
        names = λ x i l. kept_some (λ (z : Sender). not (is_lost k.style f.0 then_facts k.session z)) c.resv s.0 s.2 x i (ap not (not_lost (has (named_as k.style (known f.0 k.session)) x)
            (known_still x i l)));
      })))
      (called q w n call m f.0)
    where
      not_lost : (a : Bool) {b : Bool} → b ≡ true → (a && not b) ≡ false
      not_lost true {b} e = ap not e
      not_lost false {b} e = refl

  like_begun : AreAskedLike q begun begun
  like_begun k v g x there at goes named live =
      let m : ℕ = node_of w.net.ends k.from in
      let p : NodeConfig = config_of q w.net w.trees m in
      let f = facts_after_found q (At n call) w m g at in
      let after : Facts = (outcome q (At n call) w m f.0).facts in
      let goes' : get (toward p after (lane_of w.net k)) k.unit ≡ Some v = ap (λ (z : Facts). get (toward p z (lane_of w.net k)) k.unit) (sym f.2) ∙ goes in
      let new : List Item = news q (At n call) w in
      let all_new : AllLike begun w.net k v new =
      (λ y i l.
      let z = in_each (λ (a : Item × Bool). a.0) y (sent q (At n call) w) i in
      let says = all_ask_back q (At n call) w begins.bounds turn going_now.fading.bounds ways k there after (facts_after_made q
      (At n call) w m f.0 f.1) v goes' y z.0.1
      (subst (λ (a : Item). In (a, z.0.1) (sent q (At n call) w)) (sym z.2) z.1) (plain begun w.net k v y l) in
      (v, says, like_itself begun k v)) in
      ⊎_elim
      (λ (same : toward p f.0 (lane_of w.net k) ≡ toward p after (lane_of w.net k)).
      ⊎_elim
      (λ (c : IsKeptOver w k v × AllAsk w.net k v w.flight).
      inl (kept_begun k v x named live c.0, all_like_append begun w.net k v w.flight new (λ y i l. absurd (subst (λ (z : List Item). In y z) quiet i)) all_new))
      (λ (last : IsAskedLast w.net k v w.flight). let y = some_asks w.net k v w.flight last in absurd (subst (λ (z : List Item). In y.0 z) quiet y.1))
      ((settled_is_reserved q w begins settled quiet k.session).asked k v f.0 refl there f.1 (ap (λ (z : PartTable). get z k.unit) same ∙ goes')))
      (λ (now : (z : Part) → get (toward p after (lane_of w.net k)) k.unit ≡ Some z
      → IsAskedBack q (At n call) w begins.bounds turn going_now.fading.bounds ways k there z).
      let a = now v goes' in
      inr (last_like_behind begun w.net k v w.flight new (last_like begun w.net k v new a.item a.new (v, a.says, like_itself begun k v) all_new)))
      (stays_or_asked_back q (At n call) w begins.bounds turn going_now.fading.bounds ways k there f.0 f.1)

  -- what is wanted locally is what was
  wants_begun : (x : LocalWant) → In x (locals_of w).wants → HasNoLess (locals_of begun).wants x
  wants_begun = still_wanted (locals_of w).wants (locals_of begun).wants (sym (wants_same q n call w refl))

  asked_then : (i : ℕ) → IsAsked q d flow_now w begun was_now kinds_now begins.fit (after_passes q i begun)
  asked_then i =
      asked_passes q d flow_now w begun was_now kinds_now begins.fit i begun
      (record { going = going_now; net = refl; lives = λ k t l. l; back = λ k t l. l; like = like_begun; wants = wants_begun })

  -- ---- and falls to what is wanted
  pub record IsLetDown (u : World) : Type 0 where
    pub asked : IsAsked q d flow_now w begun was_now kinds_now begins.fit u
    pub unrefused : IsUnrefused q d flow_now w was_now kinds_now begins.fit u
    pub paths : HasItsPaths q u
    pub asks : AreAsksOfLive u

  pub let_down_next : (u : World) → IsLetDown u → IsLetDown (step q (Deliver 0) u)
  let_down_next u r = record {
    asked = asked_next q d flow_now w begun was_now kinds_now begins.fit u r.asked;
    unrefused = unrefused_next q d flow_now w was_now kinds_now begins.fit u r.unrefused;
    paths = paths_next q u r.paths;
    asks = asks_next q u r.paths r.asks;
  }

  pub let_down : (i : ℕ) → IsLetDown (after_passes q (longest w.net + suc i) begun)
  let_down i = record {
    asked = asked_then (longest w.net + suc i);
    unrefused = unrefused q n d w begins settled quiet sends (longest w.net + suc i);
    paths = (no_reservation_names_it q n d w (start q n d w begins settled quiet sends) settled.resvs_sound sends (silent q n d w begins settled quiet sends)
        (mute q n d w begins settled quiet sends) (suc i)).0;
    asks = no_resv_names_it q n d w (start q n d w begins settled quiet sends) settled.resvs_sound sends (silent q n d w begins settled quiet sends) (mute q n d w begins settled quiet sends) i;
  }

  names_live_in : (u : World) → IsLetDown u → AreNamesLive u
  names_live_in u r = names_live q d w u r.asked.going r.paths

  names_on : (u : World) → IsLetDown u → (st : StyleKind) (c : Session) (x : Sender) → IsNameOfLive u c st x → (hs : List LinkHop) → has (names st u.net (locals_of w) c hs) x ≡ true
      → has (names st u.net (locals_of u) c hs) x ≡ true
  names_on u r st c x b hs i =
      let a = name_told st u.net (locals_of w) c hs x i in
      let addr : a.0.addr ≡ b.sender.addr = same_addr st a.0 b.sender (sym a.3 ∙ b.name) in
      let over : goes_over u.net c hs b.sender ≡ true = ap (λ (z : Addr). list_all (has_hop (tree u.net.hops c.group z)) hs) (sym addr) ∙ a.2 in
      subst (λ (z : Sender). has (names st u.net (locals_of u) c hs) z ≡ true) (sym b.name)
      (name_made st u.net (locals_of u) c hs b.sender (live_among u c b.sender b.flow b.live) over)

  pub sinks : (s : Session) (u : World) → IsLetDown u → IsSinking q s w.nodes u
  sinks s u r = record {
    paths = r.paths;
    within = r.asked.going.within;
    free = λ m f at t. r.unrefused.free m f (s, t) at;
    asked = asked_whole q begun u r.paths r.asks (names_live_in u r) r.asked.back
        (λ y m v j spelt asks. let x = r.asked.going.within.items y m v j spelt asks in (x.names, x.named)) r.asked.like s;
    turns = turns q d flow_now w u was_now kinds_now r.asked.going;
    named = λ st m f k x h z at e i was. names_on u r st k.0 z (names_live_in u r st m f k x z at e i) (h ∷ []) was;
    left_over = λ st h un f g x there at e node none wanted.
        let y = r.asked.going.within.facts st (node_of u.net.ends h.from) f (s, ((iface_of u.net.ends h.from, addr_of u.net h.to), un)) x at e in
        let inside = ends_there u.net r.paths.bounds.net s.group h there in
        let theirs = ends_there u.net r.paths.bounds.net s.group y.sound.hop y.sound.there in
        let of = (interfaces_are_ends u.net).iface_of_end (node_of u.net.ends h.from) (iface_of u.net.ends h.from) y.end y.at in
        let from : y.sound.hop.from ≡ h.from = y.sound.from ∙ same_end u.net y.end h.from of.0 inside.0 of.1 of.2 in
        let to : y.sound.hop.to ≡ h.to = same_by_addr u.net r.paths.bounds.net y.sound.hop.to h.to theirs.1 inside.1 y.sound.to in
        let same : y.sound.hop ≡ h = (λ j. record { from = from j; to = to j }) in
        let up = part_at_most_told x.part y.sound.wanted y.sound.below in
        let first = one_name x.part.senders (name_some x.part.senders y.sound.some) in
        let live = names_live_in u r st (node_of u.net.ends h.from) f (s, ((iface_of u.net.ends h.from, addr_of u.net h.to), un)) x first.0 at e first.1 in
        let z = wants_named st u.net r.paths.bounds.net.loop_free (locals_of w) (locals_of u) s kinds_now (want_parts q u r.paths.bounds) r.asked.wants first.0 (names_on u r st s first.0 live)
        (rank u.net s.group h) h (omega arith) un y.sound.wanted (ap (λ (z : LinkHop). get (want st u.net (locals_of w) s z) un) (sym same) ∙ y.sound.is) (up.names first.0 first.1) in
        let bad : None ≡ Some z.0 = sym wanted ∙ z.1 in
        absurd (cc);
  }

  settled_then : (i : ℕ) → HasSettled q (after_passes q (2 * longest w.net + suc i) begun)
  settled_then i =
      let u : World = after_passes q (longest w.net + suc i) begun in
      let v : World = after_passes q (longest u.net) u in
      let r : (s : Session) → IsLetDown v × HasReserved s v × IsSameNet u v =
      (λ s. reservations_sink q s w.nodes IsLetDown (sinks s) let_down_next u (let_down i)) in
      let one : IsLetDown v = (r some_session).0 in
      let exact : (s : Session) → AreExactOf s v = (λ s. (r s).1.exact) in
      let sound : AreResvsSound v = record {
        facts = λ st m f k x at e. sound_when_sunk q k.0 w.nodes IsLetDown (sinks k.0) let_down_next v one (exact k.0) st m f k x at e refl;
        items = λ y m un j spelt asks. absurd ((r m.session).1.no_resv y m j spelt refl);
      } in
      let net : u.net ≡ w.net = one_net u (let_down i) in
      let sum : (longest w.net + suc i) + longest w.net ≡ 2 * longest w.net + suc i = omega arith in
      let is : v ≡ after_passes q (2 * longest w.net + suc i) begun =
      ap (λ (z : Net). after_passes q (longest z) u) net ∙ sym (passes_sum q (longest w.net + suc i) (longest w.net) begun) ∙ ap (λ (m : ℕ). after_passes q m begun) sum in
      let taken : longest w.net + suc (longest w.net + i) ≡ 2 * longest w.net + suc i = omega arith in
      let takes : (t : Step) → is_quiet t ≡ true → TakesAll q t (after_passes q (2 * longest w.net + suc i) begun) =
      (λ t quiet_one. subst (λ (m : ℕ). TakesAll q t (after_passes q m begun)) taken (a_settled_network_takes_all q n (longest w.net + i) d w begins settled quiet sends t quiet_one)) in
      subst (λ (z : World). HasSettled q z) is
      (record {
        paths_sound = one.paths.sound;
        paths_complete = one.paths.complete;
        resvs_sound = sound;
        resvs_exact = λ st c h there. exact c st h there;
        books = λ e f lt at. same_table entry_keys (book f (iface_of v.net.ends e)) (demand_of v.net (locals_of v) e)
            (λ k. entries_are_the_demand q k.session v one.paths.bounds sound (exact k.session) e lt f at k refl);
        takes_all = λ t quiet_one. subst (λ (z : World). TakesAll q t z) (sym is) (takes t quiet_one);
        no_flow_error = subst HasNoFlowError (sym is) (a_sender_that_ends_leaves_no_error q n d w begins settled quiet sends i);
        no_blockade = record { walls = λ m f at. no_rows f.walls (λ k. one.unrefused.free m f k at) };
      })
    where
      one_net : (u : World) → IsLetDown u → u.net ≡ w.net
      one_net u r = r.asked.net

      some_session : Session
      some_session = record { group = record { 0 = 0 }; proto = 0; port = 0 }

  pub a_settled_network_lets_a_sender_go : (i : ℕ) → HasSettled q (after_passes q (2 * longest w.net + suc i) begun)
  a_settled_network_lets_a_sender_go = settled_then
