-- Half a period keeps the ledger: nothing dies, and what is sent says what stands once all before it has come.
use Rattle.std.specs.Prelude.{map as each, not, slice_get, sum_by}
use Rattle.std.specs.List.{filter}
use Rattle.rsvp_base.specs.declared.part.Part.{Part}
use Rattle.rsvp_base.specs.declared.session.Session.{Session}
use Rattle.rsvp_base.specs.Members.{In}
use Rattle.rsvp_base.specs.Orders.{Names}
use Rattle.rsvp_base.specs.Table.{get, has}
use Rattle.rsvp_base.proofs.Members.{in_append, in_left, in_right}
use Rattle.rsvp_messages.specs.declared.message.Message.TheVariants as message
use Rattle.rsvp_messages.specs.declared.message.PathMsg.{PathMsg}
use Rattle.router_rules.specs.Facts.{Facts, Paths, SenderKey}
use Rattle.router_rules.specs.Inputs.{Spelt}
use Rattle.router_rules.specs.Known.{known}
use Rattle.router_rules.specs.Requests.{toward}
use Rattle.tree_model.specs.declared.hops.LinkHop.{LinkHop}
use Rattle.tree_model.specs.Goals.{addr_of}
use Rattle.tree_model.specs.Networks.{iface_of, node_of}
use Rattle.tree_model.specs.Trees.{hops_of, inward, tree}
use Rattle.tree_model.specs.Wants.{live}
use Rattle.tree_model.proofs.Ifaces.{interfaces_are_ends}
use Rattle.network_model.specs.Bounds.{AreBounds}
use Rattle.network_model.specs.Locals.{IsLive, locals_of}
use Rattle.network_model.specs.Steps.{outcome, sent, step}
use Rattle.network_model.specs.Worlds.{Item, World, config_of}
use Rattle.network_model.proofs.Stepping.{facts_after_made}
use Rattle.settle_resvs.specs.Said.{HopKey}
use Rattle.settle_resvs.proofs.SoftResvs.{resv_made}
use Rattle.settle_passes.specs.Reserving.{IsKeptOver}
use Rattle.settle_passes.proofs.Deliveries.{known_self}
use Rattle.settle_senders.specs.Following.{IsFollowing}
use Rattle.settle_openings.specs.Opening.{IsGoingOn}
use Rattle.tree_model.specs.declared.locals.LocalSender.{LocalSender}
use Rattle.tree_model.specs.Wants.{Locals}
use Rattle.std.proofs.Common.{◌≡◌, ℕ, suc, ◌*◌, ◌≤◌, List, [], ◌∷◌, ◌++◌, length, Bool, true, Option, None, Some, ◌⊎◌, inl, inr, ⊎_elim, arith, sym, refl, ap, subst, ◌∙◌, append_assoc}
use Rattle.rsvp_messages.specs.declared.message.ResvMsg.{ResvMsg}
use Rattle.rsvp_messages.specs.Units.{ask_style}
use Rattle.tree_model.specs.Trees.{hops_of}
use Rattle.tree_model.proofs.TreeLaws.{way_in_tested}
use Rattle.settle_resvs.specs.Said.{HopKey, hop_over, resv_key}
use Rattle.settle_resvs.specs.SoftResvs.{SaysResv}
use Rattle.settle_resvs.proofs.ResvSends.{IsResvSent}
use Rattle.settle_passes.specs.Passes.{IsPathOver}
use Rattle.settle_passes.specs.Reserving.{AllAsk, IsAskedLast, IsKeptOver}
use Rattle.settle_openings.proofs.Sent.{back_over}
use Rattle.settle_openings.specs.Waves.{payers}
use Rattle.laws_bounds.specs.SendLaws.{IsAskedOf}
use Rattle.laws_network.specs.Known.{IsSameNet}
use Rattle.laws_bounds.proofs.Asks.{units_told}
use Rattle.style_rules.specs.PartLaws.{same_part}
use Rattle.rsvp_messages.specs.declared.message.ResvTearMsg.{ResvTearMsg}
use Rattle.rsvp_messages.specs.Units.{tear_style}
use Rattle.laws_steps.specs.ReservationLaws.{TakesName}
use Rattle.network_model.specs.Steps.{Piece}
use Rattle.network_model.proofs.Stepping.{facts_after_found}
use Rattle.laws_network.proofs.Known.{same_kept}
use Rattle.router_rules.specs.Known.{known}
use Rattle.settle_paths.proofs.PreviousHops.{ends_there, same_by_addr}
use Rattle.settle_resvs.specs.Said.{IsOver, lane_of}
use Rattle.settle_resvs.specs.SoftResvs.{AsksFor, line_key_of}
use Rattle.settle_resvs.proofs.SoftResvs.{resv_found, resv_made}
use Rattle.settle_resvs.proofs.TowardNames.{parts_of_style}
use Rattle.settle_passes.specs.Passes.{Knows}
use Rattle.settle_passes.proofs.Arriving.{all_append, last_before}
use Rattle.settle_openings.specs.Opening.{AreLasting}
use Rattle.settle_openings.proofs.Going.{some_session}
use Rattle.settle_openings.proofs.Sent.{asks_for}
use Rattle.settle_openings.proofs.Waiting.{bounds', going_on', paths_are, resvs_are, sends, sound', toward_is}
use Rattle.settle_openings.proofs.Waiting as waiting
use Rattle.settle_openings.proofs.WavePays.{Covers, HasPath, IsBefore, IsIdle, IsPathTo, LastSays, Pays, covers_append, covers_map}
use Rattle.settle_openings.proofs.WaveLedger.{total}
use Rattle.settle_openings.proofs.WaveLeft.{fewer, is_untold, known_in, left_in, left_of, many}
use Rattle.settle_refreshes.proofs.Counting.{sum_at_most}

-- numbers of nobody
pub nothings : {A : Type 0} → List A → List ℕ
nothings [] = []
nothings (x ∷ xs) = 0 ∷ nothings xs

pub nothings_total : {A : Type 0} (xs : List A) → total (nothings xs) ≡ 0
unfolding nothings
nothings_total [] = refl
nothings_total (x ∷ xs) = let rest = nothings_total xs in omega (arith, rest)

pub nothings_many : {A : Type 0} (xs : List A) → length (nothings xs) ≡ length xs
unfolding nothings
nothings_many [] = refl
nothings_many (x ∷ xs) = ap suc (nothings_many xs)

module _ (q : ℕ) (u : World) (r : IsGoingOn q u) (l : AreLasting q 0 u) where
  le : 2 * q ≤ 2 * q
  le = omega arith

  abbrev next : World
  next = step q (Piece (2 * q)) u

  abbrev pub news : List Item
  news = each (λ (z : Item × Bool). z.0) (sent q (Piece (2 * q)) u)

  first : IsFollowing q some_session u
  first = r.follows some_session

  bounds : AreBounds q u
  bounds = first.paths.bounds

  on : IsGoingOn q next
  on = going_on' q (2 * q) u le r l

  inside : AreBounds q next
  inside = bounds' q (2 * q) u le r l

  same_net : IsSameNet u next
  same_net = same_kept q (Piece (2 * q)) u refl bounds u (known_self q u bounds).same

  same_payers : payers u.net (locals_of u) ≡ payers next.net (locals_of next)
  same_payers = ap (λ (z : Locals). payers u.net z) (sym same_net.locals)

  kept_on : (k : HopKey) (v : Part) → IsKeptOver u k v → IsKeptOver next k v
  kept_on k v c =
      let n : ℕ = node_of u.net.ends k.to in
      let key = line_key_of u.net (resv_key u.net k) in
      let f = resv_found u n k.style key c.resv c.there in
      record {
        resv = c.resv;
        there = resv_made next n k.style key (outcome q (Piece (2 * q)) u n f.0).facts (facts_after_made q (Piece (2 * q)) u n f.0 f.1)
            ∙ ap (λ z. get z key) (resvs_are q (2 * q) u le r l n f.0 f.1 k.style) ∙ f.2;
        is = c.is;
      }

  path_on : (n : ℕ) (k : SenderKey) → HasPath u n k → HasPath next n k
  path_on n k h = (
    (outcome q (Piece (2 * q)) u n h.0).facts,
    facts_after_made q (Piece (2 * q)) u n h.0 h.1,
    (h.2.0, ap (λ (z : Paths). get z k) (paths_are q (2 * q) u le r l n h.0 h.1) ∙ h.2.1),
  )

  says_on : (k : HopKey) (v : Part) (ys : List Item) → LastSays u k v ys → LastSays next k v ys
  says_on k v ys last = ⊎_elim (λ (c : IsKeptOver u k v × AllAsk u.net k v ys). inl (kept_on k v c.0, c.1)) (λ (a : IsAskedLast u.net k v ys). inr a) last

  idle_old : (ys : List Item) (z : Item) → IsIdle u ys z → IsIdle next ys z
  idle_old ys z i = record {
    resv = λ k v there says. says_on k v ys (i.resv k v there says);
    path = λ k h there p. ⊎_elim (λ (has_it : HasPath u (node_of u.net.ends h.to) k). inl (path_on (node_of u.net.ends h.to) k has_it)) (λ (b : IsBefore k h ys). inr b) (i.path k h there p);
  }

  -- ---- what is sent
  in_flight : (z : Item) → In z news → In z next.flight
  in_flight z i = in_right z u.flight news i

  module _ (z : Item) (i : In z news) where
    module _ (k : HopKey) (v : Part) (there : In (hop_over k) (hops_of u.net.hops k.session.group)) (says : SaysResv u.net (resv_key u.net k) z v) where
      abbrev asker : ℕ
      asker = node_of u.net.ends k.from

      p : IsResvSent q next.net next.trees next z says.resv
      p = sends q (2 * q) u le r l z says.resv i says.spelt

      lane_is : (p.node ≡ asker) × (p.lane ≡ lane_of u.net k)
      lane_is =
          let x = back_over q next inside (sound' q (2 * q) u le r l) z says.resv p in
          let ends = ends_there u.net bounds.net k.session.group (hop_over k) there in
          let of = (interfaces_are_ends u.net).iface_of_end p.node p.lane.hop.0 p.end p.at in
          let end : p.end ≡ k.from = same_by_addr u.net bounds.net p.end k.from of.0 ends.1 (sym p.hop ∙ says.hop) in
          let session : p.lane.session ≡ k.session = sym p.session ∙ says.session in
          let style : p.lane.style ≡ k.style = sym p.style ∙ says.style in
          let from : x.0.from ≡ k.to = x.2 ∙ says.end in
          let to : x.0.to ≡ k.from = x.3 ∙ end in
          let iface : p.lane.hop.0 ≡ iface_of u.net.ends k.from = sym x.1.iface ∙ ap (iface_of u.net.ends) to in
          let addr : p.lane.hop.1 ≡ addr_of u.net k.to = sym x.1.addr ∙ ap (addr_of u.net) from in
          (sym x.1.node ∙ ap (node_of u.net.ends) to, λ j. record { session = session j; style = style j; hop = (iface j, addr j) })

      -- it says what goes
      goes : get (toward (config_of q u.net u.trees asker) p.facts (lane_of u.net k)) k.unit ≡ Some v
      goes =
          let asked : IsAskedOf (toward (config_of q u.net u.trees p.node) p.facts p.lane) says.unit =
          (units_told p.lane.style (toward (config_of q u.net u.trees p.node) p.facts p.lane) says.resv.ask says.unit
          (parts_of_style (config_of q u.net u.trees p.node) next.clock p.facts (inside.facts p.node p.facts p.after) p.lane) p.asks).0 says.asks in
          let listed : AsksFor (Some asked.part.senders) v.senders = subst (λ (o : Option Names). AsksFor o v.senders) asked.names says.names in
          let part : v ≡ asked.part = same_part v asked.part listed (says.flow ∙ asked.flow) in
          (λ j. get (toward (config_of q u.net u.trees (sym lane_is.0 j)) p.facts (sym lane_is.1 j)) (sym says.at j)) ∙ asked.there ∙ ap Some (sym part)

      facts_at : slice_get next.nodes asker ≡ Some p.facts
      facts_at = ap (slice_get next.nodes) (sym lane_is.0) ∙ p.after

      all_new : (pre : List Item) → ((x : Item) → In x pre → In x news) → AllAsk u.net k v pre
      all_new pre sub y j letter =
          ⊎_elim
          (λ (x : (m : ResvMsg) × (y.arrival ≡ Spelt (message.Resv m)) × IsOver u.net k y m.session m.hop.addr (ask_style m.ask)).
          asks_for q next inside (sound' q (2 * q) u le r l) y x.0 (sends q (2 * q) u le r l y x.0 (sub y j) x.1) k there p.facts facts_at v goes x.1 x.2)
          (λ (x : (m : ResvTearMsg) × (y.arrival ≡ Spelt (message.ResvTear m)) × IsOver u.net k y m.session m.hop.addr (tear_style m.tear) × TakesName m v).
          ⊎_elim (λ (w : (p : PathMsg) × (y.arrival ≡ Spelt (message.Path p))). let bad : Spelt (message.Path w.0) ≡ Spelt (message.ResvTear x.0) = sym w.1 ∙ x.1 in absurd (cc))
          (λ (w : (p : ResvMsg) × (y.arrival ≡ Spelt (message.Resv p)) × (p.confirm ≡ None)). let bad : Spelt (message.Resv w.0) ≡ Spelt (message.ResvTear x.0) = sym w.1 ∙ x.1 in absurd (cc))
          (on.only y (in_flight y (sub y j)))) letter

      new_says : (pre : List Item) → ((x : Item) → In x pre → In x news) → LastSays next k v (u.flight ++ pre)
      new_says pre sub =
          let f = facts_after_found q (Piece (2 * q)) u asker p.facts facts_at in
          let before : get (toward (config_of q u.net u.trees asker) f.0 (lane_of u.net k)) k.unit ≡ Some v =
          ap (λ t. get t k.unit) (sym (toward_is q (2 * q) u le r l asker f.0 f.1 (lane_of u.net k)))
          ∙ ap (λ (w : Facts). get (toward (config_of q u.net u.trees asker) w (lane_of u.net k)) k.unit) (sym f.2) ∙ goes in
          ⊎_elim (λ (a : IsKeptOver u k v × AllAsk u.net k v u.flight). inl (kept_on k v a.0, all_append u.net k v u.flight pre a.1 (all_new pre sub)))
          (λ (last : IsAskedLast u.net k v u.flight). inr (last_before u.net k v u.flight pre last (all_new pre sub)))
          ((r.follows k.session).asked k v f.0 refl there f.1 before)

    new_path : (pre : List Item) (k : SenderKey) (h : LinkHop) → In h (tree u.net.hops k.0.group k.1.addr) → IsPathTo k h z → HasPath next (node_of u.net.ends h.to) k ⊎ IsBefore k h (u.flight ++ pre)
    new_path pre k h there p =
        let over : In h (tree u.net.hops p.path.session.group k.1.addr) = subst (λ (s : Session). In h (tree u.net.hops s.group k.1.addr)) (sym p.session) there in
        let key : ◌≡◌ {A = SenderKey} (p.path.session, k.1) k = (λ j. (p.session j, k.1)) in
        let a = subst (λ (w : SenderKey). Knows next (node_of u.net.ends h.from) w) key ((on.follows some_session).from_known.items z p.path k.1 p.tspec h (in_flight z i) p.spelt p.sender over (sym p.end)) in
        let f = facts_after_found q (Piece (2 * q)) u (node_of u.net.ends h.from) a.facts a.there in
        let knows : Knows u (node_of u.net.ends h.from) k = record {
          facts = f.0;
          there = f.1;
          known_one = ap (λ w. has w k.1) (sym (waiting.known_is q (2 * q) u le r l (node_of u.net.ends h.from) f.0 f.1 k.0)) ∙ ap (λ (w : Facts). has (known w k.0) k.1) (sym f.2) ∙ a.known_one;
        } in
        let into : inward u.net (node_of u.net.ends z.end) p.path.session.group k.1.addr ≡ Some z.end =
        way_in_tested u.net bounds.net (node_of u.net.ends z.end) z.end p.path.session.group k.1.addr (h, over, sym p.end, refl) in
        let s = (sound' q (2 * q) u le r l).items z p.path k.1 p.tspec (in_flight z i) p.spelt p.sender into in
        let live_then : IsLive next k p.tspec = subst (λ (w : SenderKey). IsLive next w p.tspec) key s.live in
        let live_one : IsLive u k p.tspec = record { node = live_then.node; senders = live_then.senders; at = sym (same_net.senders live_then.node) ∙ live_then.at; sends = live_then.sends } in
        ⊎_elim
        (λ stands. inl (path_on (node_of u.net.ends h.to) k (stands.facts, stands.node, (stands.path, stands.there))))
        (λ (w : IsPathOver u k p.tspec h).
        inr (w.item, in_left w.item u.flight pre w.flight, record { path = w.path; spelt = w.spelt; end = w.end; session = w.session; tspec = p.tspec; sender = w.sender }))
        (first.paths.offered k p.tspec h live_one there knows)

    idle_new : (pre : List Item) → ((x : Item) → In x pre → In x news) → IsIdle next (u.flight ++ pre) z
    idle_new pre sub = record { resv = λ k v there says. new_says k v there says pre sub; path = λ k h there p. new_path pre k h there p }

  covers_new : (pre post : List Item) → ((x : Item) → In x pre → In x news) → ((x : Item) → In x post → In x news) → Covers next (u.flight ++ pre) post (nothings post)
  unfolding nothings
  covers_new pre [] a b = tt
  covers_new pre (z ∷ post) a b = (
    inl (idle_new z (b z (inl refl)) pre a),
    subst (λ (ys : List Item). Covers next ys post (nothings post)) (sym (append_assoc u.flight pre (z ∷ [])))
        (covers_new (pre ++ z ∷ []) post
        (λ x i. ⊎_elim (λ (old : In x pre). a x old) (λ (new : In x (z ∷ [])). ⊎_elim (λ (same : x ≡ z). b x (inl same)) (λ (no : ⊥). absurd no) new) (in_append x pre (z ∷ []) i)) (λ x i. b x (inr i))),
  )

  append_none : (zs : List Item) → zs ++ [] ≡ zs
  append_none [] = refl
  append_none (z ∷ zs) = ap (λ (w : List Item). z ∷ w) (append_none zs)

  pub waited : (cs : List ℕ) → Pays u cs → Pays next (cs ++ nothings news)
  waited cs c =
      let old : Covers next [] u.flight cs = covers_map u next same_payers [] (λ ys z i. idle_old ys z i) [] u.flight cs c in
      let new : Covers next ([] ++ u.flight) news (nothings news) =
      subst (λ (ys : List Item). Covers next ys news (nothings news)) (append_none u.flight) (covers_new [] news (λ x i. absurd i) (λ x i. i)) in
      covers_append next [] u.flight news cs (nothings news) old new

  -- nobody comes to know a sender, or is forgotten to know one
  pub left_waits : left_in next ≤ left_in u
  left_waits =
      let same : sum_by (left_of next) (locals_of next).senders ≡ sum_by (left_of next) (locals_of u).senders = ap (λ (z : Locals). sum_by (left_of next) z.senders) same_net.locals in
      let each_one = sum_at_most (left_of next) (left_of u) (locals_of u).senders
      (λ x i.
      let as_many = ap (λ (z : Locals). sum_by (λ h. length (live z x.session)) (filter (is_untold next x) (tree u.net.hops x.session.group x.sender.addr))) same_net.locals in
      let few = fewer (many u x.session) (is_untold next x) (is_untold u x) (tree u.net.hops x.session.group x.sender.addr) (λ h j e. told_before x h e) in
      omega (arith, as_many, few)) in
      omega (arith, same, each_one)
    where
      told_before : (x : LocalSender) (h : LinkHop) → is_untold next x h ≡ true → is_untold u x h ≡ true
      told_before x h e = by (slice_get u.nodes (node_of u.net.ends h.from)) refl
        where
          by : (o : Option Facts) → slice_get u.nodes (node_of u.net.ends h.from) ≡ o → is_untold u x h ≡ true
          by None at = ap (λ (o : Option Facts). not (known_in o (x.session, x.sender))) at
          by (Some f) at =
              let then : slice_get next.nodes (node_of u.net.ends h.from) ≡ Some (outcome q (Piece (2 * q)) u (node_of u.net.ends h.from) f).facts = facts_after_made q (Piece (2 * q)) u (node_of u.net.ends h.from) f at in
              let known_same = waiting.known_is q (2 * q) u le r l (node_of u.net.ends h.from) f at x.session in
              ap (λ (o : Option Facts). not (known_in o (x.session, x.sender))) at ∙ ap (λ t. not (has t x.sender)) (sym known_same) ∙ sym (ap (λ (o : Option Facts). not (known_in o (x.session, x.sender))) then) ∙ e
