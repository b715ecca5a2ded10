-- How long what is kept lasts, by a delivery.
use Rattle.std.proofs.Common.{◌≡◌, ℕ, zero, suc, pred, ◌+◌, ◌*◌, ◌≤◌, length, List, [], ◌∷◌, ◌++◌, take, Bool, true, false, Option, None, Some, ◌⊎◌, inl, inr, ⊎_elim, arith, sym, refl, ap, subst, ◌∙◌}
use Rattle.std.specs.Prelude.{is_some, map as each, not, slice_get}
use Rattle.std.specs.List.{remove}
use Rattle.rsvp_base.specs.declared.part.Part.{Part}
use Rattle.rsvp_base.specs.declared.session.Sender.{Sender}
use Rattle.rsvp_base.specs.declared.session.Session.{Session}
use Rattle.rsvp_base.specs.Members.{In}
use Rattle.rsvp_base.specs.Orders.{senders as by_sender}
use Rattle.rsvp_base.specs.SessionLimits.{IsWithinSessionLimits}
use Rattle.rsvp_base.specs.Sets.{is_none}
use Rattle.rsvp_base.specs.Table.{get, has, put_in}
use Rattle.rsvp_base.specs.TokenBucket.{TokenBucket}
use Rattle.rsvp_base.proofs.Tables.{either, got_put_in, get-put_in_same}
use Rattle.router_rules.specs.RsvpMessages.declared.message.Message.TheVariants as message
use Rattle.router_rules.specs.RsvpMessages.declared.message.PathMsg.{PathMsg}
use Rattle.router_rules.specs.Merge.{PartTable}
use Rattle.laws_bounds.proofs.Knowing.{known_and_via}
use Rattle.laws_bounds.proofs.Lists.{one_name}
use Rattle.laws_bounds.proofs.Requesting.{nowhere}
use Rattle.router_rules.specs.Facts.{Facts, PathState, ResvState, SenderKey, sender_keys}
use Rattle.router_rules.specs.Inputs.{Came, Input, Spelt}
use Rattle.router_rules.specs.Known.{lanes}
use Rattle.router_rules.specs.NodeConfig.{NodeConfig, comes_in, lifetime}
use Rattle.router_rules.specs.Rule.{Outcome}
use Rattle.router_rules.specs.Steps.{node_step}
use Rattle.tree_model.specs.declared.hops.LinkHop.{LinkHop}
use Rattle.tree_model.specs.Networks.{iface_of, node_of}
use Rattle.tree_model.specs.Trees.{hops_of, inward, tree}
use Rattle.tree_model.proofs.TreeLaws.{way_in_tested}
use Rattle.network_model.specs.Bounds.{AreBounds}
use Rattle.network_model.specs.Locals.{IsLive}
use Rattle.network_model.specs.Steps.{Deliver, Piece, input_at, ms_of, outcome, sent, step}
use Rattle.network_model.specs.Worlds.{Item, World, config_of}
use Rattle.network_model.proofs.Machines.{in_arrived}
use Rattle.network_model.proofs.Quiet.{outcome_by}
use Rattle.network_model.proofs.Stepping.{facts_after_made}
use Rattle.laws_network.specs.Refreshes.{Refreshes, due_at}
use Rattle.laws_network.specs.Sources.{CameOnTree, said_by}
use Rattle.laws_network.proofs.Due.{due_found, due_made, due_moves, full_life}
use Rattle.laws_network.proofs.Known.{came_there, has_some, node_there, of_some}
use Rattle.laws_network.proofs.Learning.{a_path_on_the_tree_is_learnt}
use Rattle.laws_network.proofs.Standing.{comes_in_made, to_there}
use Rattle.settle_paths.specs.SoftPaths.{path_at}
use Rattle.settle_paths.proofs.LiveSenders.{live_fits}
use Rattle.settle_paths.proofs.PreviousHops.{ends_there}
use Rattle.settle_paths.proofs.SaidPaths.{routed}
use Rattle.settle_paths.proofs.SoftPaths.{IsBrought, path_found, path_made, path_source}
use Rattle.settle_resvs.specs.Said.{HopKey, hop_over, lane_of, resv_key}
use Rattle.settle_resvs.specs.SoftResvs.{SaysResv, line_key_of, resv_at}
use Rattle.settle_resvs.proofs.SoftResvs.{IsAsked, WasThere, resv_found, resv_source}
use Rattle.settle_passes.specs.Passes.{IsPathOver, Knows}
use Rattle.settle_passes.proofs.Deliveries.{known_self}
use Rattle.settle_senders.proofs.Knowing.{path_known}
use Rattle.settle_openings.specs.Opening.{AreLasting, GoesOn, IsAskedAgain, IsGoingOn, IsInTime, with_first}
use Rattle.settle_openings.proofs.Going.{bounds, bounds', follows_next, going_next, some_session}
use Rattle.settle_openings.proofs.Kept.{known_on, renewed}

-- ---- the first so many
first_or_later : {A : Type 0} (x : A) (n : ℕ) (ys : List A) → In x (take n ys) → (slice_get ys 0 ≡ Some x) ⊎ In x (take (pred n) (remove ys 0))
first_or_later x zero ys i = absurd i
first_or_later x (suc n) [] i = absurd i
first_or_later x (suc n) (y ∷ ys) i = ⊎_elim (λ (e : x ≡ y). inl (ap Some (sym e))) (λ (k : In x (take n ys)). inr k) i

take_before : {A : Type 0} (x : A) (n : ℕ) (ys zs : List A) → In x (take n ys) → In x (take n (ys ++ zs))
take_before x zero ys zs i = absurd i
take_before x (suc n) [] zs i = absurd i
take_before x (suc n) (y ∷ ys) zs i = ⊎_elim (λ (e : x ≡ y). inl e) (λ (k : In x (take n ys)). inr (take_before x n ys zs k)) i

pub take_more : {A : Type 0} (x : A) (n m : ℕ) (ys : List A) → n ≤ m → In x (take n ys) → In x (take m ys)
take_more x zero m ys le i = absurd i
take_more x (suc n) zero ys le i = absurd (omega (arith, le))
take_more x (suc n) (suc m) [] le i = absurd i
take_more x (suc n) (suc m) (y ∷ ys) le i = ⊎_elim (λ (e : x ≡ y). inl e) (λ (k : In x (take n ys)). inr (take_more x n m ys (omega (arith, le)) k)) i

in_whole : {A : Type 0} (x : A) (n : ℕ) (ys : List A) → In x (take n ys) → In x (take (length ys) ys)
in_whole x zero ys i = absurd i
in_whole x (suc n) [] i = absurd i
in_whole x (suc n) (y ∷ ys) i = ⊎_elim (λ (e : x ≡ y). inl e) (λ (k : In x (take n ys)). inr (in_whole x n ys k)) i

-- what the first so many renew, all do
pub lasts_all : (q n : ℕ) (w : World) → AreLasting q n w → AreLasting q (length w.flight) w
lasts_all q n w l = record {
  paths = λ d f k x h at e there node.
      ⊎_elim (λ (a : IsInTime q w (node_of w.net.ends h.from) k.0 x.dies). inl a)
      (λ (y : IsPathOver (with_first n w) k x.tspec h).
      inr (record {
        item = y.item;
        flight = in_whole y.item n w.flight y.flight;
        end = y.end;
        dst = y.dst;
        path = y.path;
        spelt = y.spelt;
        session = y.session;
        sender = y.sender;
      })) (l.paths d f k x h at e there node);
  resvs = λ k r there e.
      ⊎_elim (λ (a : IsInTime q w (node_of w.net.ends k.from) k.session r.dies). inl a)
      (λ (y : IsAskedAgain n w k). inr (record { item = y.item; flight = in_whole y.item n w.flight y.flight; part = y.part; says = y.says })) (l.resvs k r there e);
}

-- what the first so many renew, more do
pub lasts_more : (q n m : ℕ) (w : World) → n ≤ m → AreLasting q n w → AreLasting q m w
lasts_more q n m w le l = record {
  paths = λ d f k x h at e there node.
      ⊎_elim (λ (a : IsInTime q w (node_of w.net.ends h.from) k.0 x.dies). inl a)
      (λ (y : IsPathOver (with_first n w) k x.tspec h).
      inr (record {
        item = y.item;
        flight = take_more y.item n m w.flight le y.flight;
        end = y.end;
        dst = y.dst;
        path = y.path;
        spelt = y.spelt;
        session = y.session;
        sender = y.sender;
      })) (l.paths d f k x h at e there node);
  resvs = λ k r there e.
      ⊎_elim (λ (a : IsInTime q w (node_of w.net.ends k.from) k.session r.dies). inl a)
      (λ (y : IsAskedAgain n w k). inr (record { item = y.item; flight = take_more y.item n m w.flight le y.flight; part = y.part; says = y.says })) (l.resvs k r there e);
}

-- ---- what was just set is in time, where the node knows a sender of the session
pub just_now : (q : ℕ) (w : World) (n : ℕ) (s : Session) (x : Sender) (dies : ℕ) → AreBounds q w → Knows w n (s, x) → w.clock + 21 * q ≤ dies → IsInTime q w n s dies
just_now q w n s x dies bounds knows le =
    let due = (bounds.facts n knows.facts knows.there).due in
    let counts = (known_and_via.counted_by knows.facts s).1 (x, knows.known_one) in
    let t = has_some (get knows.facts.due s) (due.counted s ∙ counts) in
    let soon = (due.moment s t.0 t.1).soon in
    record { moment = t.0; due = due_made w n s t.0 knows.facts knows.there t.1; long = omega (arith, soon, le) }

-- what goes toward a hop comes by paths
pub goer_knows : (q : ℕ) (w : World) (k : HopKey) (x : Sender) → GoesOn q w k x → (y : Sender) × Knows w (node_of w.net.ends k.from) (k.session, y)
goer_knows q w k x g =
    let p : NodeConfig = config_of q w.net w.trees (node_of w.net.ends k.from) in
    either (has (lanes g.facts) (lane_of w.net k))
    (λ yes.
    let c = (known_and_via.lanes_by g.facts (lane_of w.net k)).0 yes in
    (c.0, record { facts = g.facts; there = g.there; known_one = path_known g.facts k.session c.0 c.1.path c.1.there }))
    (λ no. let bad : None ≡ Some g.part = ap (λ (z : PartTable). get z k.unit) (sym (nowhere p g.facts (lane_of w.net k) no)) ∙ g.goes in absurd (cc))

module _ (q : ℕ) (u : World) (r : IsGoingOn q u) where
  abbrev next : World
  next = step q (Deliver 0) u

  abbrev news : List Item
  news = each (λ (z : Item × Bool). z.0) (sent q (Deliver 0) u)

  -- a countdown goes on as it is
  in_time_on : (n : ℕ) (s : Session) (dies : ℕ) → IsInTime q u n s dies → IsInTime q next n s dies
  in_time_on n s dies a =
      let f = due_found u n s a.moment a.due in
      let g : Facts = (outcome q (Deliver 0) u n f.0).facts in
      let after : slice_get next.nodes n ≡ Some g = facts_after_made q (Deliver 0) u n f.0 f.1 in
      let was : has f.0.due s ≡ true = ap (λ (o : Option ℕ). is_some o) f.2 in
      let counts = (known_and_via.counted_by f.0 s).0 (sym (((bounds q u r).facts n f.0 f.1).due.counted s) ∙ was) in
      let knows = known_on q u r some_session n f.0 s counts.0 f.1 counts.1 in
      let t = has_some (get g.due s) (((bounds' q u r).facts n g after).due.counted s ∙ (known_and_via.counted_by g s).1 (counts.0, knows)) in
      let now : due_at next n s ≡ Some t.0 = due_made next n s t.0 g after t.1 in
      let same : t.0 ≡ a.moment =
      ⊎_elim (λ (e : t.0 ≡ a.moment). e) (λ (z : Refreshes n s (Deliver 0) u). let bad : Deliver 0 ≡ Piece z.ms = z.waits in absurd (cc))
      (due_moves q (Deliver 0) u n s a.moment t.0 refl (bounds q u r) a.due now) in
      record { moment = a.moment; due = now ∙ ap Some same; long = a.long }

  -- a Path that is delivered is learnt, for a full lifetime
  learnt_anew : (k : SenderKey) (t : TokenBucket) (h : LinkHop) → IsLive u k t → In h (tree u.net.hops k.0.group k.1.addr) → (y : Item) (m : PathMsg) → slice_get u.flight 0 ≡ Some y
      → y.end ≡ h.to → y.dst ≡ k.0.group → y.arrival ≡ Spelt (message.Path m) → m.session ≡ k.0 → m.sender ≡ Some (k.1, t)
      → (x : PathState) × (path_at next (node_of u.net.ends h.to) k ≡ Some x) × (x.dies ≡ u.clock + 21 * q)
  learnt_anew k t h live there y m arr to goes spelt session sender =
      let hosts = (r.follows some_session).paths.hosts in
      let sound = (r.follows some_session).paths.sound in
      let within = bounds q u r in
      let n : ℕ = node_of u.net.ends h.to in
      let lt = to_there u.net within.net k.0.group k.1.addr h there in
      let f = node_there q u within.net u h.to (known_self q u within) lt in
      let p : NodeConfig = config_of q u.net u.trees n in
      let c : ℕ = u.clock + ms_of (Deliver 0) in
      let input : Input = Came (iface_of u.net.ends h.to) k.0.group (Spelt (message.Path m)) in
      let came : input_at (Deliver 0) u n ≡ Some input =
      came_there q u u (known_self q u within) h.to lt (Deliver 0) y arr to ∙ (λ i. Some (Came (iface_of u.net.ends h.to) (goes i) (spelt i))) in
      let into : inward u.net n k.0.group k.1.addr ≡ Some h.to = way_in_tested u.net within.net n h.to k.0.group k.1.addr (h, there, refl, refl) in
      let tree_in : comes_in p k.0 (iface_of u.net.ends h.to) k.1 ≡ true =
      comes_in_made q u.net u.trees n k.0 h.to k.1 (routed q u u k.0.group k.1.addr h (known_self q u within) there) into in
      let by : CameOnTree p input k = record { at = iface_of u.net.ends h.to; path = m; tspec = t; came = refl; session = session; sender = sender; tree = tree_in } in
      let x : PathState = said_by p c input k by in
      let fits : IsWithinSessionLimits by_sender (put_in f.0.paths k x) =
      live_fits u hosts (put_in f.0.paths k x)
      (λ k' x' e.
      ⊎_elim
      (λ (new : (k' ≡ k) × (x' ≡ x)). (t, subst (λ (z : SenderKey). IsLive u z t) (sym new.0) live))
      (λ (old : get f.0.paths k' ≡ Some x'). let s = sound.facts n f.0 k' x' f.1 old in (x'.tspec, s.sound.live))
      (got_put_in sender_keys f.0.paths k x k' x' e)) in
      let put = (a_path_on_the_tree_is_learnt.learnt (node_step p p u.clock c input f.0) (within.facts n f.0 f.1) k by fits).0 in
      let has_it : get (outcome q (Deliver 0) u n f.0).facts.paths k ≡ Some x =
      ap (λ (z : Outcome). get z.facts.paths k) (outcome_by q (Deliver 0) u n f.0 input refl came) ∙ ap (λ (z : _). get z k) put ∙ get-put_in_same sender_keys f.0.paths k x in
      let now : u.clock + 0 ≡ u.clock = omega arith in (
        x,
        path_made next n k x (outcome q (Deliver 0) u n f.0).facts (facts_after_made q (Deliver 0) u n f.0 f.1) has_it,
        (λ j. now j + lifetime p ((r.full.paths y m (in_arrived (Deliver 0) u y arr) spelt).0 j)) ∙ ap (λ (z : ℕ). u.clock + z) (full_life q within.period),
      )

  module _ (n : ℕ) (l : AreLasting q n u) where
    later_over : (k : SenderKey) (t : TokenBucket) (h : LinkHop) (y : IsPathOver (with_first n u) k t h) → In y.item (take (pred n) (remove u.flight 0)) → IsPathOver (with_first (pred n) next) k t h
    later_over k t h y i = record {
      item = y.item;
      flight = take_before y.item (pred n) (remove u.flight 0) news i;
      end = y.end;
      dst = y.dst;
      path = y.path;
      spelt = y.spelt;
      session = y.session;
      sender = y.sender;
    }

    path_lasts : (m : ℕ) (g : Facts) (k : SenderKey) (x : PathState) (h : LinkHop) → slice_get next.nodes m ≡ Some g → get g.paths k ≡ Some x → In h (tree u.net.hops k.0.group k.1.addr)
        → node_of u.net.ends h.to ≡ m → IsInTime q next (node_of u.net.ends h.from) k.0 x.dies ⊎ IsPathOver (with_first (pred n) next) k x.tspec h
    path_lasts m g k x h at e there node =
        let knows : Knows next (node_of u.net.ends h.from) k = (follows_next q u r some_session).from_known.facts m g k x h at e there node in
        let fresh : (x.dies ≡ u.clock + 21 * q) → IsInTime q next (node_of u.net.ends h.from) k.0 x.dies =
        (λ d. just_now q next (node_of u.net.ends h.from) k.0 k.1 x.dies (bounds' q u r) knows (omega (arith, d))) in
        ⊎_elim
        (λ (old : path_at u m k ≡ Some x).
        let f = path_found u m k x old in
        ⊎_elim (λ (a : IsInTime q u (node_of u.net.ends h.from) k.0 x.dies). inl (in_time_on (node_of u.net.ends h.from) k.0 x.dies a))
        (λ (y : IsPathOver (with_first n u) k x.tspec h).
        ⊎_elim
        (λ (now : slice_get u.flight 0 ≡ Some y.item).
        let live = ((r.follows some_session).paths.sound.facts m f.0 k x f.1 f.2).sound.live in
        let a = learnt_anew k x.tspec h live there y.item y.path now y.end y.dst y.spelt y.session y.sender in
        let same : a.0 ≡ x = of_some a.0 x (sym a.1 ∙ ap (λ (z : ℕ). path_at next z k) node ∙ path_made next m k x g at e) in
        inl (fresh (ap (λ (z : PathState). z.dies) (sym same) ∙ a.2)))
        (λ (late : In y.item (take (pred n) (remove u.flight 0))). inr (later_over k x.tspec h y late)) (first_or_later y.item n u.flight y.flight))
        (l.paths m f.0 k x h f.1 f.2 there node))
        (λ (new : IsBrought q u.net (Deliver 0) u m k x).
        let zero_on : u.clock + 0 ≡ u.clock = omega arith in
        let full = (r.full.paths new.item new.path (in_arrived (Deliver 0) u new.item new.arrives) new.spelt).0 in
        let within = bounds q u r in
        inl (fresh (ap (λ (z : PathState). z.dies) new.is ∙ (λ j. zero_on j + lifetime (config_of q u.net u.trees m) (full j)) ∙ ap (λ (z : ℕ). u.clock + z) (full_life q within.period))))
        (path_source q (Deliver 0) u refl (bounds q u r) m k x (path_made next m k x g at e))

    resv_lasts : (k : HopKey) (x : ResvState) → In (hop_over k) (hops_of u.net.hops k.session.group)
        → resv_at next (node_of u.net.ends k.to) k.style (line_key_of u.net (resv_key u.net k)) ≡ Some x
        → IsInTime q next (node_of u.net.ends k.from) k.session x.dies ⊎ IsAskedAgain (pred n) next k
    resv_lasts k x there e =
        let lt = (ends_there u.net (bounds q u r).net k.session.group (hop_over k) there).0 in
        let g = resv_found next (node_of u.net.ends k.to) k.style (line_key_of u.net (resv_key u.net k)) x e in
        let named = ((bounds' q u r).facts (node_of u.net.ends k.to) g.0 g.1).shapes.resvs k.style (line_key_of u.net (resv_key u.net k)) x g.2 in
        let one = one_name x.part.senders (not_true (is_none x.part.senders) named.style.named) in
        let goes = ((going_next q u r).names.kept k x.part one.0 there (record { resv = x; there = e; is = refl }) one.1).1 in
        let knows = goer_knows q next k one.0 goes in
        let fresh : (x.dies ≡ u.clock + 21 * q) → IsInTime q next (node_of u.net.ends k.from) k.session x.dies =
        (λ d. just_now q next (node_of u.net.ends k.from) k.session knows.0 x.dies (bounds' q u r) knows.1 (omega (arith, d))) in
        let anew : (y : Item) → slice_get u.flight 0 ≡ Some y → (v : Part) → SaysResv u.net (resv_key u.net k) y v → IsInTime q next (node_of u.net.ends k.from) k.session x.dies =
        (λ y arr v says.
        let a = renewed q u r k there y arr v says in
        let same : a.resv ≡ x = of_some a.resv x (sym a.kept ∙ e) in
        fresh (ap (λ (z : ResvState). z.dies) (sym same) ∙ a.dies)) in
        ⊎_elim
        (λ (old : WasThere u.net (resv_key u.net k) u x).
        ⊎_elim
        (λ (a : IsInTime q u (node_of u.net.ends k.from) k.session old.resv.dies).
        inl (in_time_on (node_of u.net.ends k.from) k.session x.dies (record { moment = a.moment; due = a.due; long = (let d = old.left.dies in let m = a.long in omega (arith, d, m)) })))
        (λ (a : IsAskedAgain n u k).
        ⊎_elim (λ (now : slice_get u.flight 0 ≡ Some a.item). inl (anew a.item now a.part a.says))
        (λ (late : In a.item (take (pred n) (remove u.flight 0))).
        inr (record { item = a.item; flight = take_before a.item (pred n) (remove u.flight 0) news late; part = a.part; says = a.says }))
        (first_or_later a.item n u.flight a.flight))
        (l.resvs k old.resv there old.there))
        (λ (new : IsAsked u.net (resv_key u.net k) (Deliver 0) u x). inl (anew new.item new.arrives new.part new.says))
        (resv_source q u (resv_key u.net k) lt (Deliver 0) u refl (known_self q u (bounds q u r)) x e)
      where
        not_true : (b : Bool) → not b ≡ true → b ≡ false
        not_true true d = cc
        not_true false d = refl

    pub lasting_next : AreLasting q (pred n) next
    lasting_next = record { paths = path_lasts; resvs = resv_lasts }
