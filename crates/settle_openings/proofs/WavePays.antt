-- What is in flight is paid for: what says what stands, once all before it has come, by nobody, and everything else by its payers. A delivery keeps it so.
use Rattle.std.specs.Prelude.{map as each, slice_get, ◌==◌}
use Rattle.std.specs.List.{flat_map}
use Rattle.std.specs.Option.{option_map}
use Rattle.std.proofs.lemmas.List.{length-append}
use Rattle.rsvp_base.specs.declared.part.Part.{Part}
use Rattle.rsvp_base.specs.declared.session.Sender.{Sender}
use Rattle.rsvp_base.specs.declared.session.Session.{Session}
use Rattle.rsvp_base.specs.Members.{In}
use Rattle.rsvp_base.specs.Table.{get}
use Rattle.rsvp_base.specs.TokenBucket.{TokenBucket}
use Rattle.rsvp_base.proofs.Members.{any_in, in_right, to_each, to_filter}
use Rattle.rsvp_base.proofs.SetLaws.{and_made}
use Rattle.rsvp_messages.specs.declared.message.Message.TheVariants as message
use Rattle.rsvp_messages.specs.declared.message.PathMsg.{PathMsg}
use Rattle.router_rules.specs.Facts.{Facts, PathState, SenderKey}
use Rattle.router_rules.specs.Inputs.{Spelt}
use Rattle.router_rules.specs.NodeConfig.{is_addr}
use Rattle.tree_model.specs.declared.hops.LinkHop.{LinkHop}
use Rattle.tree_model.specs.Goals.{addr_of}
use Rattle.tree_model.specs.Networks.{iface_of, node_of}
use Rattle.tree_model.specs.Trees.{hops_of, inward, tree}
use Rattle.tree_model.specs.Wants.{live}
use Rattle.network_model.specs.Bounds.{AreBounds}
use Rattle.network_model.specs.Locals.{IsLive, locals_of}
use Rattle.network_model.specs.Steps.{Deliver, sent, step}
use Rattle.network_model.specs.Worlds.{Item, World}
use Rattle.network_model.proofs.Machines.{in_arrived}
use Rattle.laws_network.proofs.Known.{of_some}
use Rattle.laws_network.proofs.Standing.{comes_in_told, same_end, inward_there}
use Rattle.settle_resvs.specs.Said.{HopKey}
use Rattle.settle_passes.specs.Reserving.{IsKeptOver}
use Rattle.settle_passes.proofs.Deliveries.{known_self, same_next}
use Rattle.settle_senders.specs.Following.{IsFollowing}
use Rattle.settle_openings.specs.Opening.{IsGoingOn}
use Rattle.settle_paths.proofs.PreviousHops.{live_among}
use Rattle.tree_model.proofs.Following.{number_same}
use Rattle.settle_openings.specs.Waves.{HasNoAdverts, AreWired, goes_from, senders_over}
use Rattle.settle_openings.proofs.Going.{bounds', follows_next, some_session, sound'}
use Rattle.settle_openings.proofs.WavePath.{BringsNew, n, p}
use Rattle.settle_openings.proofs.WaveResvs.{pay}
use Rattle.tree_model.specs.Wants.{Locals}
use Rattle.std.proofs.Common.{◌≡◌, ℕ, zero, suc, ◌+◌, ◌≤◌, List, [], ◌∷◌, ◌++◌, length, Bool, true, None, Some, ◌⊎◌, inl, inr, ⊎_elim, arith, sym, refl, ap, subst, ◌∙◌, append_assoc}
use Rattle.std.specs.List.{remove}
use Rattle.rsvp_messages.specs.declared.message.ResvMsg.{ResvMsg}
use Rattle.tree_model.specs.Trees.{hops_of}
use Rattle.tree_model.proofs.TreeLaws.{way_in_tested}
use Rattle.network_model.proofs.Machines.{in_arrived}
use Rattle.settle_resvs.specs.Said.{HopKey, hop_over, resv_key}
use Rattle.settle_resvs.specs.SoftResvs.{SaysResv}
use Rattle.settle_resvs.proofs.ResvSends.{resv_sent}
use Rattle.settle_paths.proofs.PathSends.{path_sent}
use Rattle.settle_paths.proofs.PreviousHops.{ahead, one_previous}
use Rattle.settle_passes.specs.Reserving.{AllAsk, IsAskedLast, IsKeptOver, IsLetter}
use Rattle.settle_passes.proofs.Deliveries.{learnt, path_stays, tear_of_none}
use Rattle.settle_openings.proofs.Going.{only_next}
use Rattle.settle_openings.proofs.Kept.{IsReplacedBy, renewed, stays_or_not}
use Rattle.settle_openings.proofs.Sent.{back_over}
use Rattle.settle_openings.specs.Waves.{AreNested, is_back, payers, payers_by}
use Rattle.laws_bounds.proofs.Tests.{addr_tested}
use Rattle.settle_openings.proofs.WaveLedger.{total, zeros}
use Rattle.settle_openings.proofs.WaveLeft.{facts_there, left_below, left_in, many, path_left}
use Rattle.settle_openings.proofs.WaveTaken.{idle_pays, resv_pays}

-- ---- what says what stands
-- the part stands behind the hop and all of these ask for it; or one of them does, and so do all behind it
abbrev pub LastSays : World → HopKey → Part → List Item → Type 0
LastSays w k v ys = (IsKeptOver w k v × AllAsk w.net k v ys) ⊎ IsAskedLast w.net k v ys

abbrev pub HasPath : World → ℕ → SenderKey → Type 0
HasPath w n k = (f : Facts) × (slice_get w.nodes n ≡ Some f) × ((x : PathState) × (get f.paths k ≡ Some x))

-- a Path of the sender to the end of the hop
pub record IsPathTo (k : SenderKey) (h : LinkHop) (y : Item) : Type 0 where
  pub path : PathMsg
  pub spelt : y.arrival ≡ Spelt (message.Path path)
  pub end : y.end ≡ h.to
  pub session : path.session ≡ k.0
  pub tspec : TokenBucket
  pub sender : path.sender ≡ Some (k.1, tspec)

abbrev pub IsBefore : SenderKey → LinkHop → List Item → Type 0
IsBefore k h ys = (z : Item) × In z ys × IsPathTo k h z

-- the item says what stands once these have come
pub record IsIdle (w : World) (ys : List Item) (y : Item) : Type 0 where
  pub resv : (k : HopKey) (v : Part) → In (hop_over k) (hops_of w.net.hops k.session.group) → SaysResv w.net (resv_key w.net k) y v → LastSays w k v ys
  pub path : (k : SenderKey) (h : LinkHop) → In h (tree w.net.hops k.0.group k.1.addr) → IsPathTo k h y → HasPath w (node_of w.net.ends h.to) k ⊎ IsBefore k h ys

-- ---- each item is idle, or its number is that of its payers
abbrev pub Covers : World → List Item → List Item → List ℕ → Type 0
Covers w ys [] [] = Unit {0}
Covers w ys [] (c ∷ cs) = ⊥
Covers w ys (z ∷ zs) [] = ⊥
Covers w ys (z ∷ zs) (c ∷ cs) = (IsIdle w ys z ⊎ (length (payers w.net (locals_of w) z) ≤ c)) × Covers w (ys ++ z ∷ []) zs cs

abbrev pub Pays : World → List ℕ → Type 0
Pays w cs = Covers w [] w.flight cs

pub covers_many : (w : World) (ys zs : List Item) (cs : List ℕ) → Covers w ys zs cs → length cs ≡ length zs
covers_many w ys [] [] c = refl
covers_many w ys [] (x ∷ cs) c = absurd c
covers_many w ys (z ∷ zs) [] c = absurd c
covers_many w ys (z ∷ zs) (x ∷ cs) c = ap suc (covers_many w (ys ++ z ∷ []) zs cs c.1)

-- what comes behind is paid for
pub covers_paid : (w : World) (ys zs : List Item) → Covers w ys zs (each (λ z. length (payers w.net (locals_of w) z)) zs)
covers_paid w ys [] = tt
covers_paid w ys (z ∷ zs) = (inr (omega arith), covers_paid w (ys ++ z ∷ []) zs)

pub covers_append : (w : World) (ys zs xs : List Item) (cs ds : List ℕ) → Covers w ys zs cs → Covers w (ys ++ zs) xs ds → Covers w ys (zs ++ xs) (cs ++ ds)
covers_append w ys [] xs [] ds c d = subst (λ (z : List Item). Covers w z xs ds) (append_none ys) d
  where
    append_none : (zs : List Item) → zs ++ [] ≡ zs
    append_none [] = refl
    append_none (z ∷ zs) = ap (λ (w : List Item). z ∷ w) (append_none zs)
covers_append w ys [] xs (x ∷ cs) ds c d = absurd c
covers_append w ys (z ∷ zs) xs [] ds c d = absurd c
covers_append w ys (z ∷ zs) xs (x ∷ cs) ds c d = (c.0, covers_append w (ys ++ z ∷ []) zs xs cs ds c.1 (subst (λ (l : List Item). Covers w l xs ds) (sym (append_assoc ys (z ∷ []) zs)) d))

-- from a world to another, with other items before
pub covers_map : (u w : World) → payers u.net (locals_of u) ≡ payers w.net (locals_of w) → (head : List Item) → ((ys : List Item) (z : Item) → IsIdle u (head ++ ys) z → IsIdle w ys z) → (ys zs : List Item) (cs : List ℕ)
    → Covers u (head ++ ys) zs cs → Covers w ys zs cs
covers_map u w same head idle ys [] [] c = tt
covers_map u w same head idle ys [] (x ∷ cs) c = absurd c
covers_map u w same head idle ys (z ∷ zs) [] c = absurd c
covers_map u w same head idle ys (z ∷ zs) (x ∷ cs) c = (
  ⊎_elim (λ (i : IsIdle u (head ++ ys) z). inl (idle ys z i)) (λ (le : length (payers u.net (locals_of u) z) ≤ x). inr (subst (λ (p : Item → List Sender). length (p z) ≤ x) same le)) c.0,
  covers_map u w same head idle (ys ++ z ∷ []) zs cs (subst (λ (l : List Item). Covers u l zs cs) (append_assoc head ys (z ∷ [])) c.1),
)

-- ---- numbers of payers
module _ (u : World) where
  abbrev pub prices : List (Item × Bool) → List ℕ
  prices xs = each (λ z. length (pay u z)) xs

  pub total_prices : (xs : List (Item × Bool)) → total (prices xs) ≡ length (flat_map (pay u) xs)
  total_prices [] = refl
  total_prices (x ∷ xs) = let rest = total_prices xs in let long = length-append (pay u x) (flat_map (pay u) xs) in omega (arith, rest, long)

  pub no_zeros : (xs : List (Item × Bool)) → ((x : Item × Bool) → In x xs → 1 ≤ length (pay u x)) → zeros (prices xs) ≡ 0
  no_zeros [] some = refl
  no_zeros (x ∷ xs) some = by (length (pay u x)) refl (no_zeros xs (λ y i. some y (inr i)))
    where
      by : (n : ℕ) → length (pay u x) ≡ n → zeros (prices xs) ≡ 0 → zeros (n ∷ prices xs) ≡ 0
      by zero is rest = let one = some x (inl refl) in absurd (omega (arith, one, is))
      by (suc n) is rest = rest

some_length : {A : Type 0} (x : A) (xs : List A) → In x xs → 1 ≤ length xs
some_length x [] i = absurd i
some_length x (y ∷ ys) i = omega arith

prices_as : (u : World) (xs : List (Item × Bool)) → each (λ z. length (payers u.net (locals_of u) z)) (each (λ (x : Item × Bool). x.0) xs) ≡ prices u xs
prices_as u [] = refl
prices_as u (x ∷ xs) = ap (λ (l : List ℕ). length (pay u x) ∷ l) (prices_as u xs)

-- ---- a delivery
module _ (q : ℕ) (u : World) (r : IsGoingOn q u) where
  abbrev next : World
  next = step q (Deliver 0) u

  first : IsFollowing q some_session u
  first = r.follows some_session

  bounds : AreBounds q u
  bounds = first.paths.bounds

  same_locals : locals_of next ≡ locals_of u
  same_locals = (same_next q 0 u bounds u (known_self q u bounds).same).locals

  same_payers : payers u.net (locals_of u) ≡ payers next.net (locals_of next)
  same_payers = ap (λ (l : Locals). payers u.net l) (sym same_locals)

  -- a part that stands stays, or what comes asks for it
  kept_then : (y : Item) → slice_get u.flight 0 ≡ Some y → (k : HopKey) (v : Part) → In (hop_over k) (hops_of u.net.hops k.session.group) → IsKeptOver u k v
      → (IsLetter u.net k v y → SaysResv u.net (resv_key u.net k) y v) → IsKeptOver next k v
  kept_then y arr k v there c asks =
      ⊎_elim (λ stays. record { resv = c.resv; there = stays; is = c.is })
      (λ (new : IsReplacedBy q u r k there c.resv).
      let mine : new.item ≡ y = of_some new.item y (sym new.arrives ∙ arr) in
      let letter : IsLetter u.net k v y = subst (λ (z : Item). IsLetter u.net k v z) mine (inl (new.one.resv, new.one.spelt, new.one.over)) in
      let a = renewed q u r k there y arr v (asks letter) in
      record { resv = a.resv; there = a.kept; is = a.is })
      (stays_or_not q u r k there c.resv c.there)

  says_then : (y : Item) → slice_get u.flight 0 ≡ Some y → (ys : List Item) (k : HopKey) (v : Part) → In (hop_over k) (hops_of u.net.hops k.session.group) → LastSays u k v (y ∷ ys) → LastSays next k v ys
  says_then y arr ys k v there last =
      ⊎_elim
      (λ (c : IsKeptOver u k v × AllAsk u.net k v (y ∷ ys)). inl (kept_then y arr k v there c.0 (λ l. c.1 y (inl refl) l), λ z i l. c.1 z (inr i) l))
      (λ (a : IsAskedLast u.net k v ys ⊎ (SaysResv u.net (resv_key u.net k) y v × AllAsk u.net k v ys)).
      ⊎_elim (λ (later : IsAskedLast u.net k v ys). inr later)
      (λ (now : SaysResv u.net (resv_key u.net k) y v × AllAsk u.net k v ys).
      let x = renewed q u r k there y arr v now.0 in inl (record { resv = x.resv; there = x.kept; is = x.is }, now.1)) a)
      last

  -- a path that is there stays, and one that comes is learnt
  path_then : (n : ℕ) (k : SenderKey) → HasPath u n k → HasPath next n k
  path_then n k h = let s = path_stays q 0 u bounds n h.0 k h.2.0 (tear_of_none u first.paths.no_tear k) h.1 h.2.1 in (s.0, s.1, (s.2, s.3))

  path_come : (y : Item) → slice_get u.flight 0 ≡ Some y → (k : SenderKey) (h : LinkHop) → In h (tree u.net.hops k.0.group k.1.addr) → IsPathTo k h y → HasPath next (node_of u.net.ends h.to) k
  path_come y arr k h there p =
      let flies = in_arrived (Deliver 0) u y arr in
      let over : In h (tree u.net.hops p.path.session.group k.1.addr) = subst (λ (s : Session). In h (tree u.net.hops s.group k.1.addr)) (sym p.session) there in
      let into : inward u.net (node_of u.net.ends y.end) p.path.session.group k.1.addr ≡ Some y.end =
      way_in_tested u.net bounds.net (node_of u.net.ends y.end) y.end p.path.session.group k.1.addr (h, over, sym p.end, refl) in
      let s = first.paths.sound.items y p.path k.1 p.tspec flies p.spelt p.sender into in
      let key : ◌≡◌ {A = SenderKey} (p.path.session, k.1) k = (λ j. (p.session j, k.1)) in
      let live : IsLive u k p.tspec = subst (λ (z : SenderKey). IsLive u z p.tspec) key s.live in
      let at = learnt q 0 u bounds first.paths.hosts first.paths.sound k p.tspec h live there
      (record { item = y; flight = flies; end = p.end; dst = (r.full.paths y p.path flies p.spelt).1 ∙ ap (λ (z : Session). z.group) p.session; path = p.path; spelt = p.spelt; session = p.session; sender = p.sender }) arr in
      (at.facts, at.node, (at.path, at.there))

  idle_then : (y : Item) → slice_get u.flight 0 ≡ Some y → (ys : List Item) (z : Item) → IsIdle u (y ∷ ys) z → IsIdle next ys z
  idle_then y arr ys z i = record {
    resv = λ k v there says. says_then y arr ys k v there (i.resv k v there says);
    path = λ k h there p.
        ⊎_elim (λ (has_it : HasPath u (node_of u.net.ends h.to) k). inl (path_then (node_of u.net.ends h.to) k has_it))
        (λ (b : IsBefore k h (y ∷ ys)).
        ⊎_elim (λ (same : b.0 ≡ y). inl (path_come y arr k h there (subst (λ (x : Item). IsPathTo k h x) same b.2))) (λ (later : In b.0 ys). inr (b.0, later, b.2)) b.1)
        (i.path k h there p);
  }

  -- ---- each item that is sent has a payer
  bounds'' : AreBounds q next
  bounds'' = bounds' q u r

  sent_payer : (y : Item) (b : Bool) → In (y, b) (sent q (Deliver 0) u) → 1 ≤ length (payers u.net (locals_of u) y)
  sent_payer y b i =
      ⊎_elim
      (λ (x : (m : PathMsg) × (y.arrival ≡ Spelt (message.Path m))).
      let m = x.0 in
      let p = path_sent q (Deliver 0) u refl bounds y b m i x.1 in
      let live_one : IsLive next (m.session, p.sender) p.tspec =
      ⊎_elim (λ (local : get p.facts.senders (m.session, p.sender) ≡ Some p.tspec). record { node = p.node; senders = p.facts.senders; at = ap (option_map (λ (f : Facts). f.senders)) p.after; sends = local })
      (λ (path : (z : PathState) × (get p.facts.paths (m.session, p.sender) ≡ Some z) × (p.tspec ≡ z.tspec)).
      subst (λ (z : TokenBucket). IsLive next (m.session, p.sender) z) (sym path.2) (((follows_next q u r some_session).paths.sound.facts p.node p.facts (m.session, p.sender) path.0 p.after path.1).sound.live)) p.source in
      let among : In p.sender (live (locals_of u) m.session) = subst (λ (l : Locals). In p.sender (live l m.session)) same_locals (live_among next m.session p.sender p.tspec live_one) in
      let one = some_length p.sender (live (locals_of u) m.session) among in
      let who : length (payers u.net (locals_of u) y) ≡ length (live (locals_of u) m.session) = ap (λ z. length (payers_by u.net (locals_of u) y.end z)) x.1 in
      omega (arith, one, who))
      (λ (x : (m : ResvMsg) × (y.arrival ≡ Spelt (message.Resv m)) × (m.confirm ≡ None)).
      let m = x.0 in
      let p = resv_sent q (Deliver 0) u refl bounds y b m i x.1 in
      let o = back_over q next bounds'' (sound' q u r) y m p in
      let a = ahead next p.node p.facts (sound' q u r) p.after p.lane.session p.lane.hop p.by.0 p.by.1 in
      let way : a.way ≡ o.0 = one_previous u.net bounds.net p.node p.lane.session p.lane.hop a.way o.0 a.previous o.1 in
      let over : In o.0 (tree u.net.hops m.session.group p.by.0.addr) = subst (λ (z : Session × LinkHop). In z.1 (tree u.net.hops z.0.group p.by.0.addr)) (λ j. (sym p.session j, way j)) a.there in
      let among : In p.by.0 (live (locals_of u) m.session) = subst (λ (z : Locals × Session). In p.by.0 (live z.0 z.1)) (λ j. (same_locals j, sym p.session j)) a.live in
      let passes : goes_from u.net m.session y.end m.hop.addr p.by.0 ≡ true =
      any_in (is_back u.net y.end m.hop.addr) o.0 (tree u.net.hops m.session.group p.by.0.addr) over
      (and_made (o.0.from == y.end) (is_addr (addr_of u.net o.0.to) m.hop.addr) (number_same o.0.from y.end o.2) (addr_tested (addr_of u.net o.0.to) m.hop.addr (ap (addr_of u.net) o.3 ∙ sym p.hop))) in
      let one = some_length p.by.0 (senders_over u.net (locals_of u) m.session y.end m.hop.addr) (to_filter (goes_from u.net m.session y.end m.hop.addr) p.by.0 (live (locals_of u) m.session) among passes) in
      let who : length (payers u.net (locals_of u) y) ≡ length (senders_over u.net (locals_of u) m.session y.end m.hop.addr) = ap (λ z. length (payers_by u.net (locals_of u) y.end z)) x.1 in
      omega (arith, one, who))
      (only_next q u r y (in_right y (remove u.flight 0) (each (λ (z : Item × Bool). z.0) (sent q (Deliver 0) u)) (to_each (λ (z : Item × Bool). z.0) (y, b) (sent q (Deliver 0) u) i)))

  -- ---- what comes is idle, or pays
  module _ (wired : AreWired u.net) (nested : AreNested u.net) (mute : HasNoAdverts u) where
    pays_then : (y : Item) (c : ℕ) → slice_get u.flight 0 ≡ Some y → IsIdle u [] y ⊎ (length (payers u.net (locals_of u) y) ≤ c)
        → length (flat_map (pay u) (sent q (Deliver 0) u)) + left_in next ≤ c + left_in u
    pays_then y c arr i =
        ⊎_elim
        (λ (x : (m : PathMsg) × (y.arrival ≡ Spelt (message.Path m))).
        let less = left_below q u r in
        ⊎_elim (λ (none : length (flat_map (pay u) (sent q (Deliver 0) u)) ≤ 0). omega (arith, none, less))
        (λ (new : BringsNew q u r mute y x.0 arr x.1 (facts_there q u r wired mute y x.0 arr x.1).0 (facts_there q u r wired mute y x.0 arr x.1).1
        × (length (flat_map (pay u) (sent q (Deliver 0) u)) + left_in next ≤ many u x.0.session + left_in u)).
        ⊎_elim
        (λ (idle : IsIdle u [] y). absurd (stands y x.0 arr x.1 idle new.0))
        (λ (le : length (payers u.net (locals_of u) y) ≤ c).
        let who : length (payers u.net (locals_of u) y) ≡ many u x.0.session = ap (λ z. length (payers_by u.net (locals_of u) y.end z)) x.1 in
        let paid_for = new.1 in
        omega (arith, le, who, paid_for)) i)
        (path_left q u r wired mute y x.0 arr x.1))
        (λ (x : (m : ResvMsg) × (y.arrival ≡ Spelt (message.Resv m)) × (m.confirm ≡ None)).
        let less = left_below q u r in
        ⊎_elim
        (λ (idle : IsIdle u [] y).
        let none = idle_pays q u r wired nested y x.0 arr x.1
        (λ k v there says. ⊎_elim (λ (kept : IsKeptOver u k v × AllAsk u.net k v []). kept.0) (λ (no : ⊥). absurd no) (idle.resv k v there says)) in
        omega (arith, none, less))
        (λ (le : length (payers u.net (locals_of u) y) ≤ c). let few = resv_pays q u r wired nested y x.0 arr x.1 in omega (arith, le, few, less)) i)
        (r.only y (in_arrived (Deliver 0) u y arr))
      where
        stands : (y : Item) (m : PathMsg) (arr : slice_get u.flight 0 ≡ Some y) (spelt : y.arrival ≡ Spelt (message.Path m)) → IsIdle u [] y
            → BringsNew q u r mute y m arr spelt (facts_there q u r wired mute y m arr spelt).0 (facts_there q u r wired mute y m arr spelt).1 → ⊥
        stands y m arr spelt idle new =
            let node : ℕ = node_of u.net.ends y.end in
            let t = new.put in
            let way = comes_in_told q u.net u.trees node m.session (iface_of u.net.ends y.end) t.sender t.tree in
            let inside = inward_there u.net bounds.net node way.0 m.session.group t.sender.addr way.1 in
            let lt = (bounds.flight y (in_arrived (Deliver 0) u y arr)).end in
            let end : way.0 ≡ y.end = same_end u.net way.0 y.end inside.0 lt inside.1 way.2 in
            let s = first.paths.sound.items y m t.sender t.tspec (in_arrived (Deliver 0) u y arr) spelt t.of (way.1 ∙ ap Some end) in
            ⊎_elim
            (λ (p : HasPath u (node_of u.net.ends s.hop.to) (m.session, t.sender)).
            let f_is : p.0 ≡ (facts_there q u r wired mute y m arr spelt).0 =
            of_some p.0 (facts_there q u r wired mute y m arr spelt).0 (sym p.1 ∙ ap (λ (e : ℕ). slice_get u.nodes (node_of u.net.ends e)) s.to ∙ (facts_there q u r wired mute y m arr spelt).1) in
            let bad : None ≡ Some p.2.0 = sym new.new ∙ ap (λ (f : Facts). get f.paths (m.session, t.sender)) (sym f_is) ∙ p.2.1 in absurd (cc))
            (λ (b : IsBefore (m.session, t.sender) s.hop []). absurd b.1)
            (idle.path (m.session, t.sender) s.hop s.there (record { path = m; spelt = spelt; end = sym s.to; session = refl; tspec = t.tspec; sender = t.of }))

    pub delivered : (c : ℕ) (cs : List ℕ) → Pays u (c ∷ cs)
        → (ds : List ℕ) × Pays next (cs ++ ds) × (zeros ds ≡ 0) × (total ds + left_in next ≤ c + left_in u)
    delivered c cs paid_all = by u.flight refl paid_all
      where
        by : (fs : List Item) → u.flight ≡ fs → Covers u [] fs (c ∷ cs) → (ds : List ℕ) × Pays next (cs ++ ds) × (zeros ds ≡ 0) × (total ds + left_in next ≤ c + left_in u)
        by [] e p = absurd p
        by (y ∷ ys) e p =
            let arr : slice_get u.flight 0 ≡ Some y = ap (λ (l : List Item). slice_get l 0) e in
            let news : List (Item × Bool) = sent q (Deliver 0) u in
            let mapped : Covers next [] ys cs = covers_map u next same_payers (y ∷ []) (λ zs z i. idle_then y arr zs z i) [] ys cs p.1 in
            let new_items : List Item = each (λ (z : Item × Bool). z.0) news in
            let as_next : each (λ z. length (payers next.net (locals_of next) z)) new_items ≡ prices u news =
            ap (λ (f : Item → List Sender). each (λ z. length (f z)) new_items) (sym same_payers) ∙ prices_as u news in
            let added : Covers next ([] ++ ys) new_items (prices u news) = subst (λ (l : List ℕ). Covers next ([] ++ ys) new_items l) as_next (covers_paid next ys new_items) in
            let flight : ys ++ new_items ≡ next.flight = ap (λ (l : List Item). remove l 0 ++ new_items) (sym e) in
            let sum = pays_then y c arr p.0 in
            let tot = total_prices u news in (
              prices u news,
              subst (λ (l : List Item). Covers next [] l (cs ++ prices u news)) flight (covers_append next [] ys new_items cs (prices u news) mapped added),
              no_zeros u news (λ x i. sent_payer x.0 x.1 i),
              omega (arith, sum, tot),
            )
