-- A network that made a step agrees with the world after it.
use Rattle.std.proofs.Common.{◌≡◌, ℕ, ◌+◌, ◌<◌, ◌≤◌, List, [], ◌∷◌, ◌++◌, Bool, true, false, Option, None, Some, length, refl, sym, ap, subst, ◌∙◌, arith, ltb-true, ltb-false, append-nil}
use Rattle.std.specs.Prelude.{slice_get, map as each, nat_lt, min, ◌||◌}
use Rattle.std.specs.List.{remove}
use Rattle.rsvp_base.specs.declared.addr.Addr.{Addr}
use Rattle.calm_rounds.specs.Machine.{items_of}
use Rattle.tree_model.specs.Networks.{Net}
use Rattle.network_flight.specs.Runs.{is_crowded, crowds}
use Rattle.network_flight.specs.Steps.{Step, Deliver, Copy, Inject, ms_of, net_after, input_at, arrived, rest, words_after, trace_after, sent, step}
use Rattle.network_flight.specs.Worlds.{Item, World}
use Rattle.network_flight.specs.Parcels.{Parcel, parcel}
use Rattle.network_replay.specs.Agreeing.{NetworkState, IsItem, AreItems, AreNodes, Agrees, AreReady, most_count}
use Rattle.network_replay.specs.Due.{IsDue}
use Rattle.network_replay.specs.Following.{Seen, IsArrival}
use Rattle.router_rules.specs.Inputs.{Arrival}
use Rattle.std.proofs.lemmas.List.{take_all}
use Rattle.network_replay.specs.Mailing.{ArePut}
use Rattle.network_replay.specs.Posting.{Post, put_behind}
use Rattle.network_replay.proofs.Mailed.{all_are_put, room_for_all, no_room_for_all, nothing_put}
use Rattle.network_replay.proofs.Making.{sends_nothing, nothing_comes}
use Rattle.network_replay.proofs.Nodes.{nodes_still}
use Rattle.network_replay.proofs.Zips.{all_zip_get, all_zip_none, all_zip_remove, all_zip_length, all_zip_append, remove_past}

fits : (n : ℕ) → n ≤ 8192 → nat_lt 8192 n ≡ false
fits n le = by (nat_lt 8192 n) refl
  where
    by : (b : Bool) → nat_lt 8192 n ≡ b → nat_lt 8192 n ≡ false
    by true t = absurd (omega (arith, le, ltb-true 8192 n t))
    by false t = t

over : (n : ℕ) → 8192 < n → nat_lt 8192 n ≡ true
over n lt = by (nat_lt 8192 n) refl
  where
    by : (b : Bool) → nat_lt 8192 n ≡ b → nat_lt 8192 n ≡ true
    by true t = t
    by false t = absurd (omega (arith, lt, ltb-false 8192 n t))

-- the period is the same, and there are routes of the same trees
abbrev pub HasSetUp : {R : Type 0} → NetworkState R → NetworkState R → Type 0
HasSetUp old v = ◌≡◌ {A = ℕ × List (Addr × Addr)} (v.quarter, v.trees) (old.quarter, old.trees)

module _ (q : ℕ) (s : Step) (w : World) where
  uncrowded_one : is_crowded (step q s w) ≡ false → crowds q (s ∷ []) w ≡ false
  uncrowded_one e = rw e refl

  crowded_one : is_crowded (step q s w) ≡ true → crowds q (s ∷ []) w ≡ true
  crowded_one e = rw e refl

  module _ (mid new : Post) (roomy : mid.full ≡ false) (items : AreItems mid.flight (rest s w)) (put : ArePut mid new (each (λ x. x.0) (sent q s w))) where
    flown : AreItems (mid.flight ++ put.parcels) (step q s w).flight
    flown = all_zip_append IsItem mid.flight put.parcels (rest s w) (each (λ (x : Item × Bool). x.0) (sent q s w)) items put.are

    many : length (mid.flight ++ put.parcels) ≡ length (step q s w).flight
    many = all_zip_length IsItem (mid.flight ++ put.parcels) (step q s w).flight flown

    pub step_crowds : new.full ≡ true → crowds q (s ∷ []) w ≡ true
    step_crowds e = crowded_one (over (length (step q s w).flight) (omega (arith, many, no_room_for_all mid new (each (λ (x : Item × Bool). x.0) (sent q s w)) roomy put e)))

    pub step_fits : new.full ≡ false → crowds q (s ∷ []) w ≡ false
    step_fits e = uncrowded_one (fits (length (step q s w).flight) (omega (arith, many, room_for_all mid new (each (λ (x : Item × Bool). x.0) (sent q s w)) roomy put e)))

    module _ {R : Type 0} (see : Seen R) (old v : NetworkState R) (agrees : Agrees see q old w) (posts : v.post ≡ new) (full : new.full ≡ false) where
      -- in the network in which the nodes posted
      pub step_made_in : net_after s w ≡ mid.net → v.refused ≡ None → HasSetUp old v → AreNodes see q (step q s w) v.nodes → v.words ≡ words_after s w
          → v.delivered ≡ min (w.delivered + length (items_of (arrived s w))) most_count → v.trace ≡ trace_after s w
          → (crowds q (s ∷ []) w ≡ false) × Agrees see q v (step q s w)
      step_made_in wires going set_up are drawn counted traced =
          let all = all_are_put mid new (each (λ (x : Item × Bool). x.0) (sent q s w)) roomy put full in
          let flights : v.post.flight ≡ mid.flight ++ put.parcels = ap (λ (p : Post). p.flight) posts ∙ all in
          let room = room_for_all mid new (each (λ (x : Item × Bool). x.0) (sent q s w)) roomy put full in (
            step_fits full,
            record {
              going = going;
              roomy = ap (λ (p : Post). p.full) posts ∙ full;
              quarter = ap (λ x. x.0) set_up ∙ agrees.quarter;
              trees = ap (λ x. x.1) set_up ∙ agrees.trees;
              net = wires ∙ sym put.net ∙ sym (ap (λ (p : Post). p.net) posts);
              nodes = are;
              flight = subst (λ (ps : List Parcel). AreItems ps (step q s w).flight) (sym flights) flown;
              room = subst (λ (ps : List Parcel). length ps ≤ 8192) (sym flights) room;
              words = drawn;
              delivered = counted;
              trace = traced;
            },
          )

    module _ {R : Type 0} (see : Seen R) (old v : NetworkState R) (agrees : Agrees see q old w) (stays : net_after s w ≡ w.net) (wires : mid.net ≡ old.post.net) (posts : v.post ≡ new)
        (full : new.full ≡ false) where
      pub step_made : v.refused ≡ None → HasSetUp old v → AreNodes see q (step q s w) v.nodes → v.words ≡ words_after s w
          → v.delivered ≡ min (w.delivered + length (items_of (arrived s w))) most_count → v.trace ≡ trace_after s w
          → (crowds q (s ∷ []) w ≡ false) × Agrees see q v (step q s w)
      step_made going set_up are drawn counted traced = step_made_in see old v agrees posts full (stays ∙ agrees.net ∙ sym wires) going set_up are drawn counted traced

  -- nothing comes to a node
  module _ {R : Type 0} (see : Seen R) (old v : NetworkState R) (agrees : Agrees see q old w) (stays : net_after s w ≡ w.net) (none : ms_of s ≡ 0) (quiet : (n : ℕ) → input_at s w n ≡ None) where
    pub still_put : (a b : Post) → length a.flight ≤ 8192 → b ≡ a → ArePut a b (each (λ x. x.0) (sent q s w))
    still_put a b le is = subst (λ (xs : List (Item × Bool)). ArePut a b (each (λ x. x.0) xs)) (sym (sends_nothing q s w quiet)) (nothing_put a b le is)

    pub still_made : v.post.full ≡ false → v.post.net ≡ old.post.net → AreItems v.post.flight (rest s w) → length v.post.flight ≤ 8192 → v.refused ≡ None → HasSetUp old v → v.nodes ≡ old.nodes
        → v.words ≡ words_after s w
        → v.delivered ≡ min (w.delivered + length (items_of (arrived s w))) most_count → v.trace ≡ trace_after s w → (crowds q (s ∷ []) w ≡ false) × Agrees see q v (step q s w)
    still_made full wires items room going set_up nodes drawn counted traced =
        step_made v.post v.post full items (still_put v.post v.post room refl) see old v agrees stays wires refl full going set_up
        (subst (λ (rs : List R). AreNodes see q (step q s w) rs) (sym nodes) (nodes_still see q s w stays old.nodes none (λ n lt. quiet n) agrees.nodes)) drawn counted traced

-- ---- a delivery
module _ {R : Type 0} (see : Seen R) (q : ℕ) (old : NetworkState R) (w : World) (agrees : Agrees see q old w) (k : ℕ) where
  pub due_here : (net : Net) (end : ℕ) (dst : Addr) (bytes hand : List ℕ) → net ≡ old.post.net → bytes ≡ hand → slice_get old.post.flight k ≡ Some (record { end = end; dst = dst; bytes = hand })
      → IsDue net end dst bytes w k
  due_here net end dst bytes hand same held at =
      let p : Parcel = record { end = end; dst = dst; bytes = bytes } in
      let there : slice_get old.post.flight k ≡ Some p = at ∙ ap (λ (bs : List ℕ). Some (parcel dst bs end)) (sym held) in
      let found = all_zip_get IsItem old.post.flight w.flight k p agrees.flight there in
      record { item = found.0; there = found.1; is = found.2; wired = agrees.net ∙ sym same }

  pub rest_here : (mid : List Parcel) → mid ≡ remove old.post.flight k → AreItems mid (rest (Deliver k) w)
  rest_here mid e = subst (λ (ps : List Parcel). AreItems ps (rest (Deliver k) w)) (sym e) (all_zip_remove IsItem old.post.flight w.flight k agrees.flight)

  pub counted_one : (delivered : ℕ) (p : Parcel) → slice_get old.post.flight k ≡ Some p → delivered ≡ min (old.delivered + 1) most_count
      → delivered ≡ min (w.delivered + length (items_of (arrived (Deliver k) w))) most_count
  counted_one delivered p at e =
      let found = all_zip_get IsItem old.post.flight w.flight k p agrees.flight at in
      let one : length (items_of (arrived (Deliver k) w)) ≡ 1 = ap (λ (o : Option Item). length (items_of o)) found.1 in
      omega (arith, e, agrees.delivered, one)

  pub nothing_there : slice_get old.post.flight k ≡ None → slice_get w.flight k ≡ None
  nothing_there e = all_zip_none IsItem old.post.flight w.flight k agrees.flight e

  -- where nothing is there
  pub none_here : slice_get old.post.flight k ≡ None → (crowds q (Deliver k ∷ []) w ≡ false) × Agrees see q old (step q (Deliver k) w)
  none_here e =
      let none = nothing_there e in
      let zero : length (items_of (arrived (Deliver k) w)) ≡ 0 = ap (λ (o : Option Item). length (items_of o)) none in
      still_made q (Deliver k) w see old old agrees refl refl (λ n. nothing_comes w k n none) agrees.roomy refl
      (subst (λ (xs : List Item). AreItems old.post.flight xs) (sym (remove_past w.flight k none)) agrees.flight) agrees.room agrees.going refl refl agrees.words
      (omega (arith, agrees.delivered, zero)) agrees.trace

  pub copied_here : (end : ℕ) (dst : Addr) (bytes hand : List ℕ) → bytes ≡ hand → slice_get old.post.flight k ≡ Some (record { end = end; dst = dst; bytes = hand })
      → AreItems (old.post.flight ++ (record { end = end; dst = dst; bytes = bytes }) ∷ []) (rest (Copy k) w)
  copied_here end dst bytes hand held at =
      let p : Parcel = record { end = end; dst = dst; bytes = bytes } in
      let there : slice_get old.post.flight k ≡ Some p = at ∙ ap (λ (bs : List ℕ). Some (parcel dst bs end)) (sym held) in
      let found = all_zip_get IsItem old.post.flight w.flight k p agrees.flight there in
      subst (λ (o : Option Item). AreItems (old.post.flight ++ p ∷ []) (w.flight ++ items_of o)) (sym found.1)
      (all_zip_append IsItem old.post.flight (p ∷ []) w.flight (found.0 ∷ []) agrees.flight (found.2, tt))

  pub not_copied : slice_get old.post.flight k ≡ None → AreItems old.post.flight (rest (Copy k) w)
  not_copied e = subst (λ (xs : List Item). AreItems old.post.flight xs) (sym (ap (λ (o : Option Item). w.flight ++ items_of o) (nothing_there e) ∙ append-nil w.flight)) agrees.flight

-- ---- a piece of a wait
module _ {R : Type 0} (see : Seen R) (q : ℕ) (old : NetworkState R) (w : World) (agrees : Agrees see q old w) where
  pub ready : AreReady see q old.post.net old.words old.nodes w
  ready = record { wired = agrees.net; words_are = agrees.words; nodes = agrees.nodes }

  pub counted_none : old.delivered ≡ min (w.delivered + 0) most_count
  counted_none = omega (arith, agrees.delivered)

-- ---- what is left of the network while a datagram is delivered
module _ {R : Type 0} (see : Seen R) (q : ℕ) (old : NetworkState R) (w : World) (agrees : Agrees see q old w) (k : ℕ) (mid : Post)
    (taken : mid ≡ record old.post { flight = remove old.post.flight k }) where
  pub still_roomy : mid.full ≡ false
  still_roomy = ap (λ (p : Post). p.full) taken ∙ agrees.roomy

  pub same_wires : mid.net ≡ old.post.net
  same_wires = ap (λ (p : Post). p.net) taken

  pub others : AreItems mid.flight (rest (Deliver k) w)
  others = rest_here see q old w agrees k mid.flight (ap (λ (p : Post). p.flight) taken)

-- ---- one more is put in flight
module _ (q : ℕ) (s : Step) (w : World) {R : Type 0} (see : Seen R) (old : NetworkState R) (agrees : Agrees see q old w) (quiet : (n : ℕ) → input_at s w n ≡ None) (p : Parcel)
    (are : AreItems (old.post.flight ++ p ∷ []) (rest s w)) (new : Post) (put : new ≡ put_behind (p ∷ []) old.post) where
  many_left : length (old.post.flight ++ p ∷ []) ≡ length (step q s w).flight
  many_left =
      all_zip_length IsItem (old.post.flight ++ p ∷ []) (rest s w) are
      ∙ ap (λ (xs : List Item). length xs) (sym (append-nil (rest s w)) ∙ ap (λ (xs : List (Item × Bool)). rest s w ++ each (λ x. x.0) xs) (sym (sends_nothing q s w quiet)))

  test : new.full ≡ nat_lt 8192 (length (old.post.flight ++ p ∷ []))
  test = ap (λ (m : Post). m.full) put ∙ ap (λ (b : Bool). b || nat_lt 8192 (length (old.post.flight ++ p ∷ []))) agrees.roomy

  pub one_put_crowds : new.full ≡ true → crowds q (s ∷ []) w ≡ true
  one_put_crowds e = crowded_one q s w (over (length (step q s w).flight) (omega (arith, many_left, ltb-true 8192 (length (old.post.flight ++ p ∷ [])) (sym test ∙ e))))

  module _ (full : new.full ≡ false) where
    room_left : length (old.post.flight ++ p ∷ []) ≤ 8192
    room_left = ltb-false 8192 (length (old.post.flight ++ p ∷ [])) (sym test ∙ full)

    flight_is : new.flight ≡ old.post.flight ++ p ∷ []
    flight_is = ap (λ (m : Post). m.flight) put ∙ take_all 8192 (old.post.flight ++ p ∷ []) room_left

    pub one_put_made : (v : NetworkState R) → v.post ≡ new → net_after s w ≡ w.net → ms_of s ≡ 0 → v.refused ≡ None → HasSetUp old v → v.nodes ≡ old.nodes → v.words ≡ words_after s w
        → v.delivered ≡ min (w.delivered + length (items_of (arrived s w))) most_count
        → v.trace ≡ trace_after s w → (crowds q (s ∷ []) w ≡ false) × Agrees see q v (step q s w)
    one_put_made v posts stays none going set_up nodes drawn counted traced =
        let flights : v.post.flight ≡ old.post.flight ++ p ∷ [] = ap (λ (m : Post). m.flight) posts ∙ flight_is in
        still_made q s w see old v agrees stays none quiet (ap (λ (m : Post). m.full) posts ∙ full) (ap (λ (m : Post). m.net) (posts ∙ put))
        (subst (λ (ps : List Parcel). AreItems ps (rest s w)) (sym flights) are)
        (subst (λ (ps : List Parcel). length ps ≤ 8192) (sym flights) room_left) going set_up nodes drawn counted traced

module _ {R : Type 0} (see : Seen R) (q : ℕ) (old : NetworkState R) (w : World) (agrees : Agrees see q old w) where
  pub injected_here : (end : ℕ) (dst : Addr) (bytes : List ℕ) (a : Arrival) → IsArrival bytes a → AreItems (old.post.flight ++ parcel dst bytes end ∷ []) (rest (Inject end dst a) w)
  injected_here end dst bytes a read =
      all_zip_append IsItem old.post.flight (parcel dst bytes end ∷ []) w.flight ((record { end = end; dst = dst; arrival = a; born = w.made }) ∷ []) agrees.flight
      (record { end = refl; dst = refl; arrival = read }, tt)
