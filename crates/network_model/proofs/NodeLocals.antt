-- What is asked of a network is what its nodes have: each local want is a row of the wants of its node, each local sender one of
-- its senders, and the other way round.
use Rattle.std.proofs.Common.{◌≡◌, ℕ, zero, suc, ◌+◌, List, [], ◌∷◌, Some, ⊎_elim, arith, sym, refl, ap, subst, ◌∙◌}
use Rattle.std.specs.Prelude.{slice_get, map as each}
use Rattle.std.specs.Option.{option_map}
use Rattle.rsvp_base.specs.declared.session.Sender.{Sender}
use Rattle.rsvp_base.specs.declared.session.Session.{Session}
use Rattle.rsvp_base.specs.Members.{In}
use Rattle.rsvp_base.specs.Orders.{sessions}
use Rattle.rsvp_base.specs.Table.{get, keys}
use Rattle.rsvp_base.specs.TokenBucket.{TokenBucket}
use Rattle.rsvp_base.proofs.Counts.{in_found, found_in}
use Rattle.rsvp_base.proofs.Members.{in_each, to_each, in_filter, in_append, in_left, in_right}
use Rattle.rsvp_base.proofs.Tables.{tied_same}
use Rattle.tree_model.specs.declared.locals.LocalSender.{LocalSender}
use Rattle.tree_model.specs.declared.locals.LocalWant.{LocalWant}
use Rattle.tree_model.specs.Wants.{live, of_session}
use Rattle.router_examples.specs.RouterRules.Facts.{Facts, SenderKey, WantKey, Want, sender_keys, want_keys}
use Rattle.network_model.specs.Locals.{IsLive, sender_at, senders_from, want_at, wants_from, locals_of}
use Rattle.network_model.specs.Worlds.{World}

-- a local want is a row of the wants of its node
pub record IsWantOfNode (fs : List Facts) (j : ℕ) (w : LocalWant) : Type 0 where
  pub place : ℕ
  pub facts : Facts
  pub at : slice_get fs place ≡ Some facts
  pub node : w.node ≡ j + place
  pub key : WantKey
  pub want : Want
  pub there : get facts.wants key ≡ Some want
  pub is : w ≡ want_at w.node (key, want)

told : (j : ℕ) (fs : List Facts) (w : LocalWant) → In w (wants_from j fs) → IsWantOfNode fs j w
told j [] w i = absurd i
told j (f ∷ fs) w i =
    ⊎_elim
    (λ (here : In w (each (want_at j) f.wants.rows)).
    let e = in_each (want_at j) w f.wants.rows here in
    let node : w.node ≡ j = ap (λ (z : LocalWant). z.node) e.2 in
    record {
      place = 0;
      facts = f;
      at = refl;
      node = omega (arith, node);
      key = e.0.0;
      want = e.0.1;
      there = in_found want_keys f.wants e.0.0 e.0.1 e.1;
      is = e.2 ∙ ap (λ (z : ℕ). want_at z e.0) (sym node);
    })
    (λ (there : In w (wants_from (suc j) fs)).
    let r = told (suc j) fs w there in
    let node = r.node in
    record { place = suc r.place; facts = r.facts; at = r.at; node = omega (arith, node); key = r.key; want = r.want; there = r.there; is = r.is })
    (in_append w (each (want_at j) f.wants.rows) (wants_from (suc j) fs) i)

made : (j n : ℕ) (fs : List Facts) (f : Facts) (k : WantKey) (x : Want) → slice_get fs n ≡ Some f → get f.wants k ≡ Some x → In (want_at (j + n) (k, x)) (wants_from j fs)
made j n [] f k x a h = absurd (cc)
made j zero (g ∷ fs) f k x a h =
    let same : f ≡ g = cc in
    let row : In (k, x) g.wants.rows = found_in want_keys g.wants k x (subst (λ (z : Facts). get z.wants k ≡ Some x) same h) in
    let e : j ≡ j + 0 = omega arith in
    subst (λ (z : ℕ). In (want_at z (k, x)) (wants_from j (g ∷ fs))) e (in_left (want_at j (k, x)) (each (want_at j) g.wants.rows) (wants_from (suc j) fs)
    (to_each (want_at j) (k, x) g.wants.rows row))
made j (suc n) (g ∷ fs) f k x a h =
    let e : suc j + n ≡ j + suc n = omega arith in
    subst (λ (z : ℕ). In (want_at z (k, x)) (wants_from j (g ∷ fs))) e
    (in_right (want_at (suc j + n) (k, x)) (each (want_at j) g.wants.rows) (wants_from (suc j) fs) (made (suc j) n fs f k x a h))

-- each local want of the network is one of its node
pub want_of_node : (w : World) (x : LocalWant) → In x (locals_of w).wants → (f : Facts) × (k : WantKey) × (v : Want) × (slice_get w.nodes x.node ≡ Some f) × (get f.wants k ≡ Some v)
    × (x ≡ want_at x.node (k, v))
want_of_node w x i =
    let r = told 0 w.nodes x i in
    let node : x.node ≡ r.place = (let e = r.node in omega (arith, e)) in
    (r.facts, r.key, r.want, ap (λ (z : ℕ). slice_get w.nodes z) node ∙ r.at, r.there, r.is)

-- and each of a node is one of the network
pub node_wants : (w : World) (n : ℕ) (f : Facts) (k : WantKey) (v : Want) → slice_get w.nodes n ≡ Some f → get f.wants k ≡ Some v → In (want_at n (k, v)) (locals_of w).wants
node_wants w n f k v a h = let e : 0 + n ≡ n = omega arith in subst (λ (z : ℕ). In (want_at z (k, v)) (wants_from 0 w.nodes)) e (made 0 n w.nodes f k v a h)

-- ---- senders
pub record IsSenderOfNode (fs : List Facts) (j : ℕ) (x : LocalSender) : Type 0 where
  pub place : ℕ
  pub facts : Facts
  pub at : slice_get fs place ≡ Some facts
  pub node : x.node ≡ j + place
  pub key : SenderKey
  pub tspec : TokenBucket
  pub there : get facts.senders key ≡ Some tspec
  pub is : x ≡ sender_at x.node key

pub sender_told : (j : ℕ) (fs : List Facts) (x : LocalSender) → In x (senders_from j fs) → IsSenderOfNode fs j x
sender_told j [] x i = absurd i
sender_told j (f ∷ fs) x i =
    ⊎_elim
    (λ (here : In x (each (sender_at j) (keys f.senders))).
    let e = in_each (sender_at j) x (keys f.senders) here in
    let row = in_each (λ (e : SenderKey × TokenBucket). e.0) e.0 f.senders.rows e.1 in
    let node : x.node ≡ j = ap (λ (z : LocalSender). z.node) e.2 in
    record {
      place = 0;
      facts = f;
      at = refl;
      node = omega (arith, node);
      key = row.0.0;
      tspec = row.0.1;
      there = in_found sender_keys f.senders row.0.0 row.0.1 row.1;
      is = e.2 ∙ (λ i. sender_at (sym node i) (row.2 i));
    })
    (λ (there : In x (senders_from (suc j) fs)).
    let r = sender_told (suc j) fs x there in
    let node = r.node in
    record { place = suc r.place; facts = r.facts; at = r.at; node = omega (arith, node); key = r.key; tspec = r.tspec; there = r.there; is = r.is })
    (in_append x (each (sender_at j) (keys f.senders)) (senders_from (suc j) fs) i)

-- each local sender of the network is one of its node
pub sender_of_node : (w : World) (x : LocalSender) → In x (locals_of w).senders → (f : Facts) × (k : SenderKey) × (t : TokenBucket) × (slice_get w.nodes x.node ≡ Some f) × (get f.senders k ≡ Some t)
    × (x ≡ sender_at x.node k)
sender_of_node w x i =
    let r = sender_told 0 w.nodes x i in
    let node : x.node ≡ r.place = (let e = r.node in omega (arith, e)) in
    (r.facts, r.key, r.tspec, ap (λ (z : ℕ). slice_get w.nodes z) node ∙ r.at, r.there, r.is)

-- a sender of a node is live
pub is_live : (w : World) (n : ℕ) (f : Facts) (k : SenderKey) (t : TokenBucket) → slice_get w.nodes n ≡ Some f → get f.senders k ≡ Some t → IsLive w k t
is_live w n f k t at h = record { node = n; senders = f.senders; at = ap (option_map (λ (z : Facts). z.senders)) at; sends = h }

-- and those of a session are live
pub live_told : (w : World) (s : Session) (x : Sender) → In x (live (locals_of w) s) → (t : TokenBucket) × IsLive w (s, x) t
live_told w s x i =
    let e = in_each (λ (z : LocalSender). z.sender) x _ i in
    let f = in_filter (of_session s) e.0 (locals_of w).senders e.1 in
    let r = sender_of_node w e.0 f.0 in
    let key : r.1 ≡ (s, x) = (λ i. ((sym (ap (λ (z : LocalSender). z.session) r.5) ∙ sym (tied_same sessions s e.0.session f.1)) i, (sym (ap (λ (z : LocalSender). z.sender) r.5) ∙ sym e.2) i)) in
    (r.2, subst (λ (z : SenderKey). IsLive w z r.2) key (is_live w e.0.node r.0 r.1 r.2 r.3 r.4))
