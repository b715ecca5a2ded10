-- When a host ends, no more senders are left than there were, and each at its place: so they are few enough still.
use Rattle.std.proofs.Common.{◌≡◌, ◌≤◌, ℕ, suc, List, [], ◌∷◌, ◌++◌, length, Bool, true, false, cond, Option, Some, None, ◌⊎◌, inl, inr, ⊎_elim, arith, sym, refl, ap, subst, ◌∙◌}
use Rattle.std.specs.Prelude.{map as each, not, slice_get}
use Rattle.std.specs.List.{filter}
use Rattle.std.specs.Ordering.{eq_by_cmp}
use Rattle.std.proofs.lemmas.List.{length-map}
use Rattle.rsvp_base.specs.declared.session.Session.{Session}
use Rattle.rsvp_base.specs.Members.{In}
use Rattle.rsvp_base.specs.Orders.{sessions}
use Rattle.rsvp_base.specs.Sets.{set_of}
use Rattle.rsvp_base.specs.Table.{Table, get, keys, without}
use Rattle.rsvp_base.specs.TokenBucket.{TokenBucket}
use Rattle.rsvp_base.proofs.Counts.{set_below}
use Rattle.rsvp_base.proofs.Tables.{got_without}
use Rattle.router_rules.specs.declared.answers.LocalErr.{LocalErr}
use Rattle.router_rules.specs.Calls.{call_refusal, unless}
use Rattle.router_rules.specs.Facts.{Facts, SenderKey, sender_keys}
use Rattle.router_rules.specs.Inputs.{DropAs, Local}
use Rattle.router_rules.specs.Rule.{Outcome}
use Rattle.tree_model.specs.declared.locals.LocalSender.{LocalSender}
use Rattle.tree_model.specs.Wants.{of_session}
use Rattle.network_model.specs.Bounds.{AreHosts}
use Rattle.network_model.specs.Locals.{sender_at, senders_from}
use Rattle.network_model.specs.Steps.{At, facts_from, outcome, still}
use Rattle.network_model.specs.Worlds.{World, config_of}
use Rattle.network_model.proofs.Stepping.{facts_after_found}
use Rattle.settle_passes.specs.Calls.{after_drop}
use Rattle.settle_passes.proofs.Called.{IsCalled, called}

-- ---- a list is what is left of another where some are taken out
abbrev IsLeftOfList : {A : Type 0} → List A → List A → Type 0
IsLeftOfList [] ys = Unit {0}
IsLeftOfList (x ∷ xs) [] = ⊥
IsLeftOfList (x ∷ xs) (y ∷ ys) = ((x ≡ y) × IsLeftOfList xs ys) ⊎ IsLeftOfList (x ∷ xs) ys

skipped : {A : Type 0} (xs : List A) (y : A) (ys : List A) → IsLeftOfList xs ys → IsLeftOfList xs (y ∷ ys)
skipped [] y ys h = tt
skipped (x ∷ xs) y ys h = inr h

all_left : {A : Type 0} (xs : List A) → IsLeftOfList xs xs
all_left [] = tt
all_left (x ∷ xs) = inl (refl, all_left xs)

left_length : {A : Type 0} (xs ys : List A) → IsLeftOfList xs ys → length xs ≤ length ys
left_length [] ys h = omega arith
left_length (x ∷ xs) [] h = absurd h
left_length {A} (x ∷ xs) (y ∷ ys) h =
    ⊎_elim (λ (a : (x ≡ y) × IsLeftOfList xs ys). let less = left_length xs ys a.1 in omega (arith, less))
    (λ (b : IsLeftOfList (x ∷ xs) ys). let less = left_length (x ∷ xs) ys b in omega (arith, less)) h

left_in : {A : Type 0} (xs ys : List A) → IsLeftOfList xs ys → (z : A) → In z xs → In z ys
left_in [] ys h z i = absurd i
left_in (x ∷ xs) [] h z i = absurd h
left_in {A} (x ∷ xs) (y ∷ ys) h z i =
    ⊎_elim (λ (a : (x ≡ y) × IsLeftOfList xs ys). ⊎_elim (λ (e : z ≡ x). inl (e ∙ a.0)) (λ (j : In z xs). inr (left_in xs ys a.1 z j)) i)
    (λ (b : IsLeftOfList (x ∷ xs) ys). inr (left_in (x ∷ xs) ys b z i)) h

left_each : {A B : Type 0} (g : A → B) (xs ys : List A) → IsLeftOfList xs ys → IsLeftOfList (each g xs) (each g ys)
left_each g [] ys h = tt
left_each g (x ∷ xs) [] h = absurd h
left_each {A} g (x ∷ xs) (y ∷ ys) h =
    ⊎_elim (λ (a : (x ≡ y) × IsLeftOfList xs ys). inl (ap g a.0, left_each g xs ys a.1)) (λ (b : IsLeftOfList (x ∷ xs) ys). inr (left_each g (x ∷ xs) ys b)) h

left_append : {A : Type 0} (xs ys zs ws : List A) → IsLeftOfList xs ys → IsLeftOfList zs ws → IsLeftOfList (xs ++ zs) (ys ++ ws)
left_append [] [] zs ws h k = k
left_append [] (y ∷ ys) zs ws h k = skipped zs y (ys ++ ws) (left_append [] ys zs ws tt k)
left_append (x ∷ xs) [] zs ws h k = absurd h
left_append {A} (x ∷ xs) (y ∷ ys) zs ws h k =
    ⊎_elim (λ (a : (x ≡ y) × IsLeftOfList xs ys). inl (a.0, left_append xs ys zs ws a.1 k)) (λ (b : IsLeftOfList (x ∷ xs) ys). inr (left_append (x ∷ xs) ys zs ws b k)) h

left_filter : {A : Type 0} (p : A → Bool) (xs ys : List A) → IsLeftOfList xs ys → IsLeftOfList (filter p xs) (filter p ys)
left_filter p [] ys h = tt
left_filter p (x ∷ xs) [] h = absurd h
left_filter {A} p (x ∷ xs) (y ∷ ys) h =
    ⊎_elim (λ (a : (x ≡ y) × IsLeftOfList xs ys). subst (λ (z : A). IsLeftOfList (filter p (x ∷ xs)) (filter p (z ∷ ys))) a.0 (same (p x) (left_filter p xs ys a.1)))
    (λ (b : IsLeftOfList (x ∷ xs) ys). other (p y) (left_filter p (x ∷ xs) ys b)) h
  where
    same : (b : Bool) → IsLeftOfList (filter p xs) (filter p ys) → IsLeftOfList (cond b (x ∷ filter p xs) (filter p xs)) (cond b (x ∷ filter p ys) (filter p ys))
    same true r = inl (refl, r)
    same false r = r

    other : (b : Bool) → IsLeftOfList (filter p (x ∷ xs)) (filter p ys) → IsLeftOfList (filter p (x ∷ xs)) (cond b (y ∷ filter p ys) (filter p ys))
    other true r = skipped (filter p (x ∷ xs)) y (filter p ys) r
    other false r = r

filter_left : {A : Type 0} (p : A → Bool) (xs : List A) → IsLeftOfList (filter p xs) xs
filter_left p [] = tt
filter_left {A} p (x ∷ xs) = by (p x) (filter_left p xs)
  where
    by : (b : Bool) → IsLeftOfList (filter p xs) xs → IsLeftOfList (cond b (x ∷ filter p xs) (filter p xs)) (x ∷ xs)
    by true r = inl (refl, r)
    by false r = skipped (filter p xs) x xs r

-- ---- a host ends
keys_left : (r : Option LocalErr) (m : Table sender_keys TokenBucket) (d : SenderKey) → IsLeftOfList (keys (unless r (without m d) m)) (keys m)
keys_left None m d = left_each (λ (e : SenderKey × TokenBucket). e.0) _ m.rows (filter_left (λ (e : SenderKey × TokenBucket). not (eq_by_cmp sender_keys.cmp d e.0)) m.rows)
keys_left (Some e) m d = all_left (keys m)

pub dropped_from : (r : Option LocalErr) (m : Table sender_keys TokenBucket) (d k : SenderKey) (t : TokenBucket) → get (unless r (without m d) m) k ≡ Some t → get m k ≡ Some t
dropped_from None m d k t h = got_without sender_keys m d k t h
dropped_from (Some e) m d k t h = h

module _ (q n : ℕ) (d : SenderKey) (w : World) (hosts : AreHosts w) where
  abbrev call : Local
  call = DropAs d.0 d.1

  abbrev begun : World
  begun = after_drop q n d w

  node_left : (m : ℕ) (f : Facts) → IsLeftOfList (keys (outcome q (At n call) w m f).facts.senders) (keys f.senders)
  node_left m f =
      ⊎_elim (λ (h : outcome q (At n call) w m f ≡ still f). subst (λ (o : Outcome). IsLeftOfList (keys o.facts.senders) (keys f.senders)) (sym h) (all_left (keys f.senders)))
      (λ (h : IsCalled q w n call m f).
      subst (λ (o : Outcome). IsLeftOfList (keys o.facts.senders) (keys f.senders)) (sym h.is) (keys_left (call_refusal (config_of q w.net w.trees m) call f) f.senders d))
      (called q w n call m f)

  senders_left : (m : ℕ) (fs : List Facts) → IsLeftOfList (senders_from m (facts_from q (At n call) w m fs)) (senders_from m fs)
  senders_left m [] = tt
  senders_left m (f ∷ fs) =
      left_append (each (sender_at m) (keys (outcome q (At n call) w m f).facts.senders)) (each (sender_at m) (keys f.senders)) _ _
      (left_each (sender_at m) (keys (outcome q (At n call) w m f).facts.senders) (keys f.senders) (node_left m f)) (senders_left (suc m) fs)

  pub sender_before : (m : ℕ) (g : Facts) (k : SenderKey) (t : TokenBucket) → slice_get begun.nodes m ≡ Some g → get g.senders k ≡ Some t
      → (f : Facts) × (slice_get w.nodes m ≡ Some f) × (get f.senders k ≡ Some t)
  sender_before m g k t at e =
      let f = facts_after_found q (At n call) w m g at in
      let now : get (outcome q (At n call) w m f.0).facts.senders k ≡ Some t = ap (λ (z : Facts). get z.senders k) (sym f.2) ∙ e in (
        f.0,
        f.1,
        ⊎_elim (λ (h : outcome q (At n call) w m f.0 ≡ still f.0). sym (ap (λ (o : Outcome). get o.facts.senders k) h) ∙ now)
            (λ (h : IsCalled q w n call m f.0).
            dropped_from (call_refusal (config_of q w.net w.trees m) call f.0) f.0.senders d k t (sym (ap (λ (o : Outcome). get o.facts.senders k) h.is) ∙ now))
            (called q w n call m f.0),
      )

  pub hosts_after : AreHosts begun
  hosts_after =
      let left = senders_left 0 w.nodes in
      record {
        placed = λ m g k t at e. let f = sender_before m g k t at e in hosts.placed m f.0 k t f.1 f.2;
        groups = λ m g k t at e. let f = sender_before m g k t at e in hosts.groups m f.0 k t f.1 f.2;
        few_senders = λ s.
            let now = filter (of_session s) (senders_from 0 begun.nodes) in
            let before = filter (of_session s) (senders_from 0 w.nodes) in
            let less = left_length (each (λ (x : LocalSender). x.sender) now) (each (λ (x : LocalSender). x.sender) before)
            (left_each (λ (x : LocalSender). x.sender) now before (left_filter (of_session s) (senders_from 0 begun.nodes) (senders_from 0 w.nodes) left)) in
            let few = hosts.few_senders s in
            omega (arith, less, few);
        few_sessions =
            let now = each (λ (x : LocalSender). x.session) (senders_from 0 begun.nodes) in
            let before = each (λ (x : LocalSender). x.session) (senders_from 0 w.nodes) in
            let less = set_below sessions now before (left_in now before (left_each (λ (x : LocalSender). x.session) (senders_from 0 begun.nodes) (senders_from 0 w.nodes) left)) in
            let a = length-map (set_of {o = sessions} now).rows (λ (e : Session × Unit {0}). e.0) in
            let b = length-map (set_of {o = sessions} before).rows (λ (e : Session × Unit {0}). e.0) in
            let few = hosts.few_sessions in
            omega (arith, less, a, b, few);
      }
