-- Who sends behind the sends: just those that began to.
use Rattle.std.proofs.Common.{◌≡◌, ◌⊎◌, ◌↔◌, ℕ, ◌<◌, Bool, true, false, cond, List, [], ◌∷◌, Some, None, refl, sym, ap, subst, ◌∙◌, inl, inr, ⊎_elim, arith}
use Rattle.std.specs.Prelude.{map as each, ◌==◌}
use Rattle.std.specs.List.{flat_map, range_with_len}
use Rattle.std.specs.Ordering.{eq_by_cmp}
use Rattle.rsvp_base.specs.Members.{In}
use Rattle.rsvp_base.specs.Table.{empty, get, keys, put_in}
use Rattle.rsvp_base.specs.TokenBucket.{TokenBucket}
use Rattle.rsvp_base.proofs.Counts.{found_in, in_found}
use Rattle.rsvp_base.proofs.Members.{in_each, in_flat_map, to_each, to_flat_map}
use Rattle.rsvp_base.proofs.Tables.{either, get-put_in, get-put_in_other, get-put_in_same, got_put_in}
use Rattle.router_rules.specs.Calls.{SendersOf}
use Rattle.router_rules.specs.Facts.{SenderKey, sender_keys}
use Rattle.tree_model.specs.declared.locals.LocalSender.{LocalSender}
use Rattle.tree_model.proofs.Following.{number_same, same_number}
use Rattle.network_model.specs.Locals.{sender_at}
use Rattle.grown_network.specs.Hosts.{flow_of}
use Rattle.grown_network.proofs.Ranges.{to_range}
use Rattle.laws_grown.proofs.Sending.{after_sends, with_send}

abbrev key_of : LocalSender → SenderKey
key_of x = (x.session, x.sender)

-- ---- one begins to send
put_told : (S : ℕ → SendersOf) (x : LocalSender) (n : ℕ) (k : SenderKey) (t : TokenBucket) → get (with_send S x n) k ≡ Some t → (sender_at n k ≡ x) ⊎ (get (S n) k ≡ Some t)
put_told S x n k t e = by (x.node == n) refl e
  where
    by : (b : Bool) → (x.node == n) ≡ b → get (cond b (put_in (S n) (key_of x) (flow_of 1000)) (S n)) k ≡ Some t → (sender_at n k ≡ x) ⊎ (get (S n) k ≡ Some t)
    by true on e =
        let node = sym (same_number x.node n on) in
        ⊎_elim (λ (h : (k ≡ key_of x) × (t ≡ flow_of 1000)). inl (λ i. record { node = node i; session = (h.0 i).0; sender = (h.0 i).1 })) (λ (h : get (S n) k ≡ Some t). inr h)
        (got_put_in sender_keys (S n) (key_of x) (flow_of 1000) k t e)
    by false off e = inr e

put_stays : (S : ℕ → SendersOf) (x : LocalSender) (n : ℕ) (k : SenderKey) (t : TokenBucket) → get (S n) k ≡ Some t → (u : TokenBucket) × (get (with_send S x n) k ≡ Some u)
put_stays S x n k t h = by (x.node == n)
  where
    by : (b : Bool) → (u : TokenBucket) × (get (cond b (put_in (S n) (key_of x) (flow_of 1000)) (S n)) k ≡ Some u)
    by true =
        either (eq_by_cmp sender_keys.cmp k (key_of x))
        (λ tie. (flow_of 1000, get-put_in sender_keys (S n) (key_of x) (flow_of 1000) k ∙ ap (λ (b : Bool). cond b (Some (flow_of 1000)) (get (S n) k)) tie))
        (λ apart. (t, get-put_in_other sender_keys (S n) (key_of x) (flow_of 1000) k apart ∙ h))
    by false = (t, h)

put_here : (S : ℕ → SendersOf) (x : LocalSender) → get (with_send S x x.node) (key_of x) ≡ Some (flow_of 1000)
put_here S x =
    ap (λ (b : Bool). get (cond b (put_in (S x.node) (key_of x) (flow_of 1000)) (S x.node)) (key_of x)) (number_same x.node x.node refl)
    ∙ get-put_in_same sender_keys (S x.node) (key_of x) (flow_of 1000)

-- ---- all of them
told : (xs : List LocalSender) (S : ℕ → SendersOf) (n : ℕ) (k : SenderKey) (t : TokenBucket) → get (after_sends xs S n) k ≡ Some t → In (sender_at n k) xs ⊎ (get (S n) k ≡ Some t)
unfolding after_sends
told [] S n k t e = inr e
told (x ∷ xs) S n k t e =
    ⊎_elim (λ (i : In (sender_at n k) xs). inl (inr i))
    (λ (h : get (with_send S x n) k ≡ Some t). ⊎_elim (λ (same : sender_at n k ≡ x). inl (inl same)) (λ (old : get (S n) k ≡ Some t). inr old) (put_told S x n k t h)) (told xs (with_send S x) n k t e)

stays : (xs : List LocalSender) (S : ℕ → SendersOf) (n : ℕ) (k : SenderKey) (t : TokenBucket) → get (S n) k ≡ Some t → (u : TokenBucket) × (get (after_sends xs S n) k ≡ Some u)
unfolding after_sends
stays [] S n k t h = (t, h)
stays (x ∷ xs) S n k t h = let more = put_stays S x n k t h in stays xs (with_send S x) n k more.0 more.1

made : (xs : List LocalSender) (S : ℕ → SendersOf) (x : LocalSender) → In x xs → (u : TokenBucket) × (get (after_sends xs S x.node) (key_of x) ≡ Some u)
unfolding after_sends
made [] S x i = absurd i
made (y ∷ xs) S x i =
    ⊎_elim
    (λ (same : x ≡ y).
    stays xs (with_send S y) x.node (key_of x) (flow_of 1000) (subst (λ (z : LocalSender). get (with_send S z x.node) (key_of x) ≡ Some (flow_of 1000)) same (put_here S x)))
    (λ (j : In x xs). made xs (with_send S y) x j) i

-- ---- listed by node
module _ (xs : List LocalSender) where
  abbrev pub sends_at : ℕ → List LocalSender
  sends_at n = each (sender_at n) (keys (after_sends xs (λ m. empty) n))

  listed : (x : LocalSender) → In x (flat_map sends_at (range_with_len 0 64)) → In x xs
  listed x i =
      let n = in_flat_map sends_at x (range_with_len 0 64) i in
      let k = in_each (sender_at n.0) x (keys (after_sends xs (λ m. empty) n.0)) n.2 in
      let e = in_each (λ (r : SenderKey × TokenBucket). r.0) k.0 (after_sends xs (λ m. empty) n.0).rows k.1 in
      let there = in_found sender_keys (after_sends xs (λ m. empty) n.0) e.0.0 e.0.1 e.1 in
      let is : x ≡ sender_at n.0 e.0.0 = k.2 ∙ ap (sender_at n.0) e.2 in
      ⊎_elim (λ (j : In (sender_at n.0 e.0.0) xs). subst (λ (z : LocalSender). In z xs) (sym is) j) (λ (no : None ≡ Some e.0.1). absurd (cc)) (told xs (λ m. empty) n.0 e.0.0 e.0.1 there)

  in_list : (x : LocalSender) → x.node < 64 → In x xs → In x (flat_map sends_at (range_with_len 0 64))
  in_list x lt i =
      let u = made xs (λ m. empty) x i in
      let row = found_in sender_keys (after_sends xs (λ m. empty) x.node) (key_of x) u.0 u.1 in
      let key = to_each (λ (r : SenderKey × TokenBucket). r.0) (key_of x, u.0) (after_sends xs (λ m. empty) x.node).rows row in
      to_flat_map sends_at x.node x (range_with_len 0 64) (to_range 0 64 x.node (omega arith) (omega (arith, lt)))
      (to_each (sender_at x.node) (key_of x) (keys (after_sends xs (λ m. empty) x.node)) key)

  pub just_those : ((x : LocalSender) → In x xs → x.node < 64) → (x : LocalSender) → In x (flat_map sends_at (range_with_len 0 64)) ↔ In x xs
  just_those within x = (λ i. listed x i, λ i. in_list x (within x i) i)
