-- What nodes have and send after a step, node by node; and copies of what is sent.
use Rattle.std.proofs.Common.{◌≡◌, ℕ, zero, suc, ◌+◌, List, [], ◌∷◌, Bool, Some, ⊎_elim, arith, refl, sym, ap, subst, zero-add, add-zero}
use Rattle.std.specs.Prelude.{slice_get}
use Rattle.rsvp_base.specs.Members.{In}
use Rattle.rsvp_base.proofs.Members.{in_append, in_left, in_right, in_each, to_each, in_flat_map, to_flat_map}
use Rattle.router_examples.specs.RouterRules.Facts.{Facts}
use Rattle.router_examples.specs.RouterRules.Inputs.{Send}
use Rattle.tree_model.specs.Networks.{Net, end_at}
use Rattle.network_model.specs.Links.{goes_to, copy_to, copies_of, all_copies}
use Rattle.network_model.specs.Steps.{Step, outcome, facts_from, sent_from, sent, step}
use Rattle.network_model.specs.Worlds.{Item, World}

-- ---- copies
pub copies_found : (net : Net) (born n : ℕ) (ss : List Send) (x : Item × Bool) → In x (all_copies net born n ss)
    → (send : Send) × (e : ℕ) × In send ss × In e (goes_to net (end_at net.ends n send.iface) send.dst) × (x ≡ copy_to born send e)
copies_found net born n ss x i =
    let s = in_flat_map (copies_of net born n) x ss i in
    let e = in_each (copy_to born s.0) x (goes_to net (end_at net.ends n s.0.iface) s.0.dst) s.2 in
    (s.0, e.0, s.1, e.1, e.2)

pub copies_made : (net : Net) (born n : ℕ) (ss : List Send) (send : Send) (e : ℕ) → In send ss → In e (goes_to net (end_at net.ends n send.iface) send.dst)
    → In (copy_to born send e) (all_copies net born n ss)
copies_made net born n ss send e i to =
    to_flat_map (copies_of net born n) send (copy_to born send e) ss i (to_each (copy_to born send) e (goes_to net (end_at net.ends n send.iface) send.dst) to)

module _ (q : ℕ) (s : Step) (w : World) where
  -- ---- facts
  facts_found : (k n : ℕ) (fs : List Facts) (g : Facts) → slice_get (facts_from q s w k fs) n ≡ Some g → (f : Facts) × (slice_get fs n ≡ Some f) × (g ≡ (outcome q s w (k + n) f).facts)
  facts_found k n [] g e = absurd (cc)
  facts_found k zero (f ∷ fs) g e = let h : (outcome q s w k f).facts ≡ g = cc in (f, refl, rw add-zero (sym h))
  facts_found k (suc n) (f ∷ fs) g e =
      let r = facts_found (suc k) n fs g e in
      let same : suc k + n ≡ k + suc n = omega arith in
      (r.0, r.1, rw (← same) r.2)

  facts_made : (k n : ℕ) (fs : List Facts) (f : Facts) → slice_get fs n ≡ Some f → slice_get (facts_from q s w k fs) n ≡ Some (outcome q s w (k + n) f).facts
  facts_made k n [] f e = absurd (cc)
  facts_made k zero (g ∷ fs) f e = let h : g ≡ f = cc in rw add-zero (ap (λ (z : Facts). Some (outcome q s w k z).facts) h)
  facts_made k (suc n) (g ∷ fs) f e =
      let r = facts_made (suc k) n fs f e in
      let same : suc k + n ≡ k + suc n = omega arith in
      rw (← same) r

  pub facts_after_found : (n : ℕ) (g : Facts) → slice_get (step q s w).nodes n ≡ Some g → (f : Facts) × (slice_get w.nodes n ≡ Some f) × (g ≡ (outcome q s w n f).facts)
  facts_after_found n g e = let r = facts_found 0 n w.nodes g e in (r.0, r.1, rw zero-add at r.2)

  pub facts_after_made : (n : ℕ) (f : Facts) → slice_get w.nodes n ≡ Some f → slice_get (step q s w).nodes n ≡ Some (outcome q s w n f).facts
  facts_after_made n f e = rw zero-add at (facts_made 0 n w.nodes f e)

  -- ---- sends
  abbrev pub SentBy : (Item × Bool) → ℕ → Facts → Type 0
  SentBy x n f = In x (all_copies w.net w.made n (outcome q s w n f).sent)

  from_found : (k : ℕ) (fs : List Facts) (x : Item × Bool) → In x (sent_from q s w k fs) → (n : ℕ) × (f : Facts) × (slice_get fs n ≡ Some f) × SentBy x (k + n) f
  from_found k [] x i = absurd i
  from_found k (f ∷ fs) x i =
      ⊎_elim
      (λ (now : SentBy x k f). (0, f, refl, rw add-zero now))
      (λ (later : In x (sent_from q s w (suc k) fs)).
      let r = from_found (suc k) fs x later in
      let same : suc k + r.0 ≡ k + suc r.0 = omega arith in
      (suc r.0, r.1, r.2, rw (← same) r.3))
      (in_append x (all_copies w.net w.made k (outcome q s w k f).sent) (sent_from q s w (suc k) fs) i)

  from_made : (k n : ℕ) (fs : List Facts) (f : Facts) (x : Item × Bool) → slice_get fs n ≡ Some f → SentBy x (k + n) f → In x (sent_from q s w k fs)
  from_made k n [] f x e i = absurd (cc)
  from_made k zero (g ∷ fs) f x e i =
      let h : f ≡ g = cc in
      let here : SentBy x k f = rw add-zero at i in
      in_left x (all_copies w.net w.made k (outcome q s w k g).sent) (sent_from q s w (suc k) fs) (subst (λ (z : Facts). SentBy x k z) h here)
  from_made k (suc n) (g ∷ fs) f x e i =
      let same : k + suc n ≡ suc k + n = omega arith in
      in_right x (all_copies w.net w.made k (outcome q s w k g).sent) (sent_from q s w (suc k) fs) (from_made (suc k) n fs f x e (subst (λ (z : ℕ). SentBy x z f) same i))

  pub sent_found : (x : Item × Bool) → In x (sent q s w) → (n : ℕ) × (f : Facts) × (slice_get w.nodes n ≡ Some f) × SentBy x n f
  sent_found x i = let r = from_found 0 w.nodes x i in (r.0, r.1, r.2, rw zero-add at r.3)

  pub sent_made : (n : ℕ) (f : Facts) (x : Item × Bool) → slice_get w.nodes n ≡ Some f → SentBy x n f → In x (sent q s w)
  sent_made n f x e i = from_made 0 n w.nodes f x e (subst (λ (z : ℕ). SentBy x z f) (sym (zero-add n)) i)
