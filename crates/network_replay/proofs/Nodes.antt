-- Nodes after a step.
use Rattle.std.proofs.Common.{◌≡◌, ℕ, zero, suc, ◌+◌, ◌<◌, List, [], ◌∷◌, Option, None, Some, length, refl, sym, ap, subst, ◌∙◌, arith, inl, inr, ◌⊎◌}
use Rattle.std.specs.Prelude.{slice_get, slice_set, map as each}
use Rattle.std.specs.List.{All}
use Rattle.std.proofs.lemmas.List.Elements.{All-nil, All-cons, All-head, All-tail, All-set}
use Rattle.std.proofs.lemmas.Bool.{cases_eq}
use Rattle.router_rules.specs.Facts.{Facts}
use Rattle.router_rules.specs.Inputs.{Input}
use Rattle.tree_model.specs.Networks.{Net}
use Rattle.network_flight.specs.Steps.{Step, ms_of, net_after, input_at, outcome_of, outcome, step}
use Rattle.network_flight.specs.Worlds.{World, config_of}
use Rattle.network_flight.proofs.Stepping.{facts_after_made}
use Rattle.network_replay.specs.Agreeing.{IsNode, AreNodes}
use Rattle.network_replay.specs.Following.{Seen}
use Rattle.network_replay.proofs.Making.{as_many_nodes}

pub within : {A : Type 0} (xs : List A) (n : ℕ) (x : A) → slice_get xs n ≡ Some x → n < length xs
within [] n x at = absurd (cc)
within (y ∷ ys) zero x at = omega arith
within (y ∷ ys) (suc n) x at = let h = within ys n x at in omega (arith, h)

pub length_set : {A : Type 0} (xs : List A) (n : ℕ) (x : A) → length (slice_set xs n x) ≡ length xs
length_set [] n x = refl
length_set (y ∷ ys) zero x = refl
length_set (y ∷ ys) (suc n) x = ap suc (length_set ys n x)

pub set_there : {A : Type 0} (xs : List A) (n : ℕ) (y x : A) → slice_get (slice_set xs n y) n ≡ Some x → x ≡ y
set_there [] n y x e = absurd (cc)
set_there (a ∷ xs) zero y x e = (let h : Some y ≡ Some x = e in cc)
set_there (a ∷ xs) (suc n) y x e = set_there xs n y x e

pub set_elsewhere : {A : Type 0} (xs : List A) (n m : ℕ) (y : A) → (m ≡ n → ⊥) → slice_get (slice_set xs n y) m ≡ slice_get xs m
set_elsewhere [] n m y ne = refl
set_elsewhere (a ∷ xs) zero zero y ne = absurd (ne refl)
set_elsewhere (a ∷ xs) zero (suc m) y ne = refl
set_elsewhere (a ∷ xs) (suc n) zero y ne = refl
set_elsewhere (a ∷ xs) (suc n) (suc m) y ne = set_elsewhere xs n m y (λ e. ne (ap suc e))

-- what is the same of the new element is the same of all
pub each_set : {A B : Type 0} (f : A → B) (xs : List A) (n : ℕ) (old new : A) → slice_get xs n ≡ Some old → f new ≡ f old → each f (slice_set xs n new) ≡ each f xs
each_set f [] n old new at e = refl
each_set f (x ∷ xs) zero old new at e = let same : x ≡ old = (let h : Some x ≡ Some old = at in cc) in ap (λ y. y ∷ each f xs) (e ∙ ap f (sym same))
each_set f (x ∷ xs) (suc n) old new at e = ap (λ ys. f x ∷ ys) (each_set f xs n old new at e)

pub all_set : {A : Type 0} (P : A → Type 0) (xs : List A) (n : ℕ) (new : A) → All P xs → P new → All P (slice_set xs n new)
all_set P xs n new all p = All-set P xs n new p all

pub all_at : {A : Type 0} (P : A → Type 0) (xs : List A) (n : ℕ) (x : A) → All P xs → slice_get xs n ≡ Some x → P x
all_at P [] n x all e = absurd (cc)
all_at P (y ∷ ys) zero x all e = let h : Some y ≡ Some x = e in let same : y ≡ x = cc in subst P same (All-head P y ys all)
all_at P (y ∷ ys) (suc n) x all e = all_at P ys n x (All-tail P y ys all) e

pub all_each : {A B : Type 0} (f : A → B) (P : B → Type 0) (xs : List A) → All P (each f xs) → All (λ x. P (f x)) xs
all_each f P [] all = All-nil (λ x. P (f x))
all_each f P (x ∷ xs) all = All-cons (λ y. P (f y)) x xs (All-head P (f x) (each f xs) all) (all_each f P xs (All-tail P (f x) (each f xs) all))

module _ {R : Type 0} (see : Seen R) (q : ℕ) (s : Step) (w : World) (stays : net_after s w ≡ w.net) where
  -- a node that followed its rule
  pub node_after : (n : ℕ) (r new : R) → IsNode see q w n r → see.place new ≡ see.place r → see.facts new (w.clock + ms_of s) ≡ (outcome q s w n (see.facts r w.clock)).facts
      → IsNode see q (step q s w) n new
  node_after n r new is place facts = record {
    place = place ∙ is.place ∙ ap (λ (net : Net). config_of q net w.trees n) (sym stays);
    facts = facts_after_made q s w n (see.facts r w.clock) is.facts ∙ ap (λ (f : Facts). Some f) (sym facts);
  }

  -- a node to which nothing came
  pub node_still : (n : ℕ) (r : R) → ms_of s ≡ 0 → input_at s w n ≡ None → IsNode see q w n r → IsNode see q (step q s w) n r
  node_still n r none e is =
      let same : w.clock + ms_of s ≡ w.clock = omega (arith, none) in
      node_after n r r is refl (ap (λ c. see.facts r c) same ∙ sym (ap (λ (i : Option Input). (outcome_of q i s w n (see.facts r w.clock)).facts) e))

  pub nodes_still : (rs : List R) → ms_of s ≡ 0 → ((n : ℕ) → n < length rs → input_at s w n ≡ None) → AreNodes see q w rs → AreNodes see q (step q s w) rs
  nodes_still rs none e are = record {
    many = are.many ∙ sym (as_many_nodes q s w);
    all = λ n r at. node_still n r none (e n (within rs n r at)) (are.all n r at);
  }

  -- one node followed its rule, and nothing came to the others
  pub nodes_one : (rs : List R) (n : ℕ) (old new : R) → ms_of s ≡ 0 → ((m : ℕ) → (m ≡ n → ⊥) → input_at s w m ≡ None) → AreNodes see q w rs → slice_get rs n ≡ Some old → see.place new ≡ see.place old
      → see.facts new (w.clock + ms_of s) ≡ (outcome q s w n (see.facts old w.clock)).facts → AreNodes see q (step q s w) (slice_set rs n new)
  nodes_one rs n old new none e are there place facts = record {
    many = length_set rs n new ∙ are.many ∙ sym (as_many_nodes q s w);
    all = λ m r at. by m r at (cases_eq m n);
  }
    where
      by : (m : ℕ) (r : R) → slice_get (slice_set rs n new) m ≡ Some r → (m ≡ n) ⊎ (m ≡ n → ⊥) → IsNode see q (step q s w) m r
      by m r at (inl same) =
          let is : r ≡ new = set_there rs n new r (subst (λ j. slice_get (slice_set rs n new) j ≡ Some r) same at) in
          let here : IsNode see q (step q s w) n new = node_after n old new (are.all n old there) place facts in
          subst (λ (x : R). IsNode see q (step q s w) m x) (sym is) (subst (λ j. IsNode see q (step q s w) j new) (sym same) here)
      by m r at (inr ne) = node_still m r none (e m ne) (are.all m r (sym (set_elsewhere rs n m new ne) ∙ at))
