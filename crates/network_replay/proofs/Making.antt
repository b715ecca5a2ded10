-- What a step of a network leaves and sends, where something comes to one node or to none.
use Rattle.std.proofs.Common.{◌≡◌, ℕ, zero, suc, ◌+◌, ◌<◌, List, [], ◌∷◌, ◌++◌, Bool, true, false, Option, None, Some, length, refl, sym, ap, ap₂, subst, ◌∙◌, arith, add-zero, append-nil, eq-eqb}
use Rattle.std.proofs.lemmas.Bool.{eqb-true}
use Rattle.std.specs.Prelude.{slice_get, ◌==◌}
use Rattle.router_rules.specs.Facts.{Facts}
use Rattle.router_rules.specs.Inputs.{Input, Came}
use Rattle.tree_model.specs.declared.hops.End.{End}
use Rattle.tree_model.specs.Networks.{iface_of}
use Rattle.network_flight.specs.Links.{all_copies}
use Rattle.network_flight.specs.Steps.{Step, Deliver, at_node, came, came_by_end, input_at, outcome_of, outcome, facts_from, sent_from, sent, step}
use Rattle.network_flight.specs.Worlds.{Item, World}

module _ (q : ℕ) (s : Step) (w : World) where
  -- what a node sends, as items
  abbrev pub copies_at : ℕ → Facts → List (Item × Bool)
  copies_at n f = all_copies w.net w.made n (outcome q s w n f).sent

  quiet_node : (n : ℕ) (f : Facts) → input_at s w n ≡ None → copies_at n f ≡ []
  quiet_node n f e = ap (λ (i : Option Input). all_copies w.net w.made n (outcome_of q i s w n f).sent) e

  none_from : (k : ℕ) (fs : List Facts) → ((n : ℕ) → n < length fs → input_at s w (k + n) ≡ None) → sent_from q s w k fs ≡ []
  none_from k [] h = refl
  none_from k (f ∷ fs) h =
      let here : input_at s w k ≡ None = subst (λ m. input_at s w m ≡ None) (add-zero k) (h 0 (omega arith)) in
      let after : (n : ℕ) → n < length fs → input_at s w (suc k + n) ≡ None = λ n lt. (let same : k + suc n ≡ suc k + n = omega arith in
      subst (λ m. input_at s w m ≡ None) same (h (suc n) (omega arith))) in
      ap₂ (λ (xs ys : List (Item × Bool)). xs ++ ys) (quiet_node k f here) (none_from (suc k) fs after)

  one_from : (k n : ℕ) (fs : List Facts) (f : Facts) → slice_get fs n ≡ Some f → ((m : ℕ) → m < length fs → (m ≡ n → ⊥) → input_at s w (k + m) ≡ None) → sent_from q s w k fs ≡ copies_at (k + n) f
  one_from k n [] f e h = absurd (cc)
  one_from k zero (g ∷ fs) f e h =
      let same : g ≡ f = (let z : Some g ≡ Some f = e in cc) in
      let after : (n : ℕ) → n < length fs → input_at s w (suc k + n) ≡ None = λ n lt. (let place : k + suc n ≡ suc k + n = omega arith in
      subst (λ m. input_at s w m ≡ None) place (h (suc n) (omega arith) (λ z. omega arith))) in
      ap (λ (ys : List (Item × Bool)). copies_at k g ++ ys) (none_from (suc k) fs after) ∙ append-nil (copies_at k g) ∙ ap (λ (z : Facts). copies_at k z) same
      ∙ ap (λ m. copies_at m f) (sym (add-zero k))
  one_from k (suc n) (g ∷ fs) f e h =
      let here : input_at s w k ≡ None = subst (λ m. input_at s w m ≡ None) (add-zero k) (h 0 (omega arith) (λ z. omega arith)) in
      let after : (m : ℕ) → m < length fs → (m ≡ n → ⊥) → input_at s w (suc k + m) ≡ None =
      λ m lt ne. (let place : k + suc m ≡ suc k + m = omega arith in subst (λ j. input_at s w j ≡ None) place (h (suc m) (omega arith) (λ z. ne (omega arith)))) in
      let at : suc k + n ≡ k + suc n = omega arith in
      ap (λ (xs : List (Item × Bool)). xs ++ sent_from q s w (suc k) fs) (quiet_node k g here) ∙ one_from (suc k) n fs f e after ∙ ap (λ m. copies_at m f) at

  pub sends_nothing : ((n : ℕ) → input_at s w n ≡ None) → sent q s w ≡ []
  sends_nothing h = none_from 0 w.nodes (λ n lt. h (0 + n))

  pub one_sends : (n : ℕ) (f : Facts) → slice_get w.nodes n ≡ Some f → ((m : ℕ) → (m ≡ n → ⊥) → input_at s w m ≡ None) → sent q s w ≡ copies_at n f
  one_sends n f e h = let same : 0 + n ≡ n = omega arith in one_from 0 n w.nodes f e (λ m lt ne. h (0 + m) (λ z. ne (omega arith))) ∙ ap (λ m. copies_at m f) same

  -- where something comes to a node that is not there, nothing is sent
  pub none_sends : ((m : ℕ) → m < length w.nodes → input_at s w m ≡ None) → sent q s w ≡ []
  none_sends h = none_from 0 w.nodes (λ n lt. h (0 + n) (omega arith))

  length_from : (k : ℕ) (fs : List Facts) → length (facts_from q s w k fs) ≡ length fs
  length_from k [] = refl
  length_from k (f ∷ fs) = ap suc (length_from (suc k) fs)

  pub as_many_nodes : length (step q s w).nodes ≡ length w.nodes
  as_many_nodes = length_from 0 w.nodes

-- ---- what comes by a delivery
pub at_other : (m n : ℕ) (i : Input) → (n ≡ m → ⊥) → at_node m i n ≡ None
at_other m n i ne = by (m == n) refl
  where
    by : (b : Bool) → (m == n) ≡ b → at_node m i n ≡ None
    by true t = absurd (ne (sym (eqb-true m n t)))
    by false t = rw t refl

pub at_same : (m : ℕ) (i : Input) → at_node m i m ≡ Some i
at_same m i = let t : (m == m) ≡ true = eq-eqb m m refl in rw t refl

module _ (w : World) (k : ℕ) where
  pub nothing_comes : (n : ℕ) → slice_get w.flight k ≡ None → input_at (Deliver k) w n ≡ None
  nothing_comes n e = ap (λ (o : Option Item). came w o n) e

  module _ (x : Item) (there : slice_get w.flight k ≡ Some x) where
    pub comes_nowhere : (n : ℕ) → slice_get w.net.ends x.end ≡ None → input_at (Deliver k) w n ≡ None
    comes_nowhere n e = ap (λ (o : Option Item). came w o n) there ∙ ap (λ (o : Option End). came_by_end x (iface_of w.net.ends x.end) o n) e

    module _ (e : End) (end : slice_get w.net.ends x.end ≡ Some e) where
      pub comes_by : (n : ℕ) → input_at (Deliver k) w n ≡ at_node e.node (Came (iface_of w.net.ends x.end) x.dst x.arrival) n
      comes_by n = ap (λ (o : Option Item). came w o n) there ∙ ap (λ (o : Option End). came_by_end x (iface_of w.net.ends x.end) o n) end

      pub comes_to_no_other : (n : ℕ) → (n ≡ e.node → ⊥) → input_at (Deliver k) w n ≡ None
      comes_to_no_other n ne = comes_by n ∙ at_other e.node n (Came (iface_of w.net.ends x.end) x.dst x.arrival) ne

      pub comes_to_it : input_at (Deliver k) w e.node ≡ Some (Came (iface_of w.net.ends x.end) x.dst x.arrival)
      comes_to_it = comes_by e.node ∙ at_same e.node (Came (iface_of w.net.ends x.end) x.dst x.arrival)
