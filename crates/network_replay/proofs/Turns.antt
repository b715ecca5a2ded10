-- What nodes send in a step, one after the other.
use Rattle.std.proofs.Common.{◌≡◌, ℕ, zero, suc, ◌+◌, ◌≤◌, List, [], ◌∷◌, ◌++◌, Bool, Some, length, drop, refl, sym, ap, ◌∙◌, arith, add-one}
use Rattle.std.specs.Prelude.{slice_get, map as each}
use Rattle.std.proofs.lemmas.List.{map-append}
use Rattle.router_rules.specs.Facts.{Facts}
use Rattle.network_flight.specs.Steps.{Step, sent_from}
use Rattle.network_flight.specs.Worlds.{Item, World}
use Rattle.network_replay.proofs.Making.{copies_at}

module _ (q : ℕ) (w : World) (s : Step) where
  -- what nodes from a number on send
  abbrev pub sent_on : ℕ → List Item
  sent_on n = each (λ x. x.0) (sent_from q s w n (drop n w.nodes))

  from_here : (k n : ℕ) (fs : List Facts) (f : Facts) → slice_get fs n ≡ Some f → sent_from q s w k (drop n fs) ≡ copies_at q s w k f ++ sent_from q s w (suc k) (drop (suc n) fs)
  from_here k n [] f e = absurd (cc)
  from_here k zero (g ∷ fs) f e = let same : g ≡ f = (let z : Some g ≡ Some f = e in cc) in ap (λ (z : Facts). copies_at q s w k z ++ sent_from q s w (suc k) fs) same
  from_here k (suc n) (g ∷ fs) f e = from_here k n fs f e

  split : (n : ℕ) (f : Facts) → slice_get w.nodes n ≡ Some f → sent_on n ≡ each (λ x. x.0) (copies_at q s w n f) ++ sent_on (suc n)
  split n f e = ap (λ (xs : List (Item × Bool)). each (λ x. x.0) xs) (from_here n n w.nodes f e)
      ∙ map-append (λ (x : Item × Bool). x.0) (copies_at q s w n f) (sent_from q s w (suc n) (drop (suc n) w.nodes))

  none_behind : (k n : ℕ) (fs : List Facts) → length fs ≤ n → each (λ x. x.0) (sent_from q s w k (drop n fs)) ≡ []
  none_behind k zero [] le = refl
  none_behind k (suc n) [] le = refl
  none_behind k zero (f ∷ fs) le = absurd (omega arith)
  none_behind k (suc n) (f ∷ fs) le = none_behind k n fs (omega arith)

  pub none_on : (n : ℕ) → length w.nodes ≤ n → sent_on n ≡ []
  none_on n le = none_behind n n w.nodes le

  -- from here on
  pub one_on : (n : ℕ) (f : Facts) → slice_get w.nodes n ≡ Some f → sent_on n ≡ each (λ x. x.0) (copies_at q s w n f) ++ sent_on (n + 1)
  one_on n f e = split n f e ∙ ap (λ m. each (λ x. x.0) (copies_at q s w n f) ++ sent_on m) (sym (add-one n))
