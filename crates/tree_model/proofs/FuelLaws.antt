-- Enough fuel is enough.
use Rattle.std.proofs.Common.{◌≡◌, ℕ, zero, suc, ◌≤◌, ◌<◌, List, sym, refl, ◌∙◌, arith}
use Rattle.rsvp_base.specs.Members.{In}
use Rattle.tree_model.specs.Fuel.{by_fuel}

module _ {H X : Type 0} (step : H → (H → X) → X) (none : X) (follow : H → List H) (rank : H → ℕ) (same : (h : H) (f g : H → X) → ((y : H) → In y (follow h) → f y ≡ g y) → step h f ≡ step h g)
    (falls : (h y : H) → In y (follow h) → rank y < rank h) (off : (h : H) (f : H → X) → rank h ≡ 0 → step h f ≡ none) where
  pub fuel : (n m : ℕ) (h : H) → rank h ≤ n → rank h ≤ m → by_fuel step none n h ≡ by_fuel step none m h
  fuel zero zero h le le' = refl
  fuel zero (suc m) h le le' = sym (off h (λ y. by_fuel step none m y) (omega arith))
  fuel (suc n) zero h le le' = off h (λ y. by_fuel step none n y) (omega arith)
  fuel (suc n) (suc m) h le le' = same h (λ y. by_fuel step none n y) (λ y. by_fuel step none m y) (λ y i. let l = falls h y i in fuel n m y (omega arith) (omega arith))

  pub equation : (h : H) → by_fuel step none (rank h) h ≡ step h (λ y. by_fuel step none (rank y) y)
  equation h =
      fuel (rank h) (suc (rank h)) h (omega arith) (omega arith)
      ∙ same h (λ y. by_fuel step none (rank h) y) (λ y. by_fuel step none (rank y) y) (λ y i. let l = falls h y i in fuel (rank h) (rank y) y (omega arith) (omega arith))

  module _ (there : H → Type 0) (among : (h y : H) → In y (follow h) → there y) (f : H → X) (solves : (h : H) → there h → f h ≡ step h f) where
    alone_by : (n : ℕ) (h : H) → there h → rank h ≤ n → f h ≡ by_fuel step none (rank h) h
    alone_by zero h t le = solves h t ∙ same h f (λ y. by_fuel step none (rank y) y) (λ y i. let l = falls h y i in absurd (omega arith)) ∙ sym (equation h)
    alone_by (suc n) h t le = solves h t ∙ same h f (λ y. by_fuel step none (rank y) y) (λ y i. let l = falls h y i in alone_by n y (among h y i) (omega arith)) ∙ sym (equation h)

    pub alone : (h : H) → there h → f h ≡ by_fuel step none (rank h) h
    alone h t = alone_by (rank h) h t (omega arith)
