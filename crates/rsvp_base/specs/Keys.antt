-- Orders of keys, each with its laws, and how they are put together.
use Rattle.std.specs.Prelude.{◌≡◌, ℕ, Option, Some, None, refl}
use Rattle.std.proofs.Common.{ap}
use Rattle.std.specs.declared.cmp.Ordering.{Ordering}
use Rattle.std.specs.declared.cmp.Ordering.TheVariants.{Less, Equal, Greater}
use Rattle.std.specs.Ordering.{nat_cmp, ordering_then, on, then_cmp}
use Rattle.std.specs.Option.{option_cmp}
use Rattle.std.specs.Cmp.{IsTotalOrder, nat_cmp_total, on_total, then_total}
use Rattle.std.specs.Cmp.Lexicographic.{options_total}
use Rattle.std.specs.FinMap.{IsAntisymmetric, nat_cmp-IsAntisymmetric}

-- a total order in which keys that tie are one key
pub record Keys (K : Type 0) : Type 0 where
  pub cmp : K → K → Ordering
  pub total : IsTotalOrder cmp
  pub same : IsAntisymmetric cmp

-- numbers by their size
abbrev pub numbers : Keys ℕ
numbers = record { cmp = nat_cmp; total = nat_cmp_total; same = nat_cmp-IsAntisymmetric }

-- keys in the order of what f gives, which tells them apart
abbrev pub by : {K J : Type 0} (f : K → J) → ((a b : K) → f a ≡ f b → a ≡ b) → Keys J → Keys K
by f apart o = record { cmp = on f o.cmp; total = on_total f o.total; same = λ a b tie. apart a b (o.same (f a) (f b) tie) }

then_equal : (p q : Ordering) → ordering_then p q ≡ Equal → (p ≡ Equal) × (q ≡ Equal)
then_equal Less q e = cc
then_equal Equal q e = (refl, e)
then_equal Greater q e = cc

pub pairs_same : {A B : Type 0} (o : Keys A) (p : Keys B) → IsAntisymmetric (then_cmp (on (λ (k : A × B). k.0) o.cmp) (on (λ (k : A × B). k.1) p.cmp))
pairs_same o p a b tie =
    let parts = then_equal (o.cmp a.0 b.0) (p.cmp a.1 b.1) tie in
    let first = o.same a.0 b.0 parts.0 in
    let second = p.same a.1 b.1 parts.1 in
    λ i. (first i, second i)

-- pairs by their first part, and then by their second
abbrev pub pairs : {A B : Type 0} → Keys A → Keys B → Keys (A × B)
pairs {A} {B} o p =
    record {
      cmp = then_cmp (on (λ (k : A × B). k.0) o.cmp) (on (λ (k : A × B). k.1) p.cmp);
      total = then_total {R = on (λ (k : A × B). k.0) o.cmp} {S = on (λ (k : A × B). k.1) p.cmp} (on_total (λ (k : A × B). k.0) o.total) (on_total (λ (k : A × B). k.1) p.total);
      same = pairs_same o p;
    }

pub options_same : {A : Type 0} (o : Keys A) → IsAntisymmetric (option_cmp o.cmp)
options_same o None None tie = refl
options_same o None (Some b) tie = cc
options_same o (Some a) None tie = cc
options_same o (Some a) (Some b) tie = ap Some (o.same a b tie)

-- nothing before something, and something by its order
abbrev pub options : {A : Type 0} → Keys A → Keys (Option A)
options o = record { cmp = option_cmp o.cmp; total = options_total o.total; same = options_same o }
