-- A test of the names of rows.
use Rattle.std.specs.Prelude.{◌≡◌, ◌||◌, Bool, List, [], ◌∷◌, map as each, refl}
use Rattle.std.proofs.Common.{ap}
use Rattle.std.specs.List.{list_any}

pub any_named : {K X : Type 0} (test : K → Bool) (es : List (K × X)) → list_any (λ (e : K × X). test e.0) es ≡ list_any test (each (λ (e : K × X). e.0) es)
any_named test [] = refl
any_named test (e ∷ es) = ap (λ b. test e.0 || b) (any_named test es)
