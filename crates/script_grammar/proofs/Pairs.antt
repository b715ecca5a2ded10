-- A word alone is no pair.
use Rattle.std.proofs.Common.{◌≡◌, ℕ, ◌<◌, ◌≤◌, List, [], ◌∷◌, None, length, map, refl, arith}
use Rattle.script_grammar.specs.LineKinds.{pairs_of}

pub pairs_alone : {A : Type 0} (f : A → List ℕ) (ws : List A) → 1 ≤ length ws → length ws < 2 → pairs_of (map f ws) ≡ None
pairs_alone f [] some few = absurd (omega arith)
pairs_alone f (w ∷ []) some few = refl
pairs_alone f (w ∷ x ∷ ws) some few = absurd (omega arith)
