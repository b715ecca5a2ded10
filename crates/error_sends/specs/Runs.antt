-- Rows whose keys do not fall, and what is said of them one after another: of rows of one key the last.
use Rattle.std.specs.Prelude.{cond, List, [], ◌∷◌, Option, Some, None}
use Rattle.std.specs.Ordering.{eq_by_cmp}
use Rattle.rsvp_base.specs.Keys.{Keys}

module _ {K X : Type 0} (o : Keys K) where
  -- with the last row so far, which one of the same key may still replace
  abbrev pub said_behind : K × X → List (K × X) → List X
  said_behind l [] = l.1 ∷ []
  said_behind l (e ∷ es) = cond (eq_by_cmp o.cmp l.0 e.0) (said_behind e es) (l.1 ∷ said_behind e es)

  abbrev pub said_from : Option (K × X) → List (K × X) → List X
  said_from None [] = []
  said_from None (e ∷ es) = said_behind e es
  said_from (Some l) es = said_behind l es

  -- what is said once a row of this key is there
  abbrev pub said_before : Option (K × X) → K → List X
  said_before None k = []
  said_before (Some l) k = cond (eq_by_cmp o.cmp l.0 k) [] (l.1 ∷ [])

  -- what is said at the end
  abbrev pub said_last : Option (K × X) → List X
  said_last None = []
  said_last (Some l) = l.1 ∷ []
