-- Sets by their keys, and tables that lost rows.
use Rattle.std.specs.Prelude.{◌≡◌, ℕ, ◌≤◌, Bool, true, false, cond, nat_le, List, [], ◌∷◌, map as each, length, is_some, Option, Some, None, refl}
use Rattle.std.proofs.Common.{sym, ap, ◌∙◌, arith}
use Rattle.rsvp_base.specs.Keys.{Keys}
use Rattle.rsvp_base.specs.Sets.{Set, listed}
use Rattle.rsvp_base.specs.Table.{Table, changed, changed_rows, get, has, kept_row, keys, same_rows}
use Rattle.rsvp_base.proofs.Lists.{listed-keys}
use Rattle.rsvp_base.proofs.SetLaws.{same_set}
use Rattle.rsvp_base.proofs.Tables.{get-changed, then_do}
use Rattle.path_state.specs.Paths.{dead_after, path_keys}
use Rattle.path_state.specs.declared.fact.PathFact.{PathFact}
use Rattle.router_aging.specs.Passing.{dies_in, dying_paths}

module _ {K X : Type 0} (o : Keys K) where
  abbrev there : K → X → Option (Unit {0})
  there k x = Some tt

  abbrev as_set : Table o X → Set o
  as_set m = changed there m

  keys_set : (es : List (K × X)) → each (λ e. e.0) (changed_rows there es) ≡ each (λ e. e.0) es
  keys_set [] = refl
  keys_set (e ∷ es) = ap (λ ks. e.0 ∷ ks) (keys_set es)

  has_set : (m : Table o X) (k : K) → has (as_set m) k ≡ has m k
  has_set m k = ap is_some (get-changed o there m k) ∙ by (get m k)
    where
      by : (w : Option X) → is_some (then_do w (there k)) ≡ is_some w
      by None = refl
      by (Some x) = refl

  -- a set that has a table's keys has them in the same order
  pub same_keys : (s : Set o) (m : Table o X) → ((q : K) → has s q ≡ has m q) → keys s ≡ keys m
  same_keys s m same = ap (λ (t : Set o). keys t) (same_set o s (as_set m) (λ q. same q ∙ sym (has_set m q))) ∙ keys_set m.rows

pub set_by_keys : {K : Type 0} (o : Keys K) (s t : Set o) → keys s ≡ keys t → s ≡ t
set_by_keys o s t e = same_rows s t (sym (listed-keys s.rows) ∙ ap listed e ∙ listed-keys t.rows)

pub fewer_rows : {K X Y : Type 0} (f : K → X → Option Y) (es : List (K × X)) → length (changed_rows f es) ≤ length es
fewer_rows f [] = omega arith
fewer_rows {K} {X} {Y} f (e ∷ es) = by (f e.0 e.1) (fewer_rows f es)
  where
    by : (w : Option Y) → length (changed_rows f es) ≤ length es → length (kept_row e.0 w (changed_rows f es)) ≤ length (e ∷ es)
    by None rest = omega arith
    by (Some y) rest = omega arith

-- ---- the keys of paths that die
pub dying_keys : (ms : ℕ) (m : Table path_keys (PathFact × ℕ)) → keys (changed (dead_after ms) m) ≡ keys (dying_paths ms m)
dying_keys ms m = rows m.rows
  where
    rows : (es : List (_ × (PathFact × ℕ))) → each (λ e. e.0) (changed_rows (dead_after ms) es) ≡ each (λ e. e.0) (changed_rows (dies_in ms) es)
    rows [] = refl
    rows (e ∷ es) = by (nat_le e.1.1 ms) (rows es)
      where
        by : (b : Bool) → each (λ e. e.0) (changed_rows (dead_after ms) es) ≡ each (λ e. e.0) (changed_rows (dies_in ms) es)
            → each (λ e. e.0) (kept_row e.0 (cond b (Some e.1.0) None) (changed_rows (dead_after ms) es)) ≡ each (λ e. e.0) (kept_row e.0 (cond b (Some tt) None) (changed_rows (dies_in ms) es))
        by true rest = ap (λ ks. e.0 ∷ ks) rest
        by false rest = rest
