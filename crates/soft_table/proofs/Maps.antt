-- The facts of a table, as a finite map by their keys.
use Rattle.std.proofs.Common.{◌≡◌, ◌-◌, ℕ, Bool, true, false, cond, List, [], ◌∷◌, map as each, Some, None, refl, ap}
use Rattle.std.specs.Prelude.{nat_le}
use Rattle.std.specs.List.{filter_map, cons_option}
use Rattle.rsvp_base.specs.Table.{changed_rows, kept_row}
use Rattle.rsvp_base.specs.declared.session.Session.{Session}
use Rattle.soft_table.specs.Facts.{facts_by, dead_by, lives_on, dies}

pub nil_of : {A B : Type 0} (f : A → B) (xs : List A) → each f xs ≡ [] → xs ≡ []
nil_of f [] e = refl
nil_of f (x ∷ xs) e = cc

module _ {F R : Type 0} (key : F → Session × R) where
  -- ---- time
  pub rows_later : (ms : ℕ) (fs : List (F × ℕ)) → facts_by key (filter_map (lives_on ms) fs) ≡ changed_rows (λ k e. lives_on ms e) (facts_by key fs)
  rows_later ms [] = refl
  rows_later ms (e ∷ fs) = by (nat_le e.1 ms) (rows_later ms fs)
    where
      by : (b : Bool) → facts_by key (filter_map (lives_on ms) fs) ≡ changed_rows (λ k e. lives_on ms e) (facts_by key fs)
          → facts_by key (cons_option (cond b None (Some (e.0, e.1 - ms))) (filter_map (lives_on ms) fs))
          ≡ kept_row (key e.0) (cond b None (Some (e.0, e.1 - ms))) (changed_rows (λ k e. lives_on ms e) (facts_by key fs))
      by true rest = rest
      by false rest = ap (λ rs. (key e.0, (e.0, e.1 - ms)) ∷ rs) rest

  pub rows_dead : (ms : ℕ) (fs : List (F × ℕ)) → dead_by key (filter_map (dies ms) fs) ≡ changed_rows (λ k e. dies ms e) (facts_by key fs)
  rows_dead ms [] = refl
  rows_dead ms (e ∷ fs) = by (nat_le e.1 ms) (rows_dead ms fs)
    where
      by : (b : Bool) → dead_by key (filter_map (dies ms) fs) ≡ changed_rows (λ k e. dies ms e) (facts_by key fs)
          → dead_by key (cons_option (cond b (Some e.0) None) (filter_map (dies ms) fs)) ≡ kept_row (key e.0) (cond b (Some e.0) None) (changed_rows (λ k e. dies ms e) (facts_by key fs))
      by true rest = ap (λ rs. (key e.0, e.0) ∷ rs) rest
      by false rest = rest
