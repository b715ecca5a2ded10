-- Countdowns after some time, one at a time.
use Rattle.std.proofs.Common.{◌≡◌, ◌<◌, ◌≤◌, ◌+◌, ℕ, zero, suc, Bool, true, false, cond, List, [], ◌∷◌, ◌++◌, length, take, drop, get_or, set, map as each, Some, None, refl, ap, ◌∙◌, arith}
use Rattle.std.specs.Prelude.{nat_le}
use Rattle.std.specs.List.{filter_map, cons_option}
use Rattle.std.proofs.lemmas.List.{take_more}
use Rattle.std.proofs.lemmas.List.Elements.{filter_map-append}
use Rattle.rsvp_base.specs.Table.{changed_rows, kept_row}
use Rattle.local_state.specs.Counting.{fired_row, is_fired, later_due, ticked_row}
use Rattle.local_state.specs.Rows.{count_row}
use Rattle.local_state.specs.declared.countdowns.Countdown.{Countdown}

-- ---- a list of which the front was changed
module _ {A : Type 0} (f : A → A) where
  abbrev pub front_done : ℕ → List A → List A
  front_done i xs = each f (take i xs) ++ drop i xs

  pub next_read : (xs : List A) (i : ℕ) (d : A) → i < length xs → get_or (front_done i xs) i d ≡ get_or xs i d
  next_read [] i d lt = absurd (omega arith)
  next_read (x ∷ xs) zero d lt = refl
  next_read (x ∷ xs) (suc i) d lt = next_read xs i d (omega arith)

  pub next_done : (xs : List A) (i : ℕ) (d : A) → i < length xs → set (front_done i xs) i (f (get_or xs i d)) ≡ front_done (i + 1) xs
  next_done xs i d lt = by xs i lt ∙ ap (λ n. front_done n xs) one_more
    where
      one_more : suc i ≡ i + 1
      one_more = omega arith

      by : (ys : List A) (j : ℕ) → j < length ys → set (front_done j ys) j (f (get_or ys j d)) ≡ front_done (suc j) ys
      by [] j lt = absurd (omega arith)
      by (y ∷ ys) zero lt = refl
      by (y ∷ ys) (suc j) lt = ap (λ zs. f y ∷ zs) (by ys j (omega arith))

  pub front_size : (i : ℕ) (xs : List A) → length (front_done i xs) ≡ length xs
  front_size zero xs = refl
  front_size (suc i) [] = refl
  front_size (suc i) (x ∷ xs) = ap suc (front_size i xs)

  pub all_done : (i : ℕ) (xs : List A) → length xs ≤ i → front_done i xs ≡ each f xs
  all_done zero [] le = refl
  all_done zero (x ∷ xs) le = absurd (omega arith)
  all_done (suc i) [] le = refl
  all_done (suc i) (x ∷ xs) le = ap (λ ys. f x ∷ ys) (all_done i xs (omega arith))

-- ---- as the map says
pub rows_ticked : (quarter ms word : ℕ) (xs : List Countdown) → each count_row (each (ticked_row quarter ms word) xs) ≡ changed_rows (later_due quarter ms word) (each count_row xs)
rows_ticked quarter ms word [] = refl
rows_ticked quarter ms word (x ∷ xs) = ap (λ es. count_row (ticked_row quarter ms word x) ∷ es) (rows_ticked quarter ms word xs)

pub rows_fired : (ms : ℕ) (xs : List Countdown) → filter_map (fired_row ms) xs ≡ changed_rows (is_fired ms) (each count_row xs)
rows_fired ms [] = refl
rows_fired ms (x ∷ xs) = by (nat_le x.left ms) (rows_fired ms xs)
  where
    by : (b : Bool) → filter_map (fired_row ms) xs ≡ changed_rows (is_fired ms) (each count_row xs)
        → cons_option (cond b (Some (x.session, tt)) None) (filter_map (fired_row ms) xs) ≡ kept_row x.session (cond b (Some tt) None) (changed_rows (is_fired ms) (each count_row xs))
    by true rest = ap (λ es. (x.session, tt) ∷ es) rest
    by false rest = rest

-- one row more
pub fired_more : (ms : ℕ) (xs : List Countdown) (i : ℕ) (d : Countdown) → i < length xs → filter_map (fired_row ms) (take (i + 1) xs)
    ≡ filter_map (fired_row ms) (take i xs) ++ cons_option (fired_row ms (get_or xs i d)) []
fired_more ms xs i d lt = ap (filter_map (fired_row ms)) (take_more xs i d lt) ∙ filter_map-append (fired_row ms) (take i xs) (get_or xs i d ∷ [])

pub fired_few : (ms : ℕ) (xs : List Countdown) → length (filter_map (fired_row ms) xs) ≤ length xs
fired_few ms [] = omega arith
fired_few ms (x ∷ xs) = by (nat_le x.left ms) (fired_few ms xs)
  where
    by : (b : Bool) → length (filter_map (fired_row ms) xs) ≤ length xs → length (cons_option (cond b (Some (x.session, tt {0})) None) (filter_map (fired_row ms) xs)) ≤ length (x ∷ xs)
    by true rest = omega arith
    by false rest = omega arith
