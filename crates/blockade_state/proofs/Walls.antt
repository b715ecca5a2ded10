-- The map of blockades: what it answers, and how many there are.
use Rattle.std.proofs.Common.{◌≡◌, ◌<◌, ◌≤◌, ◌+◌, ℕ, Bool, true, false, cond, List, [], ◌∷◌, length, map as each, is_some, Option, Some, None, refl, sym, ap, ◌∙◌, arith}
use Rattle.std.specs.Prelude.{not, ◌↔◌, Result, Ok, Err, IsErr, OnOk, OnErr, IfSome}
use Rattle.std.specs.List.{filter_map, cons_option}
use Rattle.std.specs.Ordering.{eq_by_cmp}
use Rattle.std.specs.FinMap.Entries.{find, where_key}
use Rattle.std.proofs.lemmas.List.{length-map}
use Rattle.rsvp_base.specs.Rows.{AreRows, table_of}
use Rattle.rsvp_base.specs.Table.{Table, get, size, put_in, changed}
use Rattle.rsvp_base.proofs.Tables.{either, size-put_in}
use Rattle.style_rules.specs.Targets.{WallKey, wall_keys}
use Rattle.style_rules.specs.declared.wall.Wall.{Wall}
use Rattle.soft_table.specs.Facts.{dead_by}
use Rattle.soft_table.proofs.Keyed.{where_no_more}
use Rattle.soft_table.proofs.Valued.{size-valued, valued-put_in}
use Rattle.blockade_state.specs.declared.fact.Kept.{Kept}
use Rattle.blockade_state.specs.Blockades.{wall_key, fact_row, wall_of}

abbrev pub said : Kept × ℕ → Wall × ℕ
said e = (e.0.wall, e.1)

none_if : {A : Type 0} (w : Option A) → is_some w ≡ false → w ≡ None
none_if None e = refl
none_if (Some x) e = cc

-- ---- one dead fact fewer
fewer : {X : Type 0} (k : WallKey) (v : X) (es : List (WallKey × X)) → find wall_keys.cmp k es ≡ Some v → length (where_key wall_keys.cmp (λ x. not (eq_by_cmp wall_keys.cmp k x)) es) < length es
fewer k v [] e = cc
fewer {X} k v (e ∷ es) found = by (λ h. fewer k v es h) (eq_by_cmp wall_keys.cmp k e.0) found
  where
    by : (find wall_keys.cmp k es ≡ Some v → length (where_key wall_keys.cmp (λ x. not (eq_by_cmp wall_keys.cmp k x)) es) < length es) → (b : Bool)
        → cond b (Some e.1) (find wall_keys.cmp k es) ≡ Some v → length {A = WallKey × X}
        (cond (not b) (e ∷ where_key wall_keys.cmp (λ x. not (eq_by_cmp wall_keys.cmp k x)) es) (where_key wall_keys.cmp (λ x. not (eq_by_cmp wall_keys.cmp k x)) es)) < length (e ∷ es)
    by ih true h = let rest = where_no_more wall_keys (λ x. not (eq_by_cmp wall_keys.cmp k x)) es in omega arith
    by ih false h = let rest = ih h in omega arith

pub pulled_one : (r : Option Kept) (old new : List Kept) → is_some r ≡ true → IfSome r (λ f. find wall_keys.cmp (wall_key f) (dead_by wall_key old) ≡ Some f)
    → IfSome r (λ f. dead_by wall_key new ≡ where_key wall_keys.cmp (λ k. not (eq_by_cmp wall_keys.cmp (wall_key f) k)) (dead_by wall_key old)) → length new < length old
pulled_one None old new some dead pulled = cc
pulled_one (Some f) old new some dead pulled =
    let less = fewer (wall_key f) f (dead_by wall_key old) dead in
    let row : Kept → WallKey × Kept = λ f. (wall_key f, f) in
    omega (arith, less, ap length pulled, length-map new row, length-map old row)

-- ---- answers
pub on_ok : {A E P Q : Type 0} (r : Result A E) → (P → Q) → OnOk r P → OnOk r Q
on_ok (Ok x) f p = f p
on_ok (Err e) f p = p

pub on_err : {A E P Q : Type 0} (r : Result A E) → (P → Q) → OnErr r P → OnErr r Q
on_err (Ok x) f p = p
on_err (Err e) f p = f p

pub shorter : {A B : Type 0} (f : A → Option B) (xs : List A) → length (filter_map f xs) ≤ length xs
shorter f [] = omega arith
shorter {A} {B} f (x ∷ xs) = by (f x) (shorter f xs)
  where
    by : (w : Option B) → length (filter_map f xs) ≤ length xs → length (cons_option w (filter_map f xs)) ≤ length (x ∷ xs)
    by None rest = omega arith
    by (Some y) rest = omega arith

module _ (fs : List (Kept × ℕ)) (up : AreRows wall_keys fact_row fs) where
  abbrev pub facts : Table wall_keys (Kept × ℕ)
  facts = table_of wall_keys fact_row fs up

  pub many : size (changed wall_of facts) ≡ length fs
  many = size-valued wall_keys said facts ∙ length-map fs fact_row

  sized : (k : WallKey) (e : Kept × ℕ) → size (put_in facts k e) ≡ cond (is_some (get facts k)) (length fs) (length fs + 1)
  sized k e = size-put_in wall_keys facts k e ∙ ap (λ n. cond (is_some (get facts k)) n (n + 1)) (length-map fs fact_row)

  -- the map with one more
  pub more : (k : WallKey) (e : Kept × ℕ) → changed wall_of (put_in facts k e) ≡ put_in (changed wall_of facts) k (said e)
  more k e = valued-put_in wall_keys said facts k e

  -- a 513th is refused, and no other
  pub refused : {A E : Type 0} (r : Result A E) (k : WallKey) (e : Kept × ℕ) (room : ℕ) → room ≡ 512 → length fs ≤ 512 → (IsErr r ↔ ((get facts k ≡ None) × (length fs ≡ room))) → IsErr r
      ↔ (512 < size (put_in (changed wall_of facts) k (said e)))
  refused r k e room is few full =
      let count : size (put_in (changed wall_of facts) k (said e)) ≡ cond (is_some (get facts k)) (length fs) (length fs + 1) = ap size (sym (more k e))
      ∙ size-valued wall_keys said (put_in facts k e) ∙ sized k e in (
        λ err. let why = full.0 err in let n = count ∙ ap (λ w. cond (is_some w) (length fs) (length fs + 1)) why.0 in omega (arith, n, why.1, is),
        λ lt. either (is_some (get facts k))
            (λ t. let n = count ∙ ap (λ b. cond b (length fs) (length fs + 1)) t in absurd (omega (arith, n, lt, few)))
            (λ t. let n = count ∙ ap (λ b. cond b (length fs) (length fs + 1)) t in full.1 (none_if (get facts k) t, omega (arith, n, lt, few, is))),
      )

  -- and so there are at most 512
  pub still_few : {A E : Type 0} (r : Result A E) (k : WallKey) (e : Kept × ℕ) (room : ℕ) (new : List (Kept × ℕ)) → room ≡ 512 → length fs ≤ 512
      → (IsErr r ↔ ((get facts k ≡ None) × (length fs ≡ room)))
      → OnOk r (each fact_row new ≡ (put_in facts k e).rows) → OnErr r (new ≡ fs) → length new ≤ 512
  still_few (Err x) k e room new is few full ok err = omega (arith, ap length err, few)
  still_few (Ok x) k e room new is few full ok err =
      let n = sym (length-map new fact_row) ∙ ap length ok ∙ sized k e in
      either (is_some (get facts k))
      (λ t. let m = n ∙ ap (λ b. cond b (length fs) (length fs + 1)) t in omega (arith, m, few))
      (λ t.
      let m = n ∙ ap (λ b. cond b (length fs) (length fs + 1)) t in
      let never : length fs ≡ 512 → ⊥ = λ q. let err : false ≡ true = full.1 (none_if (get facts k) t, q ∙ sym is) in absurd (cc) in
      omega (arith, m, few, never))
