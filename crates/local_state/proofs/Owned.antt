-- What a session's wants ask for, from the last to the first.
use Rattle.std.proofs.Common.{◌≡◌, ◌<◌, ◌≤◌, ◌+◌, ◌-◌, ◌||◌, ◌&&◌, ℕ, zero, suc, Bool, true, false, cond, T, List, [], ◌∷◌, length, drop, get_or, map as each, Option, Some, None, refl, sym}
use Rattle.std.proofs.Common.{ap, subst, ◌∙◌, arith}
use Rattle.std.specs.Prelude.{not}
use Rattle.std.specs.List.{list_any}
use Rattle.std.specs.Ordering.{eq_by_cmp, is_lt}
use Rattle.std.proofs.lemmas.List.{drop_more, length-drop, length-map}
use Rattle.std.specs.declared.cmp.Ordering.{Ordering}
use Rattle.std.specs.declared.cmp.Ordering.TheVariants.{Less, Equal, Greater}
use Rattle.std.specs.FinMap.Entries.{below_all, by_order, is_sorted, put}
use Rattle.rsvp_base.specs.Keys.{Keys}
use Rattle.rsvp_base.specs.Orders.{Names, units}
use Rattle.rsvp_base.specs.Table.{Table, changed, changed_rows, get, kept_row, put_in, both, first, second}
use Rattle.rsvp_base.specs.declared.part.Part.{Part}
use Rattle.rsvp_base.specs.declared.style.Unit.{Unit as UnitOf}
use Rattle.rsvp_base.proofs.Tables.{either, get-changed, get-put_in, same_table, then_do, tied_same}
use Rattle.router_rules.specs.Facts.{Want, WantKey, Wants, want_keys}
use Rattle.rsvp_base.specs.declared.style.StyleKind.{StyleKind}
use Rattle.router_rules.specs.Requests.{is_style}
use Rattle.local_state.specs.Wants.{asked_row, own_part, own_want, unmarked_at, want_of}
use Rattle.local_state.specs.declared.wants.LocalWant.{LocalWant}

pub any_asked : (st : StyleKind) (xs : List LocalWant) → list_any (λ r. not (is_style r.style st)) xs ≡ list_any (λ w. not (is_style w.style st)) (each (λ e. e.1) (each asked_row xs))
any_asked st [] = refl
any_asked st (x ∷ xs) = ap (λ b. not (is_style x.style st) || b) (any_asked st xs)

less : (r : Ordering) → T (is_lt r) → r ≡ Less
less Less h = refl
less Equal h = absurd h
less Greater h = absurd h

module _ {K X Y : Type 0} (o : Keys K) (f : K → X → Option Y) where
  -- a row below all goes first
  put_first : (k : K) (v : Y) (es : List (K × Y)) → T (below_all o.cmp k es) → put o.cmp k v es ≡ (k, v) ∷ es
  put_first k v [] h = refl
  put_first k v (e ∷ es) h = ap (λ r. by_order r ((k, v) ∷ e ∷ es) ((e.0, v) ∷ es) (e ∷ put o.cmp k v es)) (less _ (first _ _ h))

  below_kept : (x k : K) (w : Option Y) (es : List (K × Y)) → T (is_lt (o.cmp x k)) → T (below_all o.cmp x es) → T (below_all o.cmp x (kept_row k w es))
  below_kept x k None es p q = q
  below_kept x k (Some y) es p q = both _ _ p q

  below_changed : (x : K) (es : List (K × X)) → T (below_all o.cmp x es) → T (below_all o.cmp x (changed_rows f es))
  below_changed x [] h = tt
  below_changed x (e ∷ es) h = below_kept x e.0 (f e.0 e.1) (changed_rows f es) (first _ _ h) (below_changed x es (second _ _ h))

  -- one more in front
  pub changed_first : (k : K) (x : X) (es : List (K × X)) (v : Y) (b : Bool) → f k x ≡ cond b (Some v) None → T (is_sorted o.cmp ((k, x) ∷ es))
      → cond b (put o.cmp k v (changed_rows f es)) (changed_rows f es) ≡ changed_rows f ((k, x) ∷ es)
  changed_first k x es v true is up = put_first k v (changed_rows f es) (below_changed k es (first _ _ up)) ∙ ap (λ w. kept_row k w (changed_rows f es)) (sym is)
  changed_first k x es v false is up = ap (λ w. kept_row k w (changed_rows f es)) (sym is)

  pub fewer : (es : List (K × X)) → length (changed_rows f es) ≤ length es
  fewer [] = omega arith
  fewer (e ∷ es) = by (f e.0 e.1) (fewer es)
    where
      by : (w : Option Y) → length (changed_rows f es) ≤ length es → length (kept_row e.0 w (changed_rows f es)) ≤ suc (length es)
      by None rest = omega arith
      by (Some y) rest = omega arith

-- from a place on rows are still in order
pub sorted_drop : {K X : Type 0} (o : Keys K) (es : List (K × X)) (i : ℕ) → T (is_sorted o.cmp es) → T (is_sorted o.cmp (drop i es))
sorted_drop o es zero up = up
sorted_drop o [] (suc i) up = tt
sorted_drop o (e ∷ es) (suc i) up = sorted_drop o es i (second _ _ up)

pub each_drop : {A B : Type 0} (g : A → B) (xs : List A) (i : ℕ) → each g (drop i xs) ≡ drop i (each g xs)
each_drop g xs zero = refl
each_drop g [] (suc i) = refl
each_drop g (x ∷ xs) (suc i) = each_drop g xs i

pub past_all : {A : Type 0} (xs : List A) (i : ℕ) → length xs ≤ i → drop i xs ≡ []
past_all [] zero le = refl
past_all [] (suc i) le = refl
past_all (x ∷ xs) zero le = absurd (omega arith)
past_all (x ∷ xs) (suc i) le = past_all xs i (omega arith)

-- ---- the want at a place from the end
pub from_end : {A : Type 0} (xs : List A) (i : ℕ) (x : A) → i < length xs → x ≡ get_or xs (length xs - 1 - i) x → drop (length xs - (i + 1)) xs ≡ x ∷ drop (length xs - i) xs
from_end xs i x lt is =
    let before : length xs - (i + 1) ≡ length xs - 1 - i = omega arith in
    let behind : length xs - 1 - i + 1 ≡ length xs - i = omega arith in
    ap (λ k. drop k xs) before ∙ drop_more xs (length xs - 1 - i) x (omega arith) ∙ ap (λ y. y ∷ drop (length xs - 1 - i + 1) xs) (sym is) ∙ ap (λ k. x ∷ drop k xs) behind

module _ (st : StyleKind) (names : Names) (wants : List LocalWant) (us : Table units Want) (rows : each asked_row wants ≡ us.rows) where
  abbrev pub asked_from : ℕ → List (UnitOf × Part)
  asked_from k = changed_rows (own_want st names) (each asked_row (drop k wants))

  pub one_asked : (i : ℕ) (x : LocalWant) → i < length wants → x ≡ get_or wants (length wants - 1 - i) x
      → cond (is_style x.style st) (put units.cmp x.unit (own_part st names x.part) (asked_from (length wants - i))) (asked_from (length wants - i)) ≡ asked_from (length wants - (i + 1))
  one_asked i x lt is =
      let k = length wants - (i + 1) in
      let here = from_end wants i x lt is in
      let these : drop k us.rows ≡ each asked_row (x ∷ drop (length wants - i) wants) = ap (drop k) (sym rows) ∙ sym (each_drop asked_row wants k) ∙ ap (each asked_row) here in
      changed_first units (own_want st names) x.unit (want_of x) (each asked_row (drop (length wants - i) wants)) (own_part st names x.part) (is_style x.style st) refl
      (subst (λ es. T (is_sorted units.cmp es)) these (sorted_drop units us.rows k us.sorted))
      ∙ ap (λ ws. changed_rows (own_want st names) (each asked_row ws)) (sym here)

  pub few_asked : (i : ℕ) → i ≤ length wants → length (asked_from (length wants - i)) ≤ i
  few_asked i le =
      let few = fewer units (own_want st names) (each asked_row (drop (length wants - i) wants)) in
      omega (arith, few, length-map (drop (length wants - i) wants) asked_row, length-drop (length wants - i) wants)

  pub all_asked : (i : ℕ) → length wants ≤ i → asked_from (length wants - i) ≡ (changed (own_want st names) us).rows
  all_asked i le =
      let none : length wants - i ≡ 0 = omega arith in
      ap asked_from none ∙ ap (changed_rows (own_want st names)) rows

  pub none_asked : asked_from (length wants) ≡ []
  none_asked = ap (λ ws. changed_rows (own_want st names) (each asked_row ws)) (past_all wants (length wants) (omega arith))

-- ---- a mark that is used
and_true : (b : Bool) → (b && true) ≡ b
and_true true = refl
and_true false = refl

and_false : (b : Bool) → (b && false) ≡ false
and_false true = refl
and_false false = refl

module _ (m : Wants) (k : WantKey) where
  kept_apart : (q : WantKey) → eq_by_cmp want_keys.cmp q k ≡ false → (w : Option Want) → w ≡ then_do w (unmarked_at k q)
  kept_apart q f None = refl
  kept_apart q f (Some w) = ap (λ (b : Bool). Some (record w { confirm = b })) (sym (ap (λ c. w.confirm && not c) f ∙ and_true w.confirm))

  pub unmarked_is : (w : Want) → get m k ≡ Some w → put_in m k (record w { confirm = false }) ≡ changed (unmarked_at k) m
  unmarked_is w at =
      same_table want_keys _ _ (λ q. get-put_in want_keys m k (record w { confirm = false }) q ∙ either (eq_by_cmp want_keys.cmp q k)
      (λ t.
      ap (λ b. cond b (Some (record w { confirm = false })) (get m q)) t ∙ ap (λ (b : Bool). Some (record w { confirm = b })) (sym (ap (λ c. w.confirm && not c) t ∙ and_false w.confirm))
      ∙ ap (λ z. then_do z (unmarked_at k q)) (sym (ap (get m) (tied_same want_keys q k t) ∙ at)) ∙ sym (get-changed want_keys (unmarked_at k) m q))
      (λ f.
      ap (λ b. cond b (Some (record w { confirm = false })) (get m q)) f ∙ kept_apart q f (get m q) ∙ sym (get-changed want_keys (unmarked_at k) m q)))

  pub unmarked_none : get m k ≡ None → m ≡ changed (unmarked_at k) m
  unmarked_none at =
      same_table want_keys _ _ (λ q. either (eq_by_cmp want_keys.cmp q k)
      (λ t. let none = ap (get m) (tied_same want_keys q k t) ∙ at in none ∙ ap (λ z. then_do z (unmarked_at k q)) (sym none) ∙ sym (get-changed want_keys (unmarked_at k) m q))
      (λ f. kept_apart q f (get m q) ∙ sym (get-changed want_keys (unmarked_at k) m q)))
