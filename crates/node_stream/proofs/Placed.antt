-- The routes of a frame, by group and source, and as a router has them.
use Rattle.std.specs.Prelude.{◌≡◌, ◌≢◌, ◌⊎◌, ℕ, suc, zero, ◌+◌, ◌<◌, ◌≤◌, Bool, true, false, cond, List, [], ◌∷◌, map as each, Option, None, Some, is_some, IsTrue, refl}
use Rattle.std.proofs.Common.{sym, ap, subst, ◌∙◌, T, arith, inl, inr, ⊎_elim}
use Rattle.std.specs.Ordering.{eq_by_cmp}
use Rattle.std.specs.FinMap.Entries.{by_order, find, is_sorted, put}
use Rattle.std.proofs.lemmas.Bool.{cases_lt}
use Rattle.std.specs.declared.cmp.Ordering.{Ordering}
use Rattle.std.specs.declared.cmp.Ordering.TheVariants.{Less, Equal, Greater}
use Rattle.std.specs.List.{insert}
use Rattle.rsvp_base.specs.Rows.{AreRows, HasRowAt, LacksRowAt}
use Rattle.rsvp_base.specs.Table.{get, put_in, values}
use Rattle.rsvp_base.specs.declared.addr.Addr.{Addr}
use Rattle.rsvp_base.proofs.Rows.{each_itself}
use Rattle.rsvp_base.proofs.Tables.{either, get-put_in, get-put_in_same, holds, tied_same}
use Rattle.router_rules.specs.declared.route.Route.{Route}
use Rattle.node_stream.specs.Layout.{route_at}
use Rattle.node_stream.specs.Blames.{IsSame}
use Rattle.node_stream.specs.Placing.{RouteTable, tree_row}
use Rattle.node_stream.specs.Rules.{routes_to, tree_at, tree_keys, tree_of}

-- ---- each of the first routes has its tree among theirs
put_stays : (t : RouteTable) (k : Addr × Addr) (r : Route) (q : Addr × Addr) → is_some (get t q) ≡ true → is_some (get (put_in t k r) q) ≡ true
put_stays t k r q there = ap is_some (get-put_in tree_keys t k r q) ∙ by (eq_by_cmp tree_keys.cmp q k)
  where
    by : (b : Bool) → is_some (cond b (Some r) (get t q)) ≡ true
    by true = refl
    by false = there

pub is_among : (contents : List ℕ) (n j : ℕ) → j < n → is_some (get (routes_to contents n) (tree_at contents j)) ≡ true
is_among contents zero j lt = absurd (omega (arith, lt))
is_among contents (suc n) j lt =
    ⊎_elim (λ (a : j < n). put_stays (routes_to contents n) (tree_at contents n) (route_at contents n) (tree_at contents j) (is_among contents n j a))
    (λ (b : n ≤ j). let e : j ≡ n = omega (arith, lt, b) in
    subst (λ (k : ℕ). is_some (get (routes_to contents (suc n)) (tree_at contents k)) ≡ true)
    (sym e) (ap is_some (get-put_in_same tree_keys (routes_to contents n) (tree_at contents n) (route_at contents n))))
    (cases_lt j n)

-- ---- and theirs alone
from_put : (t : RouteTable) (k : Addr × Addr) (r : Route) (q : Addr × Addr) → is_some (get (put_in t k r) q) ≡ true → (q ≡ k) ⊎ (is_some (get t q) ≡ true)
from_put t k r q there =
    either (eq_by_cmp tree_keys.cmp q k) (λ e. inl (tied_same tree_keys q k e))
    (λ e. inr (sym (ap is_some (get-put_in tree_keys t k r q ∙ ap (λ b. cond b (Some r) (get t q)) e)) ∙ there))

pub is_of_one : (contents : List ℕ) (n : ℕ) (q : Addr × Addr) → is_some (get (routes_to contents n) q) ≡ true → (j : ℕ) × (j < n) × (tree_at contents j ≡ q)
is_of_one contents zero q there = let z : false ≡ true = there in absurd (cc)
is_of_one contents (suc n) q there =
    ⊎_elim (λ (e : q ≡ tree_at contents n). (n, omega arith, sym e))
    (λ (e : is_some (get (routes_to contents n) q) ≡ true). let x = is_of_one contents n q e in (x.0, omega (arith, x.1), x.2))
    (from_put (routes_to contents n) (tree_at contents n) (route_at contents n) q there)

-- a route with a tree that is there already is the same as one before it; one with another is not
pub is_same_tree : (contents : List ℕ) (n : ℕ) → is_some (get (routes_to contents n) (tree_at contents n)) ≡ true → IsSame (tree_at contents) n
is_same_tree contents n there = let x = is_of_one contents n (tree_at contents n) there in record { first = x.0; before = x.1; same = x.2 }

pub is_other_tree : (contents : List ℕ) (n j : ℕ) → j < n → get (routes_to contents n) (tree_at contents n) ≡ None → tree_at contents j ≢ tree_at contents n
is_other_tree contents n j lt none e =
    let there = is_among contents n j lt in
    let z : false ≡ true = sym (ap is_some none) ∙ ap (λ (q : Addr × Addr). is_some (get (routes_to contents n) q)) (sym e) ∙ there in
    absurd (cc)

-- ---- one route more
pub one_more_once : (contents : List ℕ) (k : ℕ) → ((i j : ℕ) → i < j → j < k → tree_at contents i ≢ tree_at contents j) → get (routes_to contents k) (tree_at contents k) ≡ None
    → (i j : ℕ) → i < j → j < k + 1
    → tree_at contents i ≢ tree_at contents j
one_more_once contents k once none i j lt under =
    ⊎_elim (λ (a : j < k). once i j lt a)
    (λ (b : k ≤ j). let s : j ≡ k = omega (arith, under, b) in
    subst (λ (m : ℕ). tree_at contents i ≢ tree_at contents m) (sym s) (is_other_tree contents k i (omega (arith, lt, s)) none)) (cases_lt j k)

pub one_more_row : (contents : List ℕ) (k : ℕ) (r : Route) (xs : List ((Addr × Addr) × Route)) → r ≡ route_at contents k → xs ≡ (put_in (routes_to contents k) (tree_of r) r).rows
    → xs ≡ (routes_to contents (k + 1)).rows
one_more_row contents k r xs is rows =
    let more : k + 1 ≡ suc k = omega arith in
    rows ∙ ap (λ (x : Route). (put_in (routes_to contents k) (tree_of x) x).rows) is ∙ ap (λ (n : ℕ). (routes_to contents n).rows) (sym more)

-- ---- the place of a tree among the rows
a_row : (Addr × Addr) × Route
a_row = ((record { 0 = 0 }, record { 0 = 0 }), record { group = record { 0 = 0 }; source = record { 0 = 0 }; inward = None; outward = 0 })

found_as : (t : RouteTable) (xs : List ((Addr × Addr) × Route)) (k : Addr × Addr) → t.rows ≡ xs → find tree_keys.cmp k (each (λ e. e) xs) ≡ get t k
found_as t xs k e = ap (find tree_keys.cmp k) (each_itself xs ∙ sym e)

pub row_there : (t : RouteTable) (xs : List ((Addr × Addr) × Route)) (k : Addr × Addr) (i : ℕ) → t.rows ≡ xs → HasRowAt tree_keys (λ e. e) xs k i → is_some (get t k) ≡ true
row_there t xs k i e h = ap is_some (sym (found_as t xs k e) ∙ h.found a_row)

pub row_absent : (t : RouteTable) (xs : List ((Addr × Addr) × Route)) (k : Addr × Addr) (i : ℕ) → t.rows ≡ xs → LacksRowAt tree_keys (λ e. e) xs k i → get t k ≡ None
row_absent t xs k i e h = sym (found_as t xs k e) ∙ h.absent

pub row_put : (t : RouteTable) (xs : List ((Addr × Addr) × Route)) (k : Addr × Addr) (i : ℕ) (v : Route) → t.rows ≡ xs → LacksRowAt tree_keys (λ e. e) xs k i → insert xs i (k, v) ≡ (put_in t k v).rows
row_put t xs k i v e h =
    sym (each_itself (insert xs i (k, v))) ∙ sym (h.inserted (k, v) v refl) ∙ ap (put tree_keys.cmp k v) (each_itself xs ∙ sym e)

-- the rows of a table are in order
pub rows_are : (t : RouteTable) (xs : List ((Addr × Addr) × Route)) → xs ≡ t.rows → AreRows tree_keys (λ e. e) xs
rows_are t xs e = holds (is_sorted tree_keys.cmp (each (λ x. x) xs)) (subst (λ (ys : List ((Addr × Addr) × Route)). T (is_sorted tree_keys.cmp ys)) (sym (each_itself xs ∙ e)) t.sorted)

-- ---- rows of routes by their trees
AreKeyed : List ((Addr × Addr) × Route) → Type 0
AreKeyed [] = Unit {0}
AreKeyed (e ∷ es) = (e.0 ≡ tree_of e.1) × AreKeyed es

put_keyed : (r : Route) (es : List ((Addr × Addr) × Route)) → AreKeyed es → AreKeyed (put tree_keys.cmp (tree_of r) r es)
unfolding AreKeyed
put_keyed r [] keyed = (refl, tt)
put_keyed r (e ∷ es) keyed = by (tree_keys.cmp (tree_of r) e.0) refl (put_keyed r es keyed.1)
  where
    by : (o : Ordering) → tree_keys.cmp (tree_of r) e.0 ≡ o → AreKeyed (put tree_keys.cmp (tree_of r) r es)
        → AreKeyed (by_order o ((tree_of r, r) ∷ e ∷ es) ((e.0, r) ∷ es) (e ∷ put tree_keys.cmp (tree_of r) r es))
    by Less is rest = (refl, keyed)
    by Equal is rest = (sym (tree_keys.same (tree_of r) e.0 is), keyed.1)
    by Greater is rest = (keyed.0, rest)

all_keyed : (contents : List ℕ) (n : ℕ) → AreKeyed (routes_to contents n).rows
unfolding AreKeyed
all_keyed contents zero = tt
all_keyed contents (suc n) = put_keyed (route_at contents n) (routes_to contents n).rows (all_keyed contents n)

again : (es : List ((Addr × Addr) × Route)) → AreKeyed es → each tree_row (each (λ e. e.1) es) ≡ es
unfolding AreKeyed
again [] keyed = refl
again (e ∷ es) keyed =
    let first : ◌≡◌ {A = (Addr × Addr) × Route} (tree_row e.1) e = λ i. (sym keyed.0 i, e.1) in
    ap (λ (x : (Addr × Addr) × Route). x ∷ each tree_row (each (λ e. e.1) es)) first ∙ ap (λ (xs : List ((Addr × Addr) × Route)). e ∷ xs) (again es keyed.1)

-- the routes are in the order of their trees
pub are_in_order : (contents : List ℕ) (n : ℕ) (rs : List Route) → rs ≡ values (routes_to contents n) → AreRows tree_keys tree_row rs
are_in_order contents n rs e =
    let t = routes_to contents n in
    let rows : each tree_row rs ≡ t.rows = ap (each tree_row) e ∙ again t.rows (all_keyed contents n) in
    rows_sorted t.rows t.sorted (each tree_row rs) rows
  where
    rows_sorted : (es : List ((Addr × Addr) × Route)) → T (is_sorted tree_keys.cmp es) → (fs : List ((Addr × Addr) × Route)) → fs ≡ es → IsTrue (is_sorted tree_keys.cmp fs)
    rows_sorted es up fs e = holds (is_sorted tree_keys.cmp fs) (subst (λ (xs : List ((Addr × Addr) × Route)). T (is_sorted tree_keys.cmp xs)) (sym e) up)
