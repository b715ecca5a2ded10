-- What the answers of the table below say of the map of paths.
use Rattle.std.proofs.Common.{◌≡◌, ◌+◌, ℕ, zero, suc, Bool, true, false, ltb, not, cond, ◌-◌, is_some, List, [], ◌∷◌, length, map as each, Option, Some, None, refl, sym, ap, subst, ◌∙◌, arith}
use Rattle.std.specs.Prelude.{nat_le, slice_get}
use Rattle.std.specs.List.{filter_map, cons_option}
use Rattle.std.specs.Ordering.{eq_by_cmp}
use Rattle.std.proofs.lemmas.Bool.{both_ways}
use Rattle.rsvp_base.specs.declared.session.Session.{Session}
use Rattle.rsvp_base.specs.declared.session.Sender.{Sender}
use Rattle.rsvp_base.proofs.Tables.{then_do, get-changed, get-without, size-put_in}
use Rattle.std.proofs.lemmas.Bool.Decides.{nat_tests}
use Rattle.rsvp_base.specs.Orders.{sessions, senders}
use Rattle.rsvp_base.specs.Rows.{AreRows, table_of}
use Rattle.rsvp_base.specs.Sets.{set_of}
use Rattle.rsvp_base.specs.SessionLimits.{sessions_in, has_room_at, IsWithinSessionLimits}
use Rattle.rsvp_base.specs.Table.{Table, empty, get, size, put_in, without, changed, changed_rows, kept_row, same_rows}
use Rattle.path_state.specs.declared.fact.PathFact.{PathFact}
use Rattle.path_state.specs.Paths.{PathMap, path_keys, path_key, fact_row, dead_row, later, dead_after}
use Rattle.rsvp_base.proofs.SessionCounts.{is_full, within_put, within_fewer, within_none, all_at_most}
use Rattle.soft_table.specs.Facts as soft

pub first_there : {A : Type 0} (es : List A) → is_some (slice_get es 0) ≡ is_full es
first_there [] = refl
first_there (e ∷ es) = refl

there_below : {A : Type 0} (es : List A) (k : ℕ) → is_some (slice_get es k) ≡ ltb k (length es)
there_below [] k = none_below k
  where
    none_below : (a : ℕ) → false ≡ ltb a 0
    none_below a = grind (arith, nat_tests)
there_below (e ∷ es) zero = some_above (length es)
  where
    some_above : (a : ℕ) → true ≡ ltb 0 (suc a)
    some_above a = grind (arith, nat_tests)
there_below (e ∷ es) (suc k) = there_below es k ∙ further k (length es)
  where
    further : (a b : ℕ) → ltb a b ≡ ltb (suc a) (suc b)
    further a b = grind (arith, nat_tests)

pub room_for_one : {A : Type 0} (es : List A) → not (is_some (slice_get es 15)) ≡ nat_le (length es + 1) 16
room_for_one es = ap not (there_below es 15) ∙ tests (length es)
  where
    tests : (n : ℕ) → not (ltb 15 n) ≡ nat_le (n + 1) 16
    tests n = grind (arith, nat_tests)

pub room_for_session : (n : ℕ) → ltb n 32 ≡ nat_le (n + 1) 32
room_for_session n = grind (arith, nat_tests)

-- the sessions, counted by facts or by keys
pub same_sessions : (fs : List (PathFact × ℕ)) (up : AreRows path_keys fact_row fs) → size (soft.sessions_in path_key fs) ≡ size (sessions_in senders (table_of path_keys fact_row fs up))
same_sessions fs up = ap (λ ss. size (set_of {o = sessions} ss)) (listed fs)
  where
    listed : (xs : List (PathFact × ℕ)) → each (λ e. (path_key e.0).0) xs ≡ each (λ k. k.0) (each (λ e. e.0) (each fact_row xs))
    listed [] = refl
    listed (x ∷ xs) = ap (λ ss. x.0.session ∷ ss) (listed xs)

pub flipped : (a b : Bool) → a ≡ not b → b ≡ not a
flipped a true e = sym (ap not e)
flipped a false e = sym (ap not e)

pub nil_of : {A B : Type 0} (f : A → B) (xs : List A) → each f xs ≡ [] → xs ≡ []
nil_of f [] e = refl
nil_of f (x ∷ xs) e = cc

pub same_map : (m n : PathMap) → m.facts ≡ n.facts → m.dead ≡ n.dead → m ≡ n
same_map m n f d = λ i. record { facts = f i; dead = d i }

-- ---- time
pub rows_later : (ms : ℕ) (fs : List (PathFact × ℕ)) → each fact_row (filter_map (soft.lives_on ms) fs) ≡ changed_rows (later ms) (each fact_row fs)
rows_later ms [] = refl
rows_later ms (e ∷ fs) = by (nat_le e.1 ms) (rows_later ms fs)
  where
    by : (b : Bool) → each fact_row (filter_map (soft.lives_on ms) fs) ≡ changed_rows (later ms) (each fact_row fs)
        → each fact_row (cons_option (cond b None (Some (e.0, e.1 - ms))) (filter_map (soft.lives_on ms) fs))
        ≡ kept_row (path_key e.0) (cond b None (Some (e.0, e.1 - ms))) (changed_rows (later ms) (each fact_row fs))
    by true rest = rest
    by false rest = ap (λ rs. (path_key e.0, (e.0, e.1 - ms)) ∷ rs) rest

pub rows_dead : (ms : ℕ) (fs : List (PathFact × ℕ)) → each dead_row (filter_map (soft.dies ms) fs) ≡ changed_rows (dead_after ms) (each fact_row fs)
rows_dead ms [] = refl
rows_dead ms (e ∷ fs) = by (nat_le e.1 ms) (rows_dead ms fs)
  where
    by : (b : Bool) → each dead_row (filter_map (soft.dies ms) fs) ≡ changed_rows (dead_after ms) (each fact_row fs)
        → each dead_row (cons_option (cond b (Some e.0) None) (filter_map (soft.dies ms) fs)) ≡ kept_row (path_key e.0) (cond b (Some e.0) None) (changed_rows (dead_after ms) (each fact_row fs))
    by true rest = ap (λ rs. (path_key e.0, e.0) ∷ rs) rest
    by false rest = rest

-- ---- the limits still hold where there are fewer
then_some : {X Y : Type 0} (w : Option X) (f : X → Option Y) → is_some (then_do w f) ≡ true → is_some w ≡ true
then_some None f e = e
then_some (Some x) f e = refl

cond_some : {X : Type 0} (b : Bool) (w : Option X) → is_some (cond b w None) ≡ true → is_some w ≡ true
cond_some true w e = e
cond_some false w e = absurd (both_ways _ refl e)

pub within_later : (ms : ℕ) (m : Table path_keys (PathFact × ℕ)) (fs : List (PathFact × ℕ)) (up : AreRows path_keys fact_row fs) → IsWithinSessionLimits senders m
    → each fact_row fs ≡ (changed (later ms) m).rows → IsWithinSessionLimits senders (table_of path_keys fact_row fs up)
within_later ms m fs up within is =
    subst (λ (t : Table path_keys (PathFact × ℕ)). IsWithinSessionLimits senders t) (sym (same_rows _ _ is))
    (within_fewer senders m (changed (later ms) m) (λ k h. then_some (get m k) (later ms k) (ap is_some (sym (get-changed path_keys (later ms) m k)) ∙ h)) within)

pub within_without : (k : Session × Sender) (m : Table path_keys (PathFact × ℕ)) (fs : List (PathFact × ℕ)) (up : AreRows path_keys fact_row fs) → IsWithinSessionLimits senders m
    → each fact_row fs ≡ (without m k).rows → IsWithinSessionLimits senders (table_of path_keys fact_row fs up)
within_without k m fs up within is =
    subst (λ (t : Table path_keys (PathFact × ℕ)). IsWithinSessionLimits senders t) (sym (same_rows _ _ is))
    (within_fewer senders m (without m k) (λ q h. cond_some (not (eq_by_cmp path_keys.cmp k q)) (get m q) (ap is_some (sym (get-without path_keys m k q)) ∙ h)) within)

pub within_more : (k : Session × Sender) (e : PathFact × ℕ) (m : Table path_keys (PathFact × ℕ)) (fs : List (PathFact × ℕ)) (up : AreRows path_keys fact_row fs) → IsWithinSessionLimits senders m
    → has_room_at senders (put_in m k e) k.0 ≡ true → each fact_row fs ≡ (put_in m k e).rows
    → IsWithinSessionLimits senders (table_of path_keys fact_row fs up)
within_more k e m fs up within room is = subst (λ (t : Table path_keys (PathFact × ℕ)). IsWithinSessionLimits senders t) (sym (same_rows _ _ is)) (within_put senders m within k.0 k.1 e room)

pub within_nothing : (fs : List (PathFact × ℕ)) (up : AreRows path_keys fact_row fs) → fs ≡ [] → IsWithinSessionLimits senders (table_of path_keys fact_row fs up)
within_nothing fs up is =
    let nothing : Table path_keys (PathFact × ℕ) = empty in
    subst (λ (t : Table path_keys (PathFact × ℕ)). IsWithinSessionLimits senders t) (sym (same_rows (table_of path_keys fact_row fs up) nothing (ap (each fact_row) is))) (within_none senders)

-- a table within the limits is not full
pub never_full : (k : Session × Sender) (e : PathFact × ℕ) (m : Table path_keys (PathFact × ℕ)) → IsWithinSessionLimits senders m → has_room_at senders (put_in m k e) k.0 ≡ true → get m k ≡ None
    → size m ≡ 512 → ⊥
never_full k e m within room none full =
    let after = within_put senders m within k.0 k.1 e room in
    let few = all_at_most senders 32 (put_in m k e) after.all after.one in
    let more = size-put_in path_keys m k e ∙ ap (λ w. cond (is_some w) (size m) (size m + 1)) none in
    omega (arith, few, more, full)
