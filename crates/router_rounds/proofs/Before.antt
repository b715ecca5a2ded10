-- The previous hops that sessions had before paths died.
use Rattle.std.specs.Prelude.{◌≡◌, ℕ, ◌+◌, ◌-◌, ◌<◌, ◌≤◌, ◌||◌, ◌++◌, Bool, true, false, cond, nat_le, List, [], ◌∷◌, map as each, length, Option, Some, None, slice_get, take, get_or, zero, suc, refl}
use Rattle.std.specs.FinMap.Entries.{where_key}
use Rattle.std.specs.List.{list_any}
use Rattle.std.specs.Option.{unwrap_or}
use Rattle.std.specs.Ordering.{eq_by_cmp}
use Rattle.std.proofs.Common.{sym, ap, ◌∙◌, arith}
use Rattle.std.proofs.lemmas.List.{length-map, take_more}
use Rattle.rsvp_base.specs.Orders.{senders, sessions}
use Rattle.rsvp_base.specs.SessionLimits.{IsWithinSessionLimits}
use Rattle.rsvp_base.specs.Sets.{Set, listed, with_key, with_keys}
use Rattle.rsvp_base.specs.Table.{Table, changed, changed_rows, empty, get, has, kept, kept_row, same_rows, size, values}
use Rattle.rsvp_base.specs.Under.{rows_under, under}
use Rattle.rsvp_base.specs.declared.addr.Addr.{Addr}
use Rattle.rsvp_base.specs.declared.session.Sender.{Sender}
use Rattle.rsvp_base.specs.declared.session.Session.{Session}
use Rattle.rsvp_base.proofs.Counts.{found_in, has-set_of, in_found, size-set_of}
use Rattle.rsvp_base.proofs.Fronts.{front_more, got_in}
use Rattle.rsvp_base.proofs.Members.{any_in, to_each}
use Rattle.rsvp_base.proofs.SetLaws.{has-with_rows, or_assoc, same_set, size-with_rows}
use Rattle.rsvp_base.proofs.Tables.{get-kept, same_table}
use Rattle.path_state.specs.Paths.{HopSet, hop_of, hops_by, later, path_hops, path_keys}
use Rattle.path_state.specs.declared.fact.PathFact.{PathFact}
use Rattle.blockade_state.specs.Touched.{Marks, is_touched, touched_at, touched_by}
use Rattle.router_rules.specs.Facts.{SenderKey, sender_keys}
use Rattle.router_aging.specs.Lost.{LostTable, came_from, lost_hops, lost_row, loses}
use Rattle.router_aging.specs.Passing.{unmarked}
use Rattle.router_aging.specs.declared.lost.LostHop.{LostHop}
use Rattle.router_rounds.specs.Nears.{NearTable, hops_before, hops_then, noted_before}

abbrev Path : Type 0
Path = SenderKey × (PathFact × ℕ)

-- where rows say that paths came from, by sender
abbrev lost_from : List (SenderKey × (ℕ × Addr)) → List (ℕ × Addr)
lost_from es = each (λ (e : Sender × (ℕ × Addr)). e.1) (each (λ (e : SenderKey × (ℕ × Addr)). (e.0.1, e.1)) es)

-- ---- those that a session has, and those from which the dead came, are those that it had
module _ (ms : ℕ) (s : Session) (q : ℕ × Addr → Bool) where
  abbrev of_it : {X : Type 0} → List (SenderKey × X) → List (SenderKey × X)
  of_it es = where_key sender_keys.cmp (λ k. eq_by_cmp sessions.cmp s k.0) es

  abbrev has_hop : List Path → Bool
  has_hop es = list_any q (each hop_of (each (λ e. (e.0.1, e.1)) es))

  abbrev has_lost : List (SenderKey × (ℕ × Addr)) → Bool
  has_lost es = list_any q (lost_from es)

  any_hop : (es : List Path) → (has_hop (of_it (changed_rows (later ms) es)) || has_lost (of_it (changed_rows (loses ms) es))) ≡ has_hop (of_it es)
  any_hop [] = refl
  any_hop (e ∷ es) = by (nat_le e.1.1 ms) (any_hop es)
    where
      swapped : (a p l r : Bool) → (a || l) ≡ r → (a || (p || l)) ≡ (p || r)
      swapped true true l r h = refl
      swapped true false l r h = h
      swapped false p l r h = ap (λ b. p || b) h

      gone : (here : Bool) → (has_hop (of_it (changed_rows (later ms) es)) || has_lost (of_it (changed_rows (loses ms) es))) ≡ has_hop (of_it es)
          → (has_hop (of_it (changed_rows (later ms) es)) || has_lost (cond here ((e.0, came_from e.1.0) ∷ of_it (changed_rows (loses ms) es)) (of_it (changed_rows (loses ms) es))))
          ≡ has_hop (cond here (e ∷ of_it es) (of_it es))
      gone true h = swapped (has_hop (of_it (changed_rows (later ms) es))) (q (came_from e.1.0)) (has_lost (of_it (changed_rows (loses ms) es))) (has_hop (of_it es)) h
      gone false h = h

      stays : (here : Bool) → (has_hop (of_it (changed_rows (later ms) es)) || has_lost (of_it (changed_rows (loses ms) es))) ≡ has_hop (of_it es)
          → (has_hop (cond here ((e.0, (e.1.0, e.1.1 - ms)) ∷ of_it (changed_rows (later ms) es)) (of_it (changed_rows (later ms) es))) || has_lost (of_it (changed_rows (loses ms) es)))
          ≡ has_hop (cond here (e ∷ of_it es) (of_it es))
      stays true h = or_assoc (q (came_from e.1.0)) (has_hop (of_it (changed_rows (later ms) es))) (has_lost (of_it (changed_rows (loses ms) es))) ∙ ap (λ b. q (came_from e.1.0) || b) h
      stays false h = h

      by : (dies : Bool) → (has_hop (of_it (changed_rows (later ms) es)) || has_lost (of_it (changed_rows (loses ms) es))) ≡ has_hop (of_it es)
          → (has_hop (of_it (kept_row e.0 (cond dies None (Some (e.1.0, e.1.1 - ms))) (changed_rows (later ms) es)))
          || has_lost (of_it (kept_row e.0 (cond dies (Some (came_from e.1.0)) None) (changed_rows (loses ms) es)))) ≡ has_hop (of_it (e ∷ es))
      by true h = gone (eq_by_cmp sessions.cmp s e.0.0) h
      by false h = stays (eq_by_cmp sessions.cmp s e.0.0) h

keys_listed : {K : Type 0} (ks : List K) → each (λ (e : K × Unit {0}). e.0) (listed ks) ≡ ks
keys_listed [] = refl
keys_listed (k ∷ ks) = ap (λ xs. k ∷ xs) (keys_listed ks)

module _ (ms : ℕ) (paths : Table path_keys (PathFact × ℕ)) where
  abbrev late : Table path_keys (PathFact × ℕ)
  late = changed (later ms) paths

  abbrev lost : LostTable
  lost = lost_hops ms paths

  pub hops_were : (s : Session) → hops_before late lost s ≡ hops_by (under sessions senders paths s).rows
  hops_were s =
      same_set path_hops _ _
      (λ h.
      has-with_rows path_hops (listed (values (under sessions senders lost s))) (hops_by (under sessions senders late s).rows) h
      ∙ (λ i. has-set_of path_hops (each hop_of (under sessions senders late s).rows) h i || list_any (eq_by_cmp path_hops.cmp h) (keys_listed (values (under sessions senders lost s)) i))
      ∙ any_hop ms s (eq_by_cmp path_hops.cmp h) paths.rows
      ∙ sym (has-set_of path_hops (each hop_of (under sessions senders paths s).rows) h))

  pub hops_few : (now : Table path_keys (PathFact × ℕ)) (gone : LostTable) → now ≡ late → gone ≡ lost → IsWithinSessionLimits senders paths → (s : Session) → size (hops_before now gone s) ≤ 16
  hops_few now gone a b within s =
      let es = (under sessions senders paths s).rows in
      let same : size (hops_before now gone s) ≡ size (hops_before late lost s) = λ i. size (hops_before (a i) (b i) s) in
      omega (arith, same, ap size (hops_were s), size-set_of path_hops (each hop_of es), length-map es hop_of, within.one s)

  -- so the sessions that are watched are noted as they were
  pub noted_then : (all : List Session) (due : Table sessions ℕ) → changed (noted_before late lost) (touched_by all (changed unmarked due)) ≡ changed (hops_then paths) due
  noted_then all due = same_rows _ _ (by due.rows)
    where
      by : (es : List (Session × ℕ)) → changed_rows (noted_before late lost) (changed_rows (touched_at all) (changed_rows unmarked es)) ≡ changed_rows (hops_then paths) es
      by [] = refl
      by (e ∷ es) = λ i. (e.0, hops_were e.0 i) ∷ by es i

-- ---- a hop more of those from which the dead came
module _ (s : Session) where
  abbrev pub lost_of : List LostHop → List (ℕ × Addr)
  lost_of list = each (λ e. e.1) (rows_under sessions senders s (each lost_row list))

  abbrev left : List LostHop → List (SenderKey × (ℕ × Addr))
  left zs = where_key sender_keys.cmp (λ k. eq_by_cmp sessions.cmp s k.0) (each lost_row zs)

  lost_last : (xs : List LostHop) (x : LostHop) → lost_of (xs ++ x ∷ []) ≡ cond (eq_by_cmp sessions.cmp s x.session) (lost_of xs ++ x.hop ∷ []) (lost_of xs)
  lost_last [] x = by (eq_by_cmp sessions.cmp s x.session)
    where
      by : (b : Bool) → lost_from (cond b (lost_row x ∷ []) []) ≡ cond b (x.hop ∷ []) []
      by true = refl
      by false = refl
  lost_last (y ∷ ys) x = by (eq_by_cmp sessions.cmp s y.session) (eq_by_cmp sessions.cmp s x.session) (lost_last ys x)
    where
      by : (a b : Bool) → lost_of (ys ++ x ∷ []) ≡ cond b (lost_of ys ++ x.hop ∷ []) (lost_of ys)
          → lost_from (cond a (lost_row y ∷ left (ys ++ x ∷ [])) (left (ys ++ x ∷ [])))
          ≡ cond b (lost_from (cond a (lost_row y ∷ left ys) (left ys)) ++ x.hop ∷ []) (lost_from (cond a (lost_row y ∷ left ys) (left ys)))
      by true true h = ap (λ hs. y.hop ∷ hs) h
      by true false h = ap (λ hs. y.hop ∷ hs) h
      by false b h = h

  with_last : (hops : HopSet) (ks : List (ℕ × Addr)) (k : ℕ × Addr) → with_keys hops (ks ++ k ∷ []) ≡ with_key (with_keys hops ks) k
  with_last hops [] k = refl
  with_last hops (x ∷ xs) k = with_last (with_key hops x) xs k

  few_front : (hops : HopSet) (n : ℕ) (xs : List LostHop) → size (with_keys hops (lost_of (take n xs))) ≤ size (with_keys hops (lost_of xs))
  few_front hops zero xs = size-with_rows path_hops (listed (lost_of xs)) hops
  few_front hops (suc n) [] = omega arith
  few_front hops (suc n) (x ∷ xs) = by (eq_by_cmp sessions.cmp s x.session) (few_front (with_key hops x.hop) n xs) (few_front hops n xs)
    where
      by : (a : Bool) → size (with_keys (with_key hops x.hop) (lost_of (take n xs))) ≤ size (with_keys (with_key hops x.hop) (lost_of xs))
          → size (with_keys hops (lost_of (take n xs))) ≤ size (with_keys hops (lost_of xs))
          → size (with_keys hops (lost_from (cond a (lost_row x ∷ left (take n xs)) (left (take n xs))))) ≤ size (with_keys hops (lost_from (cond a (lost_row x ∷ left xs) (left xs))))
      by true h k = h
      by false h k = k

  module _ (base : HopSet) (list : List LostHop) (i : ℕ) (d : LostHop) (lt : i < length list) where
    abbrev x : LostHop
    x = get_or list i d

    more : lost_of (take (i + 1) list) ≡ cond (eq_by_cmp sessions.cmp s x.session) (lost_of (take i list) ++ x.hop ∷ []) (lost_of (take i list))
    more = ap lost_of (take_more list i d lt) ∙ lost_last (take i list) x

    pub lost_more : (hops new : HopSet) → hops ≡ with_keys base (lost_of (take i list)) → new ≡ cond (eq_by_cmp sessions.cmp s x.session) (with_key hops x.hop) hops
        → new ≡ with_keys base (lost_of (take (i + 1) list))
    lost_more hops new so_far next = next ∙ by (eq_by_cmp sessions.cmp s x.session) ∙ ap (λ ks. with_keys base ks) (sym more)
      where
        by : (b : Bool) → cond b (with_key hops x.hop) hops ≡ with_keys base (cond b (lost_of (take i list) ++ x.hop ∷ []) (lost_of (take i list)))
        by true = ap (λ (z : HopSet). with_key z x.hop) so_far ∙ sym (with_last base (lost_of (take i list)) x.hop)
        by false = so_far

    pub lost_few : (hops : HopSet) → hops ≡ with_keys base (lost_of (take i list)) → size (with_keys base (lost_of list)) ≤ 16 → eq_by_cmp sessions.cmp s x.session ≡ true
        → size (with_key hops x.hop) ≤ 16
    lost_few hops so_far few here =
        let same : with_key hops x.hop ≡ with_keys base (lost_of (take (i + 1) list)) = lost_more hops (with_key hops x.hop) so_far (sym (ap (λ b. cond b (with_key hops x.hop) hops) here)) in
        omega (arith, ap size same, few_front base (i + 1) list, few)

  pub lost_whole : (table : LostTable) (list : List LostHop) → each lost_row list ≡ table.rows → lost_of list ≡ values (under sessions senders table s)
  lost_whole table list is = ap (λ es. each (λ e. e.1) (rows_under sessions senders s es)) is

-- ---- a session more of those that are noted
module _ (paths : Table path_keys (PathFact × ℕ)) (lost : LostTable) (touched : Marks) (fired : Set sessions) where
  abbrev test : Session → Bool
  test s = is_touched touched s || has fired s

  abbrev pub noted : List (Session × Bool) → List (Session × HopSet)
  noted es = where_key sessions.cmp test (changed_rows (noted_before paths lost) es)

  abbrev row : Session → Session × HopSet
  row s = (s, hops_before paths lost s)

  noted_last : (es : List (Session × Bool)) (e : Session × Bool) → noted (es ++ e ∷ []) ≡ cond (test e.0) (noted es ++ row e.0 ∷ []) (noted es)
  noted_last [] e = refl
  noted_last (x ∷ es) e = by (test x.0) (test e.0) (noted_last es e)
    where
      by : (a b : Bool) → noted (es ++ e ∷ []) ≡ cond b (noted es ++ row e.0 ∷ []) (noted es)
          → cond a (row x.0 ∷ noted (es ++ e ∷ [])) (noted (es ++ e ∷ [])) ≡ cond b (cond a (row x.0 ∷ noted es) (noted es) ++ row e.0 ∷ []) (cond a (row x.0 ∷ noted es) (noted es))
      by true true h = ap (λ rs. row x.0 ∷ rs) h
      by true false h = ap (λ rs. row x.0 ∷ rs) h
      by false b h = h

  pub noted_step : (k : ℕ) (s : Session) (mark : Bool) → slice_get touched.rows k ≡ Some (s, mark) → (old new : List (Session × HopSet)) → old ≡ noted (take k touched.rows)
      → new ≡ cond (mark || has fired s) (old ++ row s ∷ []) old → new ≡ noted (take (k + 1) touched.rows)
  noted_step k s mark at old new so_far next =
      next ∙ (λ i. cond (marked i || has fired s) (so_far i ++ row s ∷ []) (so_far i)) ∙ sym (noted_last (take k touched.rows) (s, mark)) ∙ ap noted (sym (front_more touched.rows k (s, mark) at))
    where
      marked : mark ≡ is_touched touched s
      marked = sym (ap (λ w. unwrap_or w false) (in_found sessions touched s mark (got_in touched.rows k (s, mark) at)))

  -- where nothing changed and nothing came due, none are noted
  pub none_noted : ((s : Session) → test s ≡ false) → (kept test (changed (noted_before paths lost) touched)).rows ≡ []
  none_noted calm =
      let m = changed (noted_before paths lost) touched in
      ap (λ (t : NearTable). t.rows) (same_table sessions (kept test m) (empty {o = sessions}) (λ q. get-kept sessions test m q ∙ ap (λ b. cond b (get m q) None) (calm q)))

-- ---- of a session nothing changed where nothing did of any
pub calm_all : (m : Marks) → list_any (λ (b : Bool). b) (values m) ≡ false → (s : Session) → is_touched m s ≡ false
calm_all m none s = by (get m s) refl
  where
    by : (w : Option Bool) → get m s ≡ w → unwrap_or (get m s) false ≡ false
    by None e = ap (λ w. unwrap_or w false) e
    by (Some false) e = ap (λ w. unwrap_or w false) e
    by (Some true) e =
        let z : true ≡ false = sym (any_in (λ (b : Bool). b) true (values m) (to_each (λ (e : Session × Bool). e.1) (s, true) m.rows (found_in sessions m s true e)) refl) ∙ none in
        absurd (cc)
