-- Sessions that are watched, that stop and that begin, one after another.
use Rattle.std.specs.Prelude.{◌≡◌, ℕ, ◌+◌, ◌≤◌, ◌||◌, not, Bool, true, false, cond, slice_get, take, zero, suc, List, [], ◌∷◌, ◌++◌, map as each, is_some, Option, Some, None, refl}
use Rattle.std.specs.List.{list_any}
use Rattle.std.specs.Option.{option_map}
use Rattle.std.specs.Ordering.{eq_by_cmp}
use Rattle.std.proofs.Common.{sym, ap, ◌∙◌, arith}
use Rattle.rsvp_base.specs.Orders.{sessions}
use Rattle.rsvp_base.specs.Sets.{set_of}
use Rattle.rsvp_base.specs.Table.{Table, changed, get, has, keys, kept, put_in, size, without}
use Rattle.rsvp_base.specs.declared.session.Session.{Session}
use Rattle.rsvp_base.proofs.Counts.{has-set_of}
use Rattle.rsvp_base.proofs.Filters.{same_test}
use Rattle.rsvp_base.proofs.Fronts.{front_more, in_keys, to_keys}
use Rattle.rsvp_base.proofs.Members.{in_tied, tied_in}
use Rattle.rsvp_base.proofs.Tables.{either, get-changed, get-kept, get-put_in, get-without, same_table, size-put_in, then_do, tied_same, tied_self}
use Rattle.path_state.proofs.Vias.{any_last}
use Rattle.local_state.specs.Counting.{started}
use Rattle.router_aging.specs.Passing.{begun, unmarked}

-- ---- a list of sessions, and one more
abbrev pub any : List Session → Session → Bool
any ss s = list_any (eq_by_cmp sessions.cmp s) ss

pub any_more : (ss : List Session) (k : ℕ) (s q : Session) → slice_get ss k ≡ Some s → any (take (k + 1) ss) q ≡ (eq_by_cmp sessions.cmp q s || any (take k ss) q)
any_more ss k s q at = ap (λ xs. any xs q) (front_more ss k s at) ∙ any_last (eq_by_cmp sessions.cmp q) (take k ss) s

pub key_at : {K X : Type 0} (es : List (K × X)) (k : ℕ) (e : K × X) → slice_get es k ≡ Some e → slice_get (each (λ e. e.0) es) k ≡ Some e.0
key_at [] k e h = cc
key_at (d ∷ es) zero e h = ap (option_map (λ e. e.0)) h
key_at (d ∷ es) (suc k) e h = key_at es k e h

pub any_keys : {X : Type 0} (m : Table sessions X) (q : Session) → any (keys m) q ≡ has m q
any_keys m q = same_test _ _ (λ h. in_keys sessions m q (in_tied sessions q (keys m) h)) (λ h. tied_in sessions q (keys m) (to_keys sessions m q h))

turned : (q s : Session) → eq_by_cmp sessions.cmp q s ≡ eq_by_cmp sessions.cmp s q
turned q s = same_test _ _ (λ h. by s q (sym (tied_same sessions q s h))) (λ h. by q s (sym (tied_same sessions s q h)))
  where
    by : (a b : Session) → a ≡ b → eq_by_cmp sessions.cmp a b ≡ true
    by a b e = ap (λ x. eq_by_cmp sessions.cmp a x) (sym e) ∙ tied_self sessions a

-- ---- watched
pub watched_more : (m : Table sessions Bool) (ss : List Session) (k : ℕ) (s : Session) → ((q : Session) → get m q ≡ cond (any (take k ss) q) (Some false) None) → slice_get ss k ≡ Some s
    → (q : Session) → get (put_in m s false) q ≡ cond (any (take (k + 1) ss) q) (Some false) None
watched_more m ss k s so_far at q = get-put_in sessions m s false q ∙ ap (λ w. cond (eq_by_cmp sessions.cmp q s) (Some false) w) (so_far q) ∙ by (eq_by_cmp sessions.cmp q s) (any (take k ss) q)
    ∙ sym (ap (λ b. cond b (Some false) None) (any_more ss k s q at))
  where
    by : (a b : Bool) → cond a (Some false) (cond b (Some false) None) ≡ cond (a || b) (Some false) None
    by true b = refl
    by false b = refl

pub size_more : (m : Table sessions Bool) (s : Session) (k : ℕ) → size m ≤ k → size (put_in m s false) ≤ k + 1
size_more m s k few =
    let n = size-put_in sessions m s false in
    either (has m s) (λ t. let e = n ∙ ap (λ b. cond b (size m) (size m + 1)) t in omega (arith, e, few)) (λ t. let e = n ∙ ap (λ b. cond b (size m) (size m + 1)) t in omega (arith, e, few))

pub watched_all : (m : Table sessions Bool) (due : Table sessions ℕ) → ((q : Session) → get m q ≡ cond (any (keys due) q) (Some false) None) → m ≡ changed unmarked due
watched_all m due all = same_table sessions m (changed unmarked due) (λ q. all q ∙ ap (λ b. cond b (Some false) None) (any_keys due q) ∙ by (get due q) ∙ sym (get-changed sessions unmarked due q))
  where
    by : (w : Option ℕ) → cond (is_some w) (Some false) None ≡ then_do w (λ left. Some false)
    by None = refl
    by (Some x) = refl

-- ---- stopped
pub stopped_more : (counts : Session → Bool) (due old : Table sessions ℕ) (ss : List Session) (k : ℕ) (s : Session) → due ≡ kept (λ q. counts q || not (any (take k ss) q)) old
    → slice_get ss k ≡ Some s
    → (b : Bool) → counts s ≡ b → cond b due (without due s) ≡ kept (λ q. counts q || not (any (take (k + 1) ss) q)) old
stopped_more counts due old ss k s so_far at true is =
    so_far
    ∙ same_table sessions _ _
    (λ q. get-kept sessions (λ q. counts q || not (any (take k ss) q)) old q ∙ ap (λ b. cond b (get old q) None) (by q (eq_by_cmp sessions.cmp q s) refl)
    ∙ ap (λ b. cond (counts q || not b) (get old q) None) (sym (any_more ss k s q at)) ∙ sym (get-kept sessions (λ q. counts q || not (any (take (k + 1) ss) q)) old q))
  where
    either_way : (b c : Bool) → b ≡ true → (b || c) ≡ true
    either_way true c e = refl
    either_way false c e = cc

    by : (q : Session) (t : Bool) → eq_by_cmp sessions.cmp q s ≡ t → (counts q || not (any (take k ss) q)) ≡ (counts q || not (t || any (take k ss) q))
    by q true t = let e = ap counts (tied_same sessions q s t) ∙ is in either_way (counts q) (not (any (take k ss) q)) e ∙ sym (either_way (counts q) (not (true || any (take k ss) q)) e)
    by q false t = refl
stopped_more counts due old ss k s so_far at false is =
    same_table sessions _ _
    (λ q. get-without sessions due s q ∙ ap (λ w. cond (not (eq_by_cmp sessions.cmp s q)) w None) (ap (λ m. get m q) so_far ∙ get-kept sessions (λ q. counts q || not (any (take k ss) q)) old q)
    ∙ by q (eq_by_cmp sessions.cmp q s) refl ∙ ap (λ b. cond (counts q || not b) (get old q) None) (sym (any_more ss k s q at))
    ∙ sym (get-kept sessions (λ q. counts q || not (any (take (k + 1) ss) q)) old q))
  where
    none : (b : Bool) → b ≡ false → None ≡ cond (b || false) (get old s) None
    none true e = cc
    none false e = refl

    by : (q : Session) (t : Bool) → eq_by_cmp sessions.cmp q s ≡ t → cond (not (eq_by_cmp sessions.cmp s q)) (cond (counts q || not (any (take k ss) q)) (get old q) None) None
        ≡ cond (counts q || not (t || any (take k ss) q)) (get old q) None
    by q true t =
        let same = tied_same sessions q s t in
        ap (λ b. cond (not b) (cond (counts q || not (any (take k ss) q)) (get old q) None) None) (sym (turned q s) ∙ t)
        ∙ none (counts s) is ∙ (λ i. cond (counts (sym same i) || false) (get old (sym same i)) None)
    by q false t = ap (λ b. cond (not b) (cond (counts q || not (any (take k ss) q)) (get old q) None) None) (sym (turned q s) ∙ t)

-- the same where a session is known to stand among those before it, and is passed over
pub stopped_next : (counts : Session → Bool) (due old : Table sessions ℕ) (ss : List Session) (k : ℕ) (s : Session) → due ≡ kept (λ q. counts q || not (any (take k ss) q)) old
    → slice_get ss k ≡ Some s
    → (again : Bool) → (again ≡ true → any (take k ss) s ≡ true) → cond (again || counts s) due (without due s) ≡ kept (λ q. counts q || not (any (take (k + 1) ss) q)) old
stopped_next counts due old ss k s so_far at true known =
    so_far
    ∙ same_table sessions _ _
    (λ q. get-kept sessions (λ q. counts q || not (any (take k ss) q)) old q ∙ ap (λ b. cond (counts q || not b) (get old q) None)
    (by q (eq_by_cmp sessions.cmp q s) refl ∙ sym (any_more ss k s q at)) ∙ sym (get-kept sessions (λ q. counts q || not (any (take (k + 1) ss) q)) old q))
  where
    by : (q : Session) (t : Bool) → eq_by_cmp sessions.cmp q s ≡ t → any (take k ss) q ≡ (t || any (take k ss) q)
    by q true t = ap (any (take k ss)) (tied_same sessions q s t) ∙ known refl
    by q false t = refl
stopped_next counts due old ss k s so_far at false known = stopped_more counts due old ss k s so_far at (counts s) refl

-- where each that stands in no such place counts, those that are left are those that count
pub stopped_all : (counts : Session → Bool) (old : Table sessions ℕ) (ss : List Session) → ((s : Session) → has old s ≡ true → any ss s ≡ false → counts s ≡ true)
    → kept (λ q. counts q || not (any ss q)) old ≡ kept counts old
stopped_all counts old ss others = same_table sessions _ _ (λ q. get-kept sessions (λ q. counts q || not (any ss q)) old q ∙ by q (get old q) refl ∙ sym (get-kept sessions counts old q))
  where
    or_no : (b : Bool) → (b || false) ≡ b
    or_no true = refl
    or_no false = refl

    or_yes : (b : Bool) → (b || true) ≡ true
    or_yes true = refl
    or_yes false = refl

    none : (b : Bool) → ◌≡◌ {A = Option ℕ} (cond b None None) None
    none true = refl
    none false = refl

    same : (q : Session) → has old q ≡ true → (counts q || not (any ss q)) ≡ counts q
    same q there =
        either (any ss q)
        (λ t. ap (λ b. counts q || not b) t ∙ or_no (counts q))
        (λ f. ap (λ b. counts q || not b) f ∙ or_yes (counts q) ∙ sym (others q there f))

    by : (q : Session) (w : Option ℕ) → get old q ≡ w → cond (counts q || not (any ss q)) (get old q) None ≡ cond (counts q) (get old q) None
    by q None e = ap (λ w. cond (counts q || not (any ss q)) w None) e ∙ none (counts q || not (any ss q)) ∙ sym (ap (λ w. cond (counts q) w None) e ∙ none (counts q))
    by q (Some n) e = ap (λ b. cond b (get old q) None) (same q (ap is_some e))

-- ---- begun
pub begun_more : (left : ℕ) (m : Table sessions ℕ) (ss : List Session) (s : Session) → m ≡ changed (begun left) (set_of {o = sessions} ss)
    → started (has m s) s left m ≡ changed (begun left) (set_of {o = sessions} (ss ++ s ∷ []))
begun_more left m ss s is = same_table sessions _ _ (λ q. by q (has m s) refl ∙ sym (at q))
  where
    own : (ts : List Session) (q : Session) → get (changed (begun left) (set_of {o = sessions} ts)) q ≡ cond (any ts q) (Some left) None
    own ts q = get-changed sessions (begun left) (set_of {o = sessions} ts) q ∙ some (get (set_of {o = sessions} ts) q) ∙ ap (λ b. cond b (Some left) None) (has-set_of sessions ts q)
      where
        some : (w : Option (Unit {0})) → then_do w (λ u. Some left) ≡ cond (is_some w) (Some left) None
        some None = refl
        some (Some x) = refl

    here : (q : Session) → get m q ≡ cond (any ss q) (Some left) None
    here q = ap (λ t. get t q) is ∙ own ss q

    at : (q : Session) → get (changed (begun left) (set_of {o = sessions} (ss ++ s ∷ []))) q ≡ cond (eq_by_cmp sessions.cmp q s || any ss q) (Some left) None
    at q = own (ss ++ s ∷ []) q ∙ ap (λ b. cond b (Some left) None) (any_last (eq_by_cmp sessions.cmp q) ss s)

    some_if : (b : Bool) → is_some (cond b (Some left) None) ≡ b
    some_if true = refl
    some_if false = refl

    by : (q : Session) (b : Bool) → has m s ≡ b → get (started b s left m) q ≡ cond (eq_by_cmp sessions.cmp q s || any ss q) (Some left) None
    by q true there = here q ∙ ap (λ b. cond b (Some left) None) (more (eq_by_cmp sessions.cmp q s) refl)
      where
        more : (t : Bool) → eq_by_cmp sessions.cmp q s ≡ t → any ss q ≡ (t || any ss q)
        more true t = ap (any ss) (tied_same sessions q s t) ∙ sym (some_if (any ss s)) ∙ sym (ap is_some (here s)) ∙ there
        more false t = refl
    by q false there = get-put_in sessions m s left q ∙ ap (λ w. cond (eq_by_cmp sessions.cmp q s) (Some left) w) (here q) ∙ or_so (eq_by_cmp sessions.cmp q s) (any ss q)
      where
        or_so : (a b : Bool) → cond a (Some left) (cond b (Some left) None) ≡ cond (a || b) (Some left) None
        or_so true b = refl
        or_so false b = refl

pub stopped_none : (counts : Session → Bool) (old : Table sessions ℕ) → old ≡ kept (λ q. counts q || not (any [] q)) old
stopped_none counts old = same_table sessions _ _ (λ q. ap (λ b. cond b (get old q) None) (sym (whole (counts q))) ∙ sym (get-kept sessions (λ q. counts q || not (any [] q)) old q))
  where
    whole : (b : Bool) → (b || true) ≡ true
    whole true = refl
    whole false = refl
