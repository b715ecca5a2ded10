-- Which sessions are touched, one dead blockade after another.
use Rattle.std.proofs.Common.{◌≡◌, ◌||◌, ℕ, Bool, true, false, cond, List, [], ◌∷◌, map as each, Option, Some, None, refl, sym, ap, ◌∙◌}
use Rattle.std.specs.Prelude.{nat_le, not}
use Rattle.std.specs.List.{cons_option, filter_map, list_any}
use Rattle.std.specs.Ordering.{eq_by_cmp}
use Rattle.std.specs.FinMap.Entries.{find, where_key}
use Rattle.rsvp_base.specs.Keys.{Keys}
use Rattle.rsvp_base.specs.Orders.{sessions}
use Rattle.rsvp_base.specs.Rows.{AreRows, table_of}
use Rattle.rsvp_base.specs.Table.{changed, changed_rows, get, kept_row, put_in}
use Rattle.rsvp_base.specs.declared.session.Session.{Session}
use Rattle.rsvp_base.proofs.Changed.{changed_same, changed_twice}
use Rattle.rsvp_base.proofs.SetLaws.{or_assoc, or_false}
use Rattle.rsvp_base.proofs.Tables.{either, get-changed, get-put_in, same_table, then_do, tied_same}
use Rattle.style_rules.specs.Targets.{WallKey, wall_keys}
use Rattle.soft_table.specs.Facts.{dead_by, dies}
use Rattle.blockade_state.specs.declared.fact.Kept.{Kept}
use Rattle.blockade_state.specs.Blockades.{fact_row, wall_key, wall_of}
use Rattle.blockade_state.specs.Touched.{Marks, dead_after, dying, sessions_of, touched_at, touched_by}

-- ---- one session
pub touched_is : (m : Marks) (s : Session) (b : Bool) → get m s ≡ Some b → put_in m s true ≡ touched_by (s ∷ []) m
touched_is m s b there = same_table sessions _ _ (λ q. get-put_in sessions m s true q ∙ by q (eq_by_cmp sessions.cmp q s) refl ∙ sym (get-changed sessions (touched_at (s ∷ [])) m q))
  where
    off : (w : Option Bool) → w ≡ then_do w (λ c. Some (c || (false || false)))
    off None = refl
    off (Some c) = ap Some (sym (or_false c))

    yes : (c : Bool) → true ≡ (c || (true || false))
    yes true = refl
    yes false = refl

    by : (q : Session) (t : Bool) → eq_by_cmp sessions.cmp q s ≡ t → cond t (Some true) (get m q) ≡ then_do (get m q) (λ c. Some (c || (t || false)))
    by q true t = sym (ap (λ w. then_do w (λ c. Some (c || (true || false)))) (ap (get m) (tied_same sessions q s t) ∙ there) ∙ ap Some (sym (yes b)))
    by q false t = off (get m q)

pub touched_none : (m : Marks) (s : Session) → get m s ≡ None → m ≡ touched_by (s ∷ []) m
touched_none m s none = same_table sessions _ _ (λ q. by q (eq_by_cmp sessions.cmp q s) refl ∙ sym (get-changed sessions (touched_at (s ∷ [])) m q))
  where
    off : (w : Option Bool) → w ≡ then_do w (λ c. Some (c || (false || false)))
    off None = refl
    off (Some c) = ap Some (sym (or_false c))

    by : (q : Session) (t : Bool) → eq_by_cmp sessions.cmp q s ≡ t → get m q ≡ then_do (get m q) (λ c. Some (c || (t || false)))
    by q true t = let e = ap (get m) (tied_same sessions q s t) ∙ none in e ∙ sym (ap (λ w. then_do w (λ c. Some (c || (true || false)))) e)
    by q false t = off (get m q)

-- ---- the sessions of keys, without one
module _ {K X : Type 0} (o : Keys K) (of : K → Session) (t : Session → Bool) (k : K) where
  abbrev any : List (K × X) → Bool
  any es = list_any t (each (λ e. of e.0) es)

  abbrev others : List (K × X) → List (K × X)
  others es = where_key o.cmp (λ x. not (eq_by_cmp o.cmp k x)) es

  is_there : t (of k) ≡ true → (es : List (K × X)) (v : X) → find o.cmp k es ≡ Some v → any es ≡ true
  is_there mine [] v h = cc
  is_there mine (e ∷ es) v h =
      either (eq_by_cmp o.cmp k e.0)
      (λ q. let same : t (of e.0) ≡ true = ap (λ (z : K). t (of z)) (sym (tied_same o k e.0 q)) ∙ mine in ap (λ b. b || any es) same)
      (λ q. ap (λ b. t (of e.0) || b) (is_there mine es v (sym (ap (λ b. cond b (Some e.1) (find o.cmp k es)) q) ∙ h)) ∙ whole (t (of e.0)))
    where
      whole : (b : Bool) → (b || true) ≡ true
      whole true = refl
      whole false = refl

  no_matter : t (of k) ≡ false → (es : List (K × X)) → any es ≡ any (others es)
  no_matter off [] = refl
  no_matter off (e ∷ es) = by (no_matter off es) (eq_by_cmp o.cmp k e.0) refl
    where
      by : any es ≡ any (others es) → (b : Bool) → eq_by_cmp o.cmp k e.0 ≡ b → any (e ∷ es) ≡ any (cond (not b) (e ∷ others es) (others es))
      by rest true q = ap (λ b. b || any es) (ap (λ (z : K). t (of z)) (sym (tied_same o k e.0 q)) ∙ off) ∙ rest
      by rest false q = ap (λ b. t (of e.0) || b) rest

  pub any_pulled : (es : List (K × X)) (v : X) → find o.cmp k es ≡ Some v → any es ≡ (t (of k) || any (others es))
  any_pulled es v h = by (t (of k)) refl
    where
      by : (b : Bool) → t (of k) ≡ b → any es ≡ (b || any (others es))
      by true e = is_there e es v h
      by false e = no_matter e es

-- one fewer of the sessions that are touched
pub touched_pulled : {K X : Type 0} (o : Keys K) (of : K → Session) (m : Marks) (k : K) (v : X) (es : List (K × X)) → find o.cmp k es ≡ Some v
    → touched_by (each (λ e. of e.0) (where_key o.cmp (λ x. not (eq_by_cmp o.cmp k x)) es)) (touched_by (of k ∷ []) m) ≡ touched_by (each (λ e. of e.0) es) m
touched_pulled {K} {X} o of m k v es there =
    changed_twice sessions (touched_at (of k ∷ [])) (touched_at (each (λ e. of e.0) (where_key o.cmp (λ x. not (eq_by_cmp o.cmp k x)) es))) m
    ∙ changed_same sessions _ (touched_at (each (λ e. of e.0) es)) (λ s b. ap Some (at s b)) m
  where
    at : (s : Session) (b : Bool) → ((b || (eq_by_cmp sessions.cmp s (of k) || false)) || list_any (eq_by_cmp sessions.cmp s)
        (each (λ e. of e.0) (where_key o.cmp (λ x. not (eq_by_cmp o.cmp k x)) es))) ≡ (b || list_any (eq_by_cmp sessions.cmp s) (each (λ e. of e.0) es))
    at s b =
        or_assoc b (eq_by_cmp sessions.cmp s (of k) || false) (list_any (eq_by_cmp sessions.cmp s) (each (λ e. of e.0) (where_key o.cmp (λ x. not (eq_by_cmp o.cmp k x)) es)))
        ∙ ap (λ c. b || c)
        (ap (λ c. c || list_any (eq_by_cmp sessions.cmp s) (each (λ e. of e.0) (where_key o.cmp (λ x. not (eq_by_cmp o.cmp k x)) es))) (or_false (eq_by_cmp sessions.cmp s (of k)))
        ∙ sym (any_pulled o of (eq_by_cmp sessions.cmp s) k es v there))

-- ---- one dead blockade fewer
sessions_by : (fs : List Kept) → sessions_of fs ≡ each (λ (e : WallKey × Kept). e.0.0) (dead_by wall_key fs)
sessions_by [] = refl
sessions_by (f ∷ fs) = ap (λ ss. f.session ∷ ss) (sessions_by fs)

pub touched_more : (m : Marks) (f : Kept) (old new : List Kept) → find wall_keys.cmp (wall_key f) (dead_by wall_key old) ≡ Some f
    → dead_by wall_key new ≡ where_key wall_keys.cmp (λ k. not (eq_by_cmp wall_keys.cmp (wall_key f) k)) (dead_by wall_key old)
    → touched_by (sessions_of new) (touched_by (f.session ∷ []) m) ≡ touched_by (sessions_of old) m
touched_more m f old new there pulled =
    (λ i. touched_by ((sessions_by new ∙ ap (λ (es : List (WallKey × Kept)). each (λ e. e.0.0) es) pulled) i) (touched_by (f.session ∷ []) m))
    ∙ touched_pulled wall_keys (λ (k : WallKey). k.0) m (wall_key f) f (dead_by wall_key old) there ∙ ap (λ ss. touched_by ss m) (sym (sessions_by old))

pub touched_nobody : (m : Marks) → touched_by [] m ≡ m
touched_nobody m = same_table sessions _ _ (λ q. get-changed sessions (touched_at []) m q ∙ by (get m q))
  where
    by : (w : Option Bool) → then_do w (λ c. Some (c || false)) ≡ w
    by None = refl
    by (Some c) = ap Some (or_false c)

-- ---- those that die in some time
pub dying_is : (ms : ℕ) (fs : List (Kept × ℕ)) (up : AreRows wall_keys fact_row fs) → sessions_of (filter_map (dies ms) fs) ≡ dying ms (changed wall_of (table_of wall_keys fact_row fs up))
dying_is ms fs up = rows fs
  where
    rows : (fs : List (Kept × ℕ)) → sessions_of (filter_map (dies ms) fs) ≡ each (λ (k : WallKey). k.0) (each (λ e. e.0) (changed_rows (dead_after ms) (changed_rows wall_of (each fact_row fs))))
    rows [] = refl
    rows (f ∷ fs) = by (nat_le f.1 ms) (rows fs)
      where
        by : (b : Bool) → sessions_of (filter_map (dies ms) fs) ≡ each (λ (k : WallKey). k.0) (each (λ e. e.0) (changed_rows (dead_after ms) (changed_rows wall_of (each fact_row fs))))
            → sessions_of (cons_option (cond b (Some f.0) None) (filter_map (dies ms) fs))
            ≡ each (λ (k : WallKey). k.0) (each (λ e. e.0) (kept_row (wall_key f.0) (cond b (Some f.0.wall) None) (changed_rows (dead_after ms) (changed_rows wall_of (each fact_row fs)))))
        by true rest = ap (λ ss. f.0.session ∷ ss) rest
        by false rest = rest
