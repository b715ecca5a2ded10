-- What is kept of what was told, lane after lane.
use Rattle.std.specs.Prelude.{◌≡◌, ℕ, ◌+◌, ◌*◌, ◌<◌, ◌≤◌, nat_lt, Bool, true, false, cond, not, ◌⊎◌, is_some, map as each, length, List, [], ◌∷◌, ◌++◌, Option, Some, None, take, slice_get}
use Rattle.std.specs.Prelude.{zero, suc, refl}
use Rattle.std.specs.List.{flat_map}
use Rattle.std.specs.Option.{unwrap_or}
use Rattle.std.specs.Ordering.{eq_by_cmp, is_lt}
use Rattle.std.specs.FinMap.Entries.{below_all, is_sorted}
use Rattle.std.proofs.Common.{sym, ap, subst, inl, inr, ◌∙◌, T, arith, ⊎_elim}
use Rattle.std.proofs.lemmas.Bool.{ltb-false, lt-ltb}
use Rattle.std.proofs.lemmas.Option.{same_Some}
use Rattle.router_state.specs.PathState.Paths.{path_keys}
use Rattle.rsvp_base.proofs.SessionCounts.{all_at_most}
use Rattle.rsvp_base.specs.Keys.{Keys}
use Rattle.rsvp_base.specs.Members.{In}
use Rattle.rsvp_base.specs.Orders.{sessions, senders}
use Rattle.rsvp_base.specs.SessionLimits.{IsWithinSessionLimits}
use Rattle.rsvp_base.specs.Sets.{Set}
use Rattle.rsvp_base.specs.Table.{Table, empty, first, get, has, keys, put_in, same_rows, second, size, without}
use Rattle.rsvp_base.specs.declared.session.Session.{Session}
use Rattle.rsvp_base.proofs.Counts.{size-set_of, size_below}
use Rattle.rsvp_base.proofs.Fronts.{got_in}
use Rattle.rsvp_base.proofs.Members.{in_append, in_left, in_right}
use Rattle.rsvp_base.proofs.Tables.{either, holds, get-put_in_other, get-put_in_same, get-without, size-put_in, tied_same, tied_self}
use Rattle.router_state.specs.StyleRules.Merge.{PartTable}
use Rattle.router_state.specs.RouterRules.Facts.{Facts, PathState, SenderKey}
use Rattle.router_state.specs.RouterRules.Known.{Lane, lane_keys, lanes, lanes_of}
use Rattle.router_state.specs.RouterRules.NodeConfig.{NodeConfig}
use Rattle.router_state.specs.RouterRules.Requests.{toward}
use Rattle.router_state.proofs.Once.{not_below_itself}
use Rattle.router_state.proofs.Requesting.{nowhere}
use Rattle.router_state.specs.State.{IsSaid, Said, State, facts_of, path_at, said_at}
use Rattle.router_state.proofs.Room.{size_same}
use Rattle.router_state.proofs.Settling.{has_changed}
use Rattle.laws_sends.specs.Changed.{IsChangedFor}
use Rattle.laws_sends.specs.Saying.{AreLanesOf, IsCleared, IsRoomy, IsTold, SessionLane, lane_by, told_at}
use Rattle.laws_sends.proofs.Apart.{changed_at}
use Rattle.laws_sends.proofs.Elsewhere.{toward_same}

-- ---- one lane
-- a table without rows is the empty one
no_rows : (v : PartTable) → nat_lt 0 (size v) ≡ false → empty ≡ v
no_rows v off = same_rows empty v (by v.rows (ltb-false 0 (size v) off))
  where
    by : {A : Type 0} (es : List A) → length es ≤ 0 → [] ≡ es
    by [] h = refl
    by (e ∷ es) h = absurd (omega (arith, h))

module _ (m : Said) (l : Lane) (v : PartTable) where
  pub said_here : said_at (told_at m l v) l ≡ v
  said_here = by (nat_lt 0 (size v)) refl
    where
      by : (b : Bool) → nat_lt 0 (size v) ≡ b → said_at (cond b (put_in m l v) (without m l)) l ≡ v
      by true e = ap (λ w. unwrap_or w empty) (get-put_in_same lane_keys m l v)
      by false e = ap (λ w. unwrap_or w empty) (get-without lane_keys m l l ∙ ap (λ b. cond (not b) (get m l) None) (tied_self lane_keys l)) ∙ no_rows v e

  turned : (q : Lane) → eq_by_cmp lane_keys.cmp q l ≡ false → eq_by_cmp lane_keys.cmp l q ≡ false
  turned q off =
      either (eq_by_cmp lane_keys.cmp l q)
      (λ t. let e = tied_same lane_keys l q t in let z : true ≡ false = sym (ap (λ x. eq_by_cmp lane_keys.cmp x l) (sym e) ∙ tied_self lane_keys l) ∙ off in absurd (cc))
      (λ f. f)

  pub got_told : (q : Lane) → eq_by_cmp lane_keys.cmp q l ≡ false → get (told_at m l v) q ≡ get m q
  got_told q off = by (nat_lt 0 (size v))
    where
      by : (b : Bool) → get (cond b (put_in m l v) (without m l)) q ≡ get m q
      by true = get-put_in_other lane_keys m l v q off
      by false = get-without lane_keys m l q ∙ ap (λ b. cond (not b) (get m q) None) (turned q off)

  pub said_other : (q : Lane) → eq_by_cmp lane_keys.cmp q l ≡ false → said_at (told_at m l v) q ≡ said_at m q
  said_other q off = ap (λ w. unwrap_or w empty) (got_told q off)

  -- what stands there stood there, or was told
  pub told_there : (q : Lane) (t : PartTable) → get (told_at m l v) q ≡ Some t → (get m q ≡ Some t) ⊎ ((q ≡ l) × (t ≡ v) × (nat_lt 0 (size v) ≡ true))
  told_there q t e =
      either (eq_by_cmp lane_keys.cmp q l)
      (λ tie. here (tied_same lane_keys q l tie) (nat_lt 0 (size v)) refl e)
      (λ off. inl (sym (got_told q off) ∙ e))
    where
      here : q ≡ l → (b : Bool) → nat_lt 0 (size v) ≡ b → get (cond b (put_in m l v) (without m l)) q ≡ Some t → (get m q ≡ Some t) ⊎ ((q ≡ l) × (t ≡ v) × (nat_lt 0 (size v) ≡ true))
      here is true b e = inr (is, same_Some t v (sym e ∙ ap (get (put_in m l v)) is ∙ get-put_in_same lane_keys m l v), b)
      here is false b e =
          let none : get (without m l) q ≡ None = ap (get (without m l)) is ∙ get-without lane_keys m l l ∙ ap (λ b. cond (not b) (get m l) None) (tied_self lane_keys l) in
          let z : ◌≡◌ {A = Option PartTable} None (Some t) = sym none ∙ e in
          absurd (cc)

some_of : {X : Type 0} (w : Option X) → is_some w ≡ true → (x : X) × (w ≡ Some x)
some_of None h = cc
some_of (Some x) h = (x, refl)

-- where something goes, a path comes from
pub somewhere : (p : NodeConfig) (f : Facts) (l : Lane) → nat_lt 0 (size (toward p f l)) ≡ true → has (lanes f) l ≡ true
somewhere p f l h =
    either (has (lanes f) l) (λ t. t) (λ off. let z : false ≡ true = sym (ap (λ (v : PartTable). nat_lt 0 (size v)) (nowhere p f l off)) ∙ h in absurd (cc))

-- ---- room
three_each : (es : List (SenderKey × PathState)) → length (flat_map lanes_of es) ≡ 3 * length es
three_each [] = refl
three_each (e ∷ es) = let rest = three_each es in omega (arith, rest)

pub lanes_few : (c : ℕ) (n : State) → IsWithinSessionLimits senders n.paths → size (lanes (facts_of c n)) ≤ 1536
lanes_few c n within =
    let few = size-set_of lane_keys (flat_map lanes_of (facts_of c n).paths.rows) in
    let three = three_each (facts_of c n).paths.rows in
    let same = size_same path_keys (facts_of c n).paths n.paths (has_changed path_keys (path_at c) (λ k v. refl) n.paths) in
    let most = all_at_most senders 32 n.paths within.all within.one in
    omega (arith, few, three, same, most)

module _ (m : State) (said : Said) (roomy : IsRoomy m said) where
  pub told_room : (l : Lane) → has (lanes (facts_of 0 m)) l ≡ true → has said l ≡ false → IsWithinSessionLimits senders m.paths → size said < 1536
  told_room l there new within =
      let more : size (put_in said l empty) ≡ size said + 1 = size-put_in lane_keys said l empty ∙ ap (λ t. cond t (size said) (size said + 1)) new in
      let below = size_below lane_keys (put_in said l empty) (lanes (facts_of 0 m)) among in
      let few = lanes_few 0 m within in
      omega (arith, more, below, few)
    where
      among : (q : Lane) → has (put_in said l empty) q ≡ true → has (lanes (facts_of 0 m)) q ≡ true
      among q h =
          either (eq_by_cmp lane_keys.cmp q l)
          (λ t. ap (λ z. has (lanes (facts_of 0 m)) z) (tied_same lane_keys q l t) ∙ there)
          (λ t. roomy.within 0 q (sym (ap is_some (get-put_in_other lane_keys said l empty q t)) ∙ h))

  -- a lane that is told what goes there
  pub roomy_told : (l : Lane) (v : PartTable) → ((c : ℕ) → v ≡ toward m.place (facts_of c m) l) → IsRoomy m (told_at said l v)
  roomy_told l v is = record {
    some = λ q t e. ⊎_elim (λ old. roomy.some q t old) (λ (new : (q ≡ l) × (t ≡ v) × (nat_lt 0 (size v) ≡ true)). ap (λ (z : PartTable). nat_lt 0 (size z)) new.1 ∙ new.2) (told_there said l v q t e);
    within = λ c q h.
        let g = some_of (get (told_at said l v) q) h in
        ⊎_elim
        (λ old. roomy.within c q (ap is_some old))
        (λ (new : (q ≡ l) × (g.0 ≡ v) × (nat_lt 0 (size v) ≡ true)). ap (λ z. has (lanes (facts_of c m)) z) new.0
        ∙ somewhere m.place (facts_of c m) l (sym (ap (λ (z : PartTable). nat_lt 0 (size z)) (is c)) ∙ new.2))
        (told_there said l v q g.0 g.1);
  }

-- ---- distinct keys
module _ {K X : Type 0} (o : Keys K) where
  in_below : (k : K) (es : List (K × X)) → T (below_all o.cmp k es) → (q : K) → In q (each (λ e. e.0) es) → T (is_lt (o.cmp k q))
  in_below k [] h q i = absurd i
  in_below k (e ∷ es) h q (inl is) = subst (λ z. T (is_lt (o.cmp k z))) (sym is) (first _ _ h)
  in_below k (e ∷ es) h q (inr i) = in_below k es (second _ _ h) q i

  -- a key does not stand before itself
  pub fresh : (es : List (K × X)) (i : ℕ) (k : K) → T (is_sorted o.cmp es) → slice_get (each (λ e. e.0) es) i ≡ Some k → In k (take i (each (λ e. e.0) es)) → ⊥
  fresh [] zero k s g h = absurd h
  fresh [] (suc i) k s g h = absurd h
  fresh (e ∷ es) zero k s g h = absurd h
  fresh (e ∷ es) (suc i) k s g (inl is) =
      let less = holds _ (in_below e.0 es (first _ _ s) k (got_in (each (λ e. e.0) es) i k g)) in
      let not = not_below_itself o e.0 in
      let z : true ≡ false = sym less ∙ ap (λ q. is_lt (o.cmp e.0 q)) is ∙ not in
      absurd (cc)
  fresh (e ∷ es) (suc i) k s g (inr j) = fresh es i k (second _ _ s) g j

-- ---- lanes that are cleared
abbrev none : PartTable
none = empty

module _ (m : State) (s : Session) where
  pub cleared_none : ((l : Lane) (t : PartTable) → get m.said l ≡ Some t → nat_lt 0 (size t) ≡ true) → IsCleared m s [] m.said
  cleared_none some = record { at = λ c l. inl refl; gone = λ c e i off. absurd i; some = some }

  module _ (es : List SessionLane) (said : Said) (done : IsCleared m s es said) (e : SessionLane) where
    pub cleared_gone : ((c : ℕ) → has (lanes (facts_of c m)) (lane_by s e) ≡ false) → IsCleared m s (es ++ e ∷ []) (told_at said (lane_by s e) empty)
    cleared_gone off = record {
      at = λ c l.
          either (eq_by_cmp lane_keys.cmp l (lane_by s e))
          (λ t. let is = tied_same lane_keys l (lane_by s e) t in inr (
            ap (said_at (told_at said (lane_by s e) empty)) is ∙ said_here said (lane_by s e) empty,
            ap (λ z. has (lanes (facts_of c m)) z) is ∙ off c,
          ))
          (λ t. let same = said_other said (lane_by s e) empty l t in ⊎_elim (λ (a : said_at said l ≡ said_at m.said l). inl (same ∙ a))
          (λ (b : (said_at said l ≡ empty) × (has (lanes (facts_of c m)) l ≡ false)). inr (same ∙ b.0, b.1)) (done.at c l));
      gone = λ c d i none.
          either (eq_by_cmp lane_keys.cmp (lane_by s d) (lane_by s e))
          (λ t. ap (said_at (told_at said (lane_by s e) empty)) (tied_same lane_keys (lane_by s d) (lane_by s e) t) ∙ said_here said (lane_by s e) empty)
          (λ t. said_other said (lane_by s e) empty (lane_by s d) t ∙ ⊎_elim (λ (j : In d es). done.gone c d j none) (λ (j : In d (e ∷ [])). absurd (not_itself d j t)) (in_append d es (e ∷ []) i));
      some = λ q t g. ⊎_elim (λ old. done.some q t old) (λ (new : (q ≡ lane_by s e) × (t ≡ none) × (nat_lt 0 (size none) ≡ true)). let z : false ≡ true = new.2 in absurd (cc))
          (told_there said (lane_by s e) empty q t g);
    }
      where
        not_itself : (d : SessionLane) → In d (e ∷ []) → eq_by_cmp lane_keys.cmp (lane_by s d) (lane_by s e) ≡ false → ⊥
        not_itself d (inl is) t = let z : true ≡ false = sym (tied_self lane_keys (lane_by s e)) ∙ ap (λ x. eq_by_cmp lane_keys.cmp (lane_by s x) (lane_by s e)) (sym is) ∙ t in cc
        not_itself d (inr i) t = absurd i

    pub cleared_kept : ((c : ℕ) → has (lanes (facts_of c m)) (lane_by s e) ≡ true) → IsCleared m s (es ++ e ∷ []) said
    cleared_kept on = record {
      at = done.at;
      gone = λ c d i none. ⊎_elim (λ (j : In d es). done.gone c d j none) (λ (j : In d (e ∷ [])). absurd (there c d j none)) (in_append d es (e ∷ []) i);
      some = done.some;
    }
      where
        there : (c : ℕ) (d : SessionLane) → In d (e ∷ []) → has (lanes (facts_of c m)) (lane_by s d) ≡ false → ⊥
        there c d (inl is) none = let z : true ≡ false = sym (on c) ∙ ap (λ x. has (lanes (facts_of c m)) (lane_by s x)) (sym is) ∙ none in cc
        there c d (inr i) none = absurd i

-- ---- lanes that are told
module _ (m : State) (s : Session) where
  pub told_none : IsTold m s [] m.said
  told_none = record { here = λ c e i. absurd i; rest = λ l h. refl }

  module _ (es : List SessionLane) (said : Said) (done : IsTold m s es said) (e : SessionLane) where
    pub told_more : (v : PartTable) → ((c : ℕ) → v ≡ toward m.place (facts_of c m) (lane_by s e)) → IsTold m s (es ++ e ∷ []) (told_at said (lane_by s e) v)
    told_more v is = record {
      here = λ c d i.
          either (eq_by_cmp lane_keys.cmp (lane_by s d) (lane_by s e))
          (λ t. let same = tied_same lane_keys (lane_by s d) (lane_by s e) t in ap (said_at (told_at said (lane_by s e) v)) same ∙ said_here said (lane_by s e) v ∙ is c
          ∙ ap (toward m.place (facts_of c m)) (sym same))
          (λ t. said_other said (lane_by s e) v (lane_by s d) t ∙ ⊎_elim (λ (j : In d es). done.here c d j) (λ (j : In d (e ∷ [])). absurd (not_itself d j t)) (in_append d es (e ∷ []) i));
      rest = λ l out.
          either (eq_by_cmp lane_keys.cmp l (lane_by s e))
          (λ t. absurd (out e (in_right e es (e ∷ []) (inl refl)) (tied_same lane_keys l (lane_by s e) t)))
          (λ t. said_other said (lane_by s e) v l t ∙ done.rest l (λ d j. out d (in_left d es (e ∷ []) j)));
    }
      where
        not_itself : (d : SessionLane) → In d (e ∷ []) → eq_by_cmp lane_keys.cmp (lane_by s d) (lane_by s e) ≡ false → ⊥
        not_itself d (inl is) t = let z : true ≡ false = sym (tied_self lane_keys (lane_by s e)) ∙ ap (λ x. eq_by_cmp lane_keys.cmp (lane_by s x) (lane_by s e)) (sym is) ∙ t in cc
        not_itself d (inr i) t = absurd i

    -- a lane that is not among those told is as it was
    pub as_before : (In e es → ⊥) → said_at said (lane_by s e) ≡ said_at m.said (lane_by s e)
    as_before new = done.rest (lane_by s e) (λ d j same. new (subst (λ z. In z es) (λ i. ((sym same i).style, (sym same i).hop)) j))

-- ---- and then all is said
module _ (k : SenderKey) (n m : State) (ch : IsChangedFor k n m) (same : m.said ≡ n.said) (kept : IsSaid n.said n) (es : List SessionLane) (old : (c : ℕ) → AreLanesOf (facts_of c n) k.0 es)
    (said : Said) (cleared : IsCleared m k.0 es said) where
  -- elsewhere the same goes
  away : (c : ℕ) (l : Lane) → eq_by_cmp sessions.cmp k.0 l.session ≡ false → toward n.place (facts_of c n) l ≡ toward m.place (facts_of c m) l
  away c l off = toward_same (facts_of c n) (facts_of c m) l ((changed_at k n m ch c n.place).elsewhere l.session off) n.place ∙ ap (λ p. toward p (facts_of c m) l) ch.place

  was : (c : ℕ) (l : Lane) → said_at m.said l ≡ toward n.place (facts_of c n) l
  was c l = ap (λ z. said_at z l) same ∙ kept.at c l

  -- what is kept of a lane that is no more
  none_left : (c : ℕ) (l : Lane) → has (lanes (facts_of c m)) l ≡ false → said_at said l ≡ empty
  none_left c l off =
      ⊎_elim
      (λ (a : said_at said l ≡ said_at m.said l).
      either (eq_by_cmp sessions.cmp k.0 l.session)
      (λ t.
      either (has (lanes (facts_of c n)) l)
      (λ on. let g = (old c).all l on (sym (tied_same sessions k.0 l.session t)) in ap (said_at said) g.2 ∙ cleared.gone c g.0 g.1 (ap (λ z. has (lanes (facts_of c m)) z) (sym g.2) ∙ off))
      (λ none. a ∙ was c l ∙ nowhere n.place (facts_of c n) l none))
      (λ t. a ∙ was c l ∙ away c l t ∙ nowhere m.place (facts_of c m) l off))
      (λ (b : (said_at said l ≡ empty) × (has (lanes (facts_of c m)) l ≡ false)). b.0)
      (cleared.at c l)

  pub cleared_roomy : IsRoomy m said
  cleared_roomy = record {
    some = cleared.some;
    within = λ c l h.
        either (has (lanes (facts_of c m)) l) (λ t. t)
        (λ off.
        let g = some_of (get said l) h in
        let z : false ≡ true = sym (ap (λ (v : PartTable). nat_lt 0 (size v)) (sym (ap (λ w. unwrap_or w empty) g.1) ∙ none_left c l off)) ∙ cleared.some l g.0 g.1 in
        absurd (cc));
  }

  module _ (ds : List SessionLane) (new : (c : ℕ) → AreLanesOf (facts_of c m) k.0 ds) (last : Said) (told : IsTold (record m { said = said }) k.0 ds last) (roomy : IsRoomy m last) where
    pub all_said : IsSaid last m
    all_said = record {
      at = λ c l. either (has (lanes (facts_of c m)) l) (on c l) (λ off. told.rest l (λ e i is. absurd (nobody c e i (ap (λ z. has (lanes (facts_of c m)) z) (sym is) ∙ off))) ∙ none_left c l off
          ∙ sym (nowhere m.place (facts_of c m) l off));
      some = roomy.some;
    }
      where
        nobody : (c : ℕ) (e : SessionLane) → In e ds → has (lanes (facts_of c m)) (lane_by k.0 e) ≡ false → ⊥
        nobody c e i off = let z : true ≡ false = sym ((new c).only e i) ∙ off in cc

        other : (l : Lane) → eq_by_cmp sessions.cmp k.0 l.session ≡ false → (e : SessionLane) → l ≡ lane_by k.0 e → ⊥
        other l off e is = let z : true ≡ false = sym (tied_self sessions k.0) ∙ ap (λ (q : Lane). eq_by_cmp sessions.cmp k.0 q.session) (sym is) ∙ off in cc

        on : (c : ℕ) (l : Lane) → has (lanes (facts_of c m)) l ≡ true → said_at last l ≡ toward m.place (facts_of c m) l
        on c l h =
            either (eq_by_cmp sessions.cmp k.0 l.session)
            (λ t. let g = (new c).all l h (sym (tied_same sessions k.0 l.session t)) in ap (said_at last) g.2 ∙ told.here c g.0 g.1 ∙ ap (toward m.place (facts_of c m)) (sym g.2))
            (λ t.
            told.rest l (λ e i. other l t e)
            ∙ ⊎_elim (λ (a : said_at said l ≡ said_at m.said l). a ∙ was c l ∙ away c l t)
            (λ (b : (said_at said l ≡ empty) × (has (lanes (facts_of c m)) l ≡ false)). let z : true ≡ false = sym h ∙ b.1 in absurd (cc)) (cleared.at c l))
