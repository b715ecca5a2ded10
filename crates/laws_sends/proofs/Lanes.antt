-- The lanes of a session in order: for each style its previous hops.
use Rattle.std.specs.Prelude.{◌≡◌, Bool, true, false, cond, is_some, List, [], ◌∷◌, ◌++◌, map as each, ◌⊎◌, refl}
use Rattle.std.specs.List.{filter}
use Rattle.std.specs.Ordering.{is_lt, ordering_then}
use Rattle.std.specs.Cmp.{tied_itself}
use Rattle.std.specs.declared.cmp.Ordering.{Ordering}
use Rattle.std.specs.declared.cmp.Ordering.TheVariants.{Less, Equal, Greater}
use Rattle.std.specs.FinMap.Entries.{below_all, is_sorted, where_key}
use Rattle.std.proofs.Common.{sym, ap, subst, inl, inr, ◌∙◌, T}
use Rattle.std.proofs.lemmas.List.{map-append}
use Rattle.rsvp_base.specs.Keys.{Keys}
use Rattle.rsvp_base.specs.Members.{In}
use Rattle.rsvp_base.specs.Orders.{sessions, styles, senders}
use Rattle.rsvp_base.specs.Sets.{Set, set_of}
use Rattle.rsvp_base.specs.Table.{both, first, second, get, has, keys, kept}
use Rattle.rsvp_base.specs.declared.session.Sender.{Sender}
use Rattle.rsvp_base.specs.declared.session.Session.{Session}
use Rattle.rsvp_base.specs.declared.style.StyleKind.{StyleKind}
use Rattle.rsvp_base.specs.declared.style.StyleKind.TheVariants.{Wild, Fixed, Shared}
use Rattle.rsvp_base.proofs.Counts.{found_in, in_found, in_set_of, set_of_in}
use Rattle.rsvp_base.proofs.Members.{in_append, in_each, in_left, in_right, to_each}
use Rattle.rsvp_base.proofs.SetLaws.{and_both, and_made, has-kept, same_set}
use Rattle.rsvp_base.proofs.Tables.{tied_same}
use Rattle.rsvp_base.proofs.UnderLaws.{get-under}
use Rattle.router_state.specs.StyleRules.Lines.{NextHop, next_hops}
use Rattle.router_state.specs.RouterRules.Facts.{Facts, PathState, paths_in}
use Rattle.router_state.specs.RouterRules.Known.{Lane, lane_keys, lanes}
use Rattle.router_state.specs.FactLaws.{ComesBy}
use Rattle.router_state.proofs.Knowing.{lanes_made, lanes_told}
use Rattle.router_state.proofs.Lists.{some_is}
use Rattle.router_state.proofs.Tests.{came_tested, came_told, ties}
use Rattle.laws_sends.specs.SendsHere.{hop_of, hops_in, lanes_at, lanes_toward}
use Rattle.laws_sends.proofs.Elsewhere.{is_at}
use Rattle.router_state.proofs.Routed.{same_test}

-- ---- lists that rise
module _ {K X : Type 0} (o : Keys K) where
  -- each key of the one list before each of the other
  abbrev IsBefore : List (K × X) → List (K × X) → Type 0
  IsBefore es fs = (e f : K × X) → In e es → In f fs → T (is_lt (o.cmp e.0 f.0))

  below_in : (k : K) (fs : List (K × X)) → ((f : K × X) → In f fs → T (is_lt (o.cmp k f.0))) → T (below_all o.cmp k fs)
  below_in k [] h = tt
  below_in k (f ∷ fs) h = both _ _ (h f (inl refl)) (below_in k fs (λ g i. h g (inr i)))

  below_both : (k : K) (es fs : List (K × X)) → T (below_all o.cmp k es) → T (below_all o.cmp k fs) → T (below_all o.cmp k (es ++ fs))
  below_both k [] fs h g = g
  below_both k (e ∷ es) fs h g = both _ _ (first _ _ h) (below_both k es fs (second _ _ h) g)

  pub sorted_both : (es fs : List (K × X)) → T (is_sorted o.cmp es) → T (is_sorted o.cmp fs) → IsBefore es fs → T (is_sorted o.cmp (es ++ fs))
  sorted_both [] fs h g before = g
  sorted_both (e ∷ es) fs h g before =
      both _ _ (below_both e.0 es fs (first _ _ h) (below_in e.0 fs (λ f i. before e f (inl refl) i))) (sorted_both es fs (second _ _ h) g (λ a b i j. before a b (inr i) j))

module _ {J K X : Type 0} (q : Keys J) (o : Keys K) (g : J → K) (rises : (a b : J) → T (is_lt (q.cmp a b)) → T (is_lt (o.cmp (g a) (g b)))) where
  below_image : (a : J) (es : List (J × X)) → T (below_all q.cmp a es) → T (below_all o.cmp (g a) (each (λ e. (g e.0, e.1)) es))
  below_image a [] h = tt
  below_image a (e ∷ es) h = both _ _ (rises a e.0 (first _ _ h)) (below_image a es (second _ _ h))

  pub sorted_image : (es : List (J × X)) → T (is_sorted q.cmp es) → T (is_sorted o.cmp (each (λ e. (g e.0, e.1)) es))
  sorted_image [] h = tt
  sorted_image (e ∷ es) h = both _ _ (below_image e.0 es (first _ _ h)) (sorted_image es (second _ _ h))

pub filter_keys_kept : {K X : Type 0} (o : Keys K) (t : K → Bool) (es : List (K × X)) → filter t (each (λ e. e.0) es) ≡ each (λ e. e.0) (where_key o.cmp t es)
filter_keys_kept o t [] = refl
filter_keys_kept o t (e ∷ es) = by (t e.0) (filter_keys_kept o t es)
  where
    by : (b : Bool) → filter t (each (λ e. e.0) es) ≡ each (λ e. e.0) (where_key o.cmp t es)
        → cond b (e.0 ∷ filter t (each (λ e. e.0) es)) (filter t (each (λ e. e.0) es)) ≡ each (λ e. e.0) (cond b (e ∷ where_key o.cmp t es) (where_key o.cmp t es))
    by true h = ap (λ ks. e.0 ∷ ks) h
    by false h = h

-- ---- the previous hops of a session
pub hops_told : (f : Facts) (s : Session) (hop : NextHop) → has (hops_in f s) hop ≡ true → (x : Sender) × ComesBy f s hop x
hops_told f s hop h =
    let r = in_each (λ (e : Sender × PathState). hop_of e.1) hop (paths_in f s).rows (set_of_in next_hops (each (λ (e : Sender × PathState). hop_of e.1) (paths_in f s).rows) hop h) in
    let there = sym (get-under sessions senders f.paths s r.0.0) ∙ in_found senders (paths_in f s) r.0.0 r.0.1 r.1 in
    (r.0.0, record { path = r.0.1; there = there; by = came_tested hop r.0.1 (λ i. (sym r.2 i).0, λ i. (sym r.2 i).1) })

pub hops_made : (f : Facts) (s : Session) (hop : NextHop) (x : Sender) → ComesBy f s hop x → has (hops_in f s) hop ≡ true
hops_made f s hop x c =
    let came = came_told hop c.path c.by in
    let is : ◌≡◌ {A = NextHop} (hop_of c.path) hop = λ i. (came.0 i, came.1 i) in
    let row = found_in senders (paths_in f s) x c.path (get-under sessions senders f.paths s x ∙ c.there) in
    in_set_of next_hops (each (λ (e : Sender × PathState). hop_of e.1) (paths_in f s).rows) hop
    (subst (λ z. In z (each (λ (e : Sender × PathState). hop_of e.1) (paths_in f s).rows)) is (to_each (λ (e : Sender × PathState). hop_of e.1) (x, c.path) (paths_in f s).rows row))

-- ---- its lanes
module _ (s : Session) where
  abbrev pub lane_to : StyleKind → NextHop → Lane
  lane_to st hop = record { session = s; style = st; hop = hop }

  abbrev of_style : StyleKind → List (NextHop × Unit {0}) → List (Lane × Unit {0})
  of_style st es = each (λ e. (lane_to st e.0, e.1)) es

  abbrev pub lane_rows : List (NextHop × Unit {0}) → List (Lane × Unit {0})
  lane_rows es = of_style Wild es ++ (of_style Fixed es ++ of_style Shared es)

  rises : (st : StyleKind) (a b : NextHop) → T (is_lt (next_hops.cmp a b)) → T (is_lt (lane_keys.cmp (lane_to st a) (lane_to st b)))
  rises st a b h = subst T (sym (λ i. is_lt (ordering_then (tied_itself sessions.total s i) (ordering_then (tied_itself styles.total st i) (next_hops.cmp a b))))) h

  -- a style before another, whatever the hops
  apart : (st other : StyleKind) → T (is_lt (styles.cmp st other)) → (a b : NextHop) → T (is_lt (lane_keys.cmp (lane_to st a) (lane_to other b)))
  apart st other h a b = subst T (sym (λ i. is_lt (ordering_then (tied_itself sessions.total s i) (ordering_then (styles.cmp st other) (next_hops.cmp a b))))) (less _ _ h)
    where
      less : (r q : Ordering) → T (is_lt r) → T (is_lt (ordering_then r q))
      less Less q h = h
      less Equal q h = absurd h
      less Greater q h = absurd h

  before_styles : (st other : StyleKind) → T (is_lt (styles.cmp st other)) → (es fs : List (NextHop × Unit {0})) → IsBefore lane_keys (of_style st es) (of_style other fs)
  before_styles st other h es fs a b i j =
      let p = in_each (λ (e : NextHop × Unit {0}). (lane_to st e.0, e.1)) a es i in
      let q = in_each (λ (e : NextHop × Unit {0}). (lane_to other e.0, e.1)) b fs j in
      subst T (λ k. is_lt (lane_keys.cmp (sym p.2 k).0 (sym q.2 k).0)) (apart st other h p.0.0 q.0.0)

  pub lane_rows_rise : (es : List (NextHop × Unit {0})) → T (is_sorted next_hops.cmp es) → T (is_sorted lane_keys.cmp (lane_rows es))
  lane_rows_rise es h =
      let each_style : (st : StyleKind) → T (is_sorted lane_keys.cmp (of_style st es)) = λ st. sorted_image next_hops lane_keys (lane_to st) (rises st) es h in
      let last = sorted_both lane_keys (of_style Fixed es) (of_style Shared es) (each_style Fixed) (each_style Shared) (before_styles Fixed Shared tt es es) in
      sorted_both lane_keys (of_style Wild es) (of_style Fixed es ++ of_style Shared es) (each_style Wild) last
      (λ a b i j. by a b i (in_append b (of_style Fixed es) (of_style Shared es) j))
    where
      by : (a b : Lane × Unit {0}) → In a (of_style Wild es) → (In b (of_style Fixed es) ⊎ In b (of_style Shared es)) → T (is_lt (lane_keys.cmp a.0 b.0))
      by a b i (inl j) = before_styles Wild Fixed tt es es a b i j
      by a b i (inr j) = before_styles Wild Shared tt es es a b i j

  to_lane_rows : (st : StyleKind) (e : NextHop × Unit {0}) (es : List (NextHop × Unit {0})) → In e es → In (lane_to st e.0, e.1) (lane_rows es)
  to_lane_rows Wild e es i = in_left _ (of_style Wild es) _ (to_each (λ (e : NextHop × Unit {0}). (lane_to Wild e.0, e.1)) e es i)
  to_lane_rows Fixed e es i = in_right _ (of_style Wild es) _ (in_left _ (of_style Fixed es) _ (to_each (λ (e : NextHop × Unit {0}). (lane_to Fixed e.0, e.1)) e es i))
  to_lane_rows Shared e es i = in_right _ (of_style Wild es) _ (in_right _ (of_style Fixed es) _ (to_each (λ (e : NextHop × Unit {0}). (lane_to Shared e.0, e.1)) e es i))

  in_lane_rows : (l : Lane × Unit {0}) (es : List (NextHop × Unit {0})) → In l (lane_rows es) → (st : StyleKind) × (e : NextHop × Unit {0}) × In e es × (l ≡ (lane_to st e.0, e.1))
  in_lane_rows l es i = by (in_append l (of_style Wild es) (of_style Fixed es ++ of_style Shared es) i)
    where
      of : (st : StyleKind) → In l (of_style st es) → (st : StyleKind) × (e : NextHop × Unit {0}) × In e es × (l ≡ (lane_to st e.0, e.1))
      of st j = let p = in_each (λ (e : NextHop × Unit {0}). (lane_to st e.0, e.1)) l es j in (st, p.0, p.1, p.2)

      two : (In l (of_style Fixed es) ⊎ In l (of_style Shared es)) → (st : StyleKind) × (e : NextHop × Unit {0}) × In e es × (l ≡ (lane_to st e.0, e.1))
      two (inl j) = of Fixed j
      two (inr j) = of Shared j

      by : (In l (of_style Wild es) ⊎ In l (of_style Fixed es ++ of_style Shared es)) → (st : StyleKind) × (e : NextHop × Unit {0}) × In e es × (l ≡ (lane_to st e.0, e.1))
      by (inl j) = of Wild j
      by (inr j) = two (in_append l (of_style Fixed es) (of_style Shared es) j)

  abbrev own_lanes : Facts → Set lane_keys
  own_lanes f = record { rows = lane_rows (hops_in f s).rows; sorted = lane_rows_rise (hops_in f s).rows (hops_in f s).sorted }

  same_lanes : (f : Facts) (l : Lane) → has (kept (is_at s) (lanes f)) l ≡ has (own_lanes f) l
  same_lanes f l = same_test _ _ to from
    where
      to : has (kept (is_at s) (lanes f)) l ≡ true → has (own_lanes f) l ≡ true
      to h =
          let r = and_both _ _ (sym (has-kept lane_keys (is_at s) (lanes f) l) ∙ h) in
          let same = tied_same sessions s l.session r.1 in
          let c = lanes_told f l r.0 in
          let hop = hops_made f s l.hop c.0 (subst (λ z. ComesBy f z l.hop c.0) (sym same) c.1) in
          let v = some_is (get (hops_in f s) l.hop) hop in
          let row = to_lane_rows l.style (l.hop, v.0) (hops_in f s).rows (found_in next_hops (hops_in f s) l.hop v.0 v.1) in
          ap (λ z. has (own_lanes f) z) (λ i. record { session = sym same i; style = l.style; hop = l.hop }) ∙ ap is_some (in_found lane_keys (own_lanes f) (lane_to l.style l.hop) v.0 row)

      from : has (own_lanes f) l ≡ true → has (kept (is_at s) (lanes f)) l ≡ true
      from h =
          let v = some_is (get (own_lanes f) l) h in
          let r = in_lane_rows (l, v.0) (hops_in f s).rows (found_in lane_keys (own_lanes f) l v.0 v.1) in
          let is : l ≡ lane_to r.0 r.1.0 = λ i. (r.3 i).0 in
          let c = hops_told f s r.1.0 (ap is_some (in_found next_hops (hops_in f s) r.1.0 r.1.1 r.2)) in
          let there = lanes_made f (lane_to r.0 r.1.0) c.0 c.1 in
          has-kept lane_keys (is_at s) (lanes f) l ∙ and_made _ _ (ap (λ z. has (lanes f) z) is ∙ there) (ties sessions s l.session (λ i. (sym is i).session))

  -- those of the session, in order
  pub session_lanes : (f : Facts) → filter (is_at s) (keys (lanes f)) ≡ each (λ e. e.0) (lane_rows (hops_in f s).rows)
  session_lanes f = filter_keys_kept lane_keys (is_at s) (lanes f).rows ∙ ap (λ (z : Set lane_keys). keys z) (same_set lane_keys (kept (is_at s) (lanes f)) (own_lanes f) (same_lanes f))

  keys_toward : (st : StyleKind) (es : List (NextHop × Unit {0})) → each (λ e. e.0) (of_style st es) ≡ lanes_toward s st (each (λ e. e.0) es)
  keys_toward st [] = refl
  keys_toward st (e ∷ es) = ap (λ ls. lane_to st e.0 ∷ ls) (keys_toward st es)

  pub lanes_in_order : (f : Facts) → filter (is_at s) (keys (lanes f)) ≡ lanes_at s (keys (hops_in f s))
  lanes_in_order f =
      let es = (hops_in f s).rows in
      session_lanes f ∙ map-append (λ (e : Lane × Unit {0}). e.0) (of_style Wild es) (of_style Fixed es ++ of_style Shared es)
      ∙ ap (λ ls. each (λ e. e.0) (of_style Wild es) ++ ls) (map-append (λ (e : Lane × Unit {0}). e.0) (of_style Fixed es) (of_style Shared es))
      ∙ (λ i. keys_toward Wild es i ++ (keys_toward Fixed es i ++ keys_toward Shared es i))
