-- The names via a hop, gathered one after another.
use Rattle.std.specs.Prelude.{◌≡◌, ℕ, ◌+◌, ◌≤◌, Bool, true, false, ◌||◌, List, [], ◌∷◌, ◌++◌, map as each, length, Some, refl, ◌<◌, zero, suc, take, slice_get, slice_index_or}
use Rattle.std.specs.List.{filter, list_any}
use Rattle.rsvp_base.proofs.Fronts.{front_more}
use Rattle.std.specs.Ordering.{eq_by_cmp}
use Rattle.std.proofs.Common.{sym, ap, ◌∙◌, arith}
use Rattle.std.proofs.lemmas.List.{map-append, length-map}
use Rattle.std.proofs.lemmas.List.Folds.{list_any-append}
use Rattle.std.proofs.lemmas.Option.{same_Some}
use Rattle.router_state.specs.PathState.Paths.{AreByKey, comes_by, path_keys, senders_by, via as kept_via}
use Rattle.router_state.specs.PathState.declared.fact.PathFact.{PathFact}
use Rattle.rsvp_base.specs.Keys.{Keys}
use Rattle.rsvp_base.specs.Orders.{sessions, senders, Names}
use Rattle.rsvp_base.specs.Sets.{set_of, with_key}
use Rattle.rsvp_base.specs.Table.{changed, has, put_in, size, empty, keys}
use Rattle.rsvp_base.specs.Under.{under}
use Rattle.rsvp_base.specs.declared.session.Sender.{Sender}
use Rattle.rsvp_base.specs.declared.session.Session.{Session}
use Rattle.rsvp_base.proofs.Counts.{found_in, has-set_of, in_found, in_set_of, set_of_in, size-set_of}
use Rattle.rsvp_base.proofs.Members.{in_each, in_filter, to_each, to_filter}
use Rattle.rsvp_base.proofs.SetLaws.{has-with_key, same_set}
use Rattle.rsvp_base.proofs.Tables.{get-changed, got_changed, then_do}
use Rattle.rsvp_base.proofs.UnderLaws.{get-under}
use Rattle.router_state.specs.StyleRules.Lines.{NextHop}
use Rattle.rsvp_base.specs.Styles.{name_of}
use Rattle.router_state.specs.StyleRules.Ways.{WayTable}
use Rattle.router_state.specs.RouterRules.Facts.{Facts, PathState}
use Rattle.router_state.specs.RouterRules.Known.{Lane, came_by, via}
use Rattle.router_state.specs.RouterRules.NodeConfig.{NodeConfig}
use Rattle.router_state.proofs.Knowing.{via_made, via_told}
use Rattle.router_state.specs.State.{State, facts_of, path_at}
use Rattle.rsvp_base.specs.declared.style.StyleKind.{StyleKind}
use Rattle.laws_sends.specs.Seen.{lane_of, up_at, way_seen, ways_seen}
use Rattle.laws_sends.specs.Upward.{way_for}
use Rattle.router_state.proofs.Room.{size_same}
use Rattle.router_state.proofs.Routed.{same_test}
use Rattle.router_state.proofs.Settling.{changed_put, has_changed}

pub set_of_more : {K : Type 0} (o : Keys K) (ks : List K) (k : K) → set_of {o = o} (ks ++ k ∷ []) ≡ with_key (set_of {o = o} ks) k
set_of_more o ks k =
    same_set o _ _ (λ q. has-set_of o (ks ++ k ∷ []) q ∙ list_any-append (eq_by_cmp o.cmp q) ks (k ∷ []) ∙ turned (list_any (eq_by_cmp o.cmp q) ks) (eq_by_cmp o.cmp q k)
    ∙ ap (λ b. eq_by_cmp o.cmp q k || b) (sym (has-set_of o ks q)) ∙ sym (has-with_key o (set_of {o = o} ks) k q))
  where
    turned : (a b : Bool) → (a || (b || false)) ≡ (b || a)
    turned true true = refl
    turned true false = refl
    turned false true = refl
    turned false false = refl

module _ (p : NodeConfig) (f : Facts) (l : Lane) where
  -- the ways of the names so far
  abbrev pub ways_so_far : List Sender → WayTable
  ways_so_far xs = changed (λ x _. Some (way_for p f l x)) (set_of {o = senders} (each (name_of l.style) xs))

  pub ways_more : (xs : List Sender) (y : Sender) → ways_so_far (xs ++ y ∷ []) ≡ put_in (ways_so_far xs) (name_of l.style y) (way_for p f l (name_of l.style y))
  ways_more xs y =
      ap (λ ks. changed (λ x _. Some (way_for p f l x)) (set_of {o = senders} ks)) (map-append (name_of l.style) xs (y ∷ []))
      ∙ ap (changed (λ x _. Some (way_for p f l x))) (set_of_more senders (each (name_of l.style) xs) (name_of l.style y))
      ∙ changed_put senders (λ x (u : Unit {0}). Some (way_for p f l x)) (set_of {o = senders} (each (name_of l.style) xs)) (name_of l.style y) tt (way_for p f l (name_of l.style y)) refl

  pub ways_few : (xs : List Sender) → size (ways_so_far xs) ≤ length xs
  ways_few xs =
      let same = size_same senders (ways_so_far xs) (set_of {o = senders} (each (name_of l.style) xs))
      (has_changed senders (λ x (u : Unit {0}). Some (way_for p f l x)) (λ x u. refl) (set_of {o = senders} (each (name_of l.style) xs))) in
      let few = size-set_of senders (each (name_of l.style) xs) in
      let long = length-map xs (name_of l.style) in
      omega (arith, same, few, long)

-- the senders that the table of paths finds are those of the facts
pub via_same : (c : ℕ) (n : State) (s : Session) (hop : NextHop) → AreByKey n.paths → kept_via n.paths s hop.0 hop.1 ≡ via (facts_of c n) s hop
via_same c n s hop keyed = same_set senders _ _ (λ x. same_test _ _ (to x) (from x))
  where
    to : (x : Sender) → has (kept_via n.paths s hop.0 hop.1) x ≡ true → has (via (facts_of c n) s hop) x ≡ true
    to x h =
        let rows = (under sessions senders n.paths s).rows in
        let a = in_each (λ (e : Sender × (PathFact × ℕ)). e.1.0.sender) x (filter (λ e. comes_by hop.0 hop.1 e.1.0) rows) (set_of_in senders (senders_by hop.0 hop.1 rows) x h) in
        let b = in_filter (λ (e : Sender × (PathFact × ℕ)). comes_by hop.0 hop.1 e.1.0) a.0 rows a.1 in
        let there = sym (get-under sessions senders n.paths s a.0.0) ∙ in_found senders (under sessions senders n.paths s) a.0.0 a.0.1 b.0 in
        let is : x ≡ a.0.0 = a.2 ∙ (λ i. (keyed (s, a.0.0) a.0.1 there i).1) in
        let fact = get-changed path_keys (path_at c) n.paths (s, a.0.0) ∙ ap (λ w. then_do w (path_at c (s, a.0.0))) there in
        ap (λ z. has (via (facts_of c n) s hop) z) is ∙ via_made (facts_of c n) s hop a.0.0
        (record { path = record { iface = a.0.1.0.iface; hop = a.0.1.0.hop; tspec = a.0.1.0.tspec; police = a.0.1.0.police; adspec = a.0.1.0.adspec; dies = c + a.0.1.1 }; there = fact; by = b.1 })

    from : (x : Sender) → has (via (facts_of c n) s hop) x ≡ true → has (kept_via n.paths s hop.0 hop.1) x ≡ true
    from x h =
        let rows = (under sessions senders n.paths s).rows in
        let t = via_told (facts_of c n) s hop x h in
        let g = got_changed path_keys (path_at c) n.paths (s, x) t.path t.there in
        let row = found_in senders (under sessions senders n.paths s) x g.0 (get-under sessions senders n.paths s x ∙ g.1) in
        let by : comes_by hop.0 hop.1 g.0.0 ≡ true = ap (λ (z : PathState). came_by hop z) (same_Some _ _ g.2) ∙ t.by in
        let is : g.0.0.sender ≡ x = λ i. (keyed (s, x) g.0 g.1 i).1 in
        ap (λ z. has (kept_via n.paths s hop.0 hop.1) z) (sym is) ∙ in_set_of senders (senders_by hop.0 hop.1 rows) g.0.0.sender
        (to_each (λ (e : Sender × (PathFact × ℕ)). e.1.0.sender) (x, g.0) (filter (λ e. comes_by hop.0 hop.1 e.1.0) rows)
        (to_filter (λ (e : Sender × (PathFact × ℕ)). comes_by hop.0 hop.1 e.1.0) (x, g.0) rows row by))

-- ---- as the code gathers them
module _ (c : ℕ) (n : State) (s : Session) (st : StyleKind) (hop : NextHop) where
  abbrev lane : Lane
  lane = lane_of s st hop

  pub seen_none : empty ≡ ways_seen c n s st hop []
  unfolding ways_seen
  seen_none = refl

  pub seen_more : (xs : List Sender) (y : Sender) → put_in (ways_seen c n s st hop xs) (name_of st y) (way_seen c n s st hop (name_of st y)) ≡ ways_seen c n s st hop (xs ++ y ∷ [])
  unfolding ways_seen way_seen
  seen_more xs y = sym (ways_more n.place (facts_of c n) lane xs y)

  pub seen_few : (xs : List Sender) → size (ways_seen c n s st hop xs) ≤ length xs
  unfolding ways_seen
  seen_few xs = ways_few n.place (facts_of c n) lane xs

  pub seen_all : (xs : List Sender) (names : Names) → xs ≡ keys names → AreByKey n.paths → names ≡ kept_via n.paths s hop.0 hop.1 → ways_seen c n s st hop xs ≡ up_at c n s st hop
  unfolding ways_seen up_at
  seen_all xs names all keyed is =
      ap (λ ks. changed (λ x _. Some (way_for n.place (facts_of c n) lane x)) (set_of {o = senders} (each (name_of st) ks))) (all ∙ ap keys (is ∙ via_same c n s hop keyed))

-- ---- the front of a list, one longer
slice_is : {A : Type 0} (xs : List A) (i : ℕ) (d : A) → i < length xs → slice_get xs i ≡ Some (slice_index_or xs i d)
slice_is [] i d h = absurd (omega (arith, h))
slice_is (x ∷ xs) zero d h = refl
slice_is (x ∷ xs) (suc i) d h = slice_is xs i d (omega (arith, h))

pub take_one : {A : Type 0} (xs : List A) (i : ℕ) (d : A) → i < length xs → take (i + 1) xs ≡ take i xs ++ slice_index_or xs i d ∷ []
take_one xs i d h = front_more xs i (slice_index_or xs i d) (slice_is xs i d h)
