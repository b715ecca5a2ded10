-- The paths that an entry names, and the reservations beside it, as the tables have them.
use Rattle.std.specs.Prelude.{◌≡◌, ℕ, suc, ◌+◌, ◌==◌, nat_lt, Bool, true, false, cond, not, ◌&&◌, ◌||◌, List, [], ◌∷◌, ◌++◌, length, slice_get, take, Option, Some, None, refl}
use Rattle.std.proofs.Common.{sym, ap, ◌∙◌, arith}
use Rattle.std.proofs.lemmas.Bool.Decides.{nat_tests}
use Rattle.std.proofs.lemmas.List.Elements.{filter-append}
use Rattle.std.specs.List.{filter, list_any}
use Rattle.std.specs.Option.{option_map}
use Rattle.std.specs.Ordering.{eq_by_cmp}
use Rattle.flow_merge.specs.FlowOrder.{flow_le}
use Rattle.path_state.specs.Paths.{AreByKey, path_keys}
use Rattle.path_state.specs.declared.fact.PathFact.{PathFact}
use Rattle.resv_state.specs.Merging.{SessionRow}
use Rattle.resv_state.specs.Resvs.{AreOfStyle, ResvFacts}
use Rattle.resv_state.specs.Walks.{rests}
use Rattle.rsvp_base.specs.Keys.{pairs}
use Rattle.rsvp_base.specs.Orders.{senders, sessions, units}
use Rattle.rsvp_base.specs.Sets.{cut, is_none}
use Rattle.rsvp_base.specs.Styles.{name_of, part_unit}
use Rattle.rsvp_base.specs.Table.{Table, changed, changed_rows, get, has}
use Rattle.rsvp_base.specs.TokenBucket.{TokenBucket}
use Rattle.rsvp_base.specs.Under.{under}
use Rattle.rsvp_base.specs.declared.entry_key.EntryKey.{EntryKey}
use Rattle.rsvp_base.specs.declared.part.Part.{Part}
use Rattle.rsvp_base.specs.declared.session.Sender.{Sender}
use Rattle.rsvp_base.specs.declared.session.Session.{Session}
use Rattle.rsvp_base.specs.declared.style.StyleKind.{StyleKind}
use Rattle.rsvp_base.specs.declared.style.StyleKind.TheVariants.{Fixed}
use Rattle.rsvp_base.specs.declared.style.Unit.{Unit as UnitOf}
use Rattle.rsvp_base.proofs.Changed.{under_changed}
use Rattle.rsvp_base.proofs.Counts.{in_found}
use Rattle.rsvp_base.proofs.Fronts.{front_all, front_more, got_in}
use Rattle.rsvp_base.proofs.UnderLaws.{get-under}
use Rattle.style_rules.specs.Lines.{LineKey, NextHop, line_keys, next_hops}
use Rattle.router_rules.specs.Facts.{PathState, ResvState, paths_in, resvs_in, resvs_of}
use Rattle.router_rules.specs.Flags.{is_beside, is_matching}
use Rattle.router_rules.specs.NodeConfig.{NodeConfig, goes_out}
use Rattle.router_rules.specs.Requests.{is_style}
use Rattle.router_rules.specs.declared.entry.Police.{Police}
use Rattle.router_state.specs.State.{State, facts_of, path_at, resv_at}
use Rattle.resv_state.specs.declared.fact.ResvFact.{ResvFact}
use Rattle.error_sends.proofs.Walking.{Met}
use Rattle.traffic_control.specs.Policing.{count_of, is_counted, passes_by, police_seen}

-- ---- a path more
one_more : (b : Bool) (n : ℕ) {A : Type 0} (x : A) → length (cond b (x ∷ []) []) ≡ cond b 1 0
one_more true n x = refl
one_more false n x = refl

length_append : {A : Type 0} (xs ys : List A) → length (xs ++ ys) ≡ length xs + length ys
length_append [] ys = omega arith
length_append (x ∷ xs) ys = let rest = length_append xs ys in omega (arith, rest)

module _ (p : NodeConfig) (s : Session) (st : StyleKind) (i : ℕ) (part : Part) (marked : Bool) where
  abbrev counts : Sender × (PathFact × ℕ) → Bool
  counts e = is_counted p s st i part marked e.0 e.1.0.police

  -- the path at a place
  pub record At (t : Table path_keys (PathFact × ℕ)) (k : ℕ) (path : PathFact) : Type 0 where
    pub row : Sender × (PathFact × ℕ)
    pub at : slice_get (under sessions senders t s).rows k ≡ Some row
    pub fact : row.1.0 ≡ path
    pub sender : row.0 ≡ path.sender

  pub at_place : (t : Table path_keys (PathFact × ℕ)) → AreByKey t → (k : ℕ) (path : PathFact)
      → Some path ≡ option_map (λ (e : Sender × (PathFact × ℕ)). e.1.0) (slice_get (under sessions senders t s).rows k) → At t k path
  at_place t keyed k path is = by (slice_get (under sessions senders t s).rows k) refl is
    where
      by : (w : Option (Sender × (PathFact × ℕ))) → slice_get (under sessions senders t s).rows k ≡ w → Some path ≡ option_map (λ (e : Sender × (PathFact × ℕ)). e.1.0) w → At t k path
      by None at e = cc
      by (Some x) at e =
          let same : x.1.0 ≡ path = cc in
          let there : get t (s, x.0) ≡ Some x.1 = sym (get-under sessions senders t s x.0) ∙ in_found senders (under sessions senders t s) x.0 x.1 (got_in (under sessions senders t s).rows k x at) in
          record { row = x; at = at; fact = same; sender = sym (λ j. (keyed (s, x.0) x.1 there j).1) ∙ ap (λ (f : PathFact). f.sender) same }

  pub counted_more : (t : Table path_keys (PathFact × ℕ)) (k : ℕ) (path : PathFact) → At t k path
      → count_of p s st i part marked (take (k + 1) (under sessions senders t s).rows) ≡ count_of p s st i part marked (take k (under sessions senders t s).rows) + cond
      (is_counted p s st i part marked path.sender path.police) 1 0
  counted_more t k path w =
      let rows = (under sessions senders t s).rows in
      ap (λ es. length (filter counts es)) (front_more rows k w.row w.at) ∙ ap length (filter-append counts (take k rows) (w.row ∷ []))
      ∙ length_append (filter counts (take k rows)) (filter counts (w.row ∷ []))
      ∙ ap (λ n. length (filter counts (take k rows)) + n) (one_more (counts w.row) 0 w.row ∙ (λ j. cond (is_counted p s st i part marked (w.sender j) (w.fact j).police) 1 0))

  pub counted_all : (t : Table path_keys (PathFact × ℕ)) (k : ℕ) → None ≡ option_map (λ (e : Sender × (PathFact × ℕ)). e.1.0) (slice_get (under sessions senders t s).rows k)
      → take k (under sessions senders t s).rows ≡ (under sessions senders t s).rows
  counted_all t k is = front_all (under sessions senders t s).rows k (none_at (slice_get (under sessions senders t s).rows k) is)
    where
      none_at : (w : Option (Sender × (PathFact × ℕ))) → None ≡ option_map (λ (e : Sender × (PathFact × ℕ)). e.1.0) w → w ≡ None
      none_at None e = refl
      none_at (Some x) e = cc

-- ---- as the facts have them
some_more : (n : ℕ) → true ≡ nat_lt 0 (suc n)
some_more n = grind (arith, nat_tests)

abbrev polices : Sender × PathState → Bool
polices x = x.1.police

abbrev exceeds : TokenBucket → (NextHop × UnitOf) × ResvState → Bool
exceeds flow r = not (flow_le r.1.part.flow flow)

matching_one : (b q : Bool) (x : Sender × PathState) (y : Sender × (PathFact × ℕ)) (xs : List (Sender × PathState)) (ys : List (Sender × (PathFact × ℕ))) → length xs ≡ length ys
    → length (cond b (x ∷ xs) xs) ≡ length (cond (b && (not false || q)) (y ∷ ys) ys)
matching_one true q x y xs ys h = ap suc h
matching_one false q x y xs ys h = h

marked_one : (b q : Bool) (x : Sender × PathState) (y : Sender × (PathFact × ℕ)) (xs : List (Sender × PathState)) (ys : List (Sender × (PathFact × ℕ))) → x.1.police ≡ q
    → list_any polices xs ≡ nat_lt 0 (length ys)
    → list_any polices (cond b (x ∷ xs) xs) ≡ nat_lt 0 (length (cond (b && (not true || q)) (y ∷ ys) ys))
marked_one true true x y xs ys is h = ap (λ b. b || list_any polices xs) is ∙ some_more (length ys)
marked_one true false x y xs ys is h = ap (λ b. b || list_any polices xs) is ∙ h
marked_one false q x y xs ys is h = h

beside_one : (b : Bool) (x : (NextHop × UnitOf) × ResvState) (xs : List ((NextHop × UnitOf) × ResvState)) (flow : TokenBucket)
    → list_any (exceeds flow) (cond b (x ∷ xs) xs) ≡ ((b && exceeds flow x) || list_any (exceeds flow) xs)
beside_one true x xs flow = refl
beside_one false x xs flow = refl

module _ (p : NodeConfig) (s : Session) (st : StyleKind) (i : ℕ) (part : Part) (c : ℕ) where
  abbrev seen : List (Sender × (PathFact × ℕ)) → List (Sender × PathState)
  seen es = changed_rows (λ k e. path_at c (s, k) e) es

  abbrev seen_row : Sender × (PathFact × ℕ) → Sender × PathState
  seen_row e = (e.0, record { iface = e.1.0.iface; hop = e.1.0.hop; tspec = e.1.0.tspec; police = e.1.0.police; adspec = e.1.0.adspec; dies = c + e.1.1 })

  abbrev matched : List (Sender × (PathFact × ℕ)) → List (Sender × PathState)
  matched es = filter (is_matching p s st i part) (seen es)

  abbrev among : Bool → List (Sender × (PathFact × ℕ)) → List (Sender × (PathFact × ℕ))
  among marked es = filter (λ e. is_counted p s st i part marked e.0 e.1.0.police) es

  matching_is : (es : List (Sender × (PathFact × ℕ))) → length (matched es) ≡ count_of p s st i part false es
  matching_is [] = refl
  matching_is (e ∷ es) = matching_one (has part.senders (name_of st e.0) && goes_out p s i e.0) e.1.0.police (seen_row e) e (matched es) (among false es) (matching_is es)

  marked_is : (es : List (Sender × (PathFact × ℕ))) → list_any polices (matched es) ≡ nat_lt 0 (count_of p s st i part true es)
  marked_is [] = refl
  marked_is (e ∷ es) = marked_one (has part.senders (name_of st e.0) && goes_out p s i e.0) e.1.0.police (seen_row e) e (matched es) (among true es) refl (marked_is es)

  abbrev seen_beside : EntryKey → List SessionRow → List ((NextHop × UnitOf) × ResvState)
  seen_beside k es = filter (is_beside i k.unit part) (changed_rows (λ j e. resv_at c (s, j) e) es)

  beside_is : (k : EntryKey) (es : List SessionRow) → list_any (exceeds part.flow) (seen_beside k es) ≡ list_any (passes_by i k.unit part) es
  beside_is k [] = refl
  beside_is k (e ∷ es) =
      beside_one (not ((e.0.0.0 == i) && eq_by_cmp units.cmp e.0.1 k.unit) && not (is_none (cut part.senders e.1.0.part.senders)))
      (e.0, record { part = e.1.0.part; confirm = e.1.0.confirm; dies = c + e.1.1 }) (seen_beside k es) part.flow
      ∙ ap (λ b. passes_by i k.unit part e || b) (beside_is k es)

-- ---- the flags
module _ (c : ℕ) (n : State) (i : ℕ) (k : EntryKey) (part : Part) (paths : Table path_keys (PathFact × ℕ)) (resvs : ResvFacts) (path_is : n.paths ≡ paths)
    (resv_is : resvs_of k.style (facts_of c n) ≡ changed (resv_at c) resvs) where
  abbrev p : NodeConfig
  p = n.place

  abbrev path_rows : List (Sender × (PathFact × ℕ))
  path_rows = (under sessions senders paths k.session).rows

  paths_are : (paths_in (facts_of c n) k.session).rows ≡ changed_rows (λ j e. path_at c (k.session, j) e) path_rows
  paths_are = (λ j. (under sessions senders (changed (path_at c) (path_is j)) k.session).rows)
      ∙ ap (λ (t : Table senders PathState). t.rows) (under_changed sessions senders (path_at c) paths k.session)

  resvs_are : (resvs_in k.style (facts_of c n) k.session).rows ≡ changed_rows (λ j e. resv_at c (k.session, j) e) (under sessions rests resvs k.session).rows
  resvs_are = ap (λ (t : Table line_keys ResvState). (under sessions (pairs next_hops units) t k.session).rows) resv_is
      ∙ ap (λ (t : Table rests ResvState). t.rows) (under_changed sessions rests (resv_at c) resvs k.session)

  pub flags_are : (e m b : Bool) → e ≡ nat_lt 0 (count_of p k.session k.style i part true path_rows)
      → m ≡ (not (is_style k.style Fixed) && nat_lt 1 (count_of p k.session k.style i part false path_rows))
      → b ≡ list_any (passes_by i k.unit part) (under sessions rests resvs k.session).rows → ◌≡◌ {A = Police} (record { e = e; m = m; b = b }) (police_seen c n i k part)
  unfolding police_seen
  flags_are e m b e_is m_is b_is =
      let marked = ap (λ es. list_any polices (filter (is_matching p k.session k.style i part) es)) paths_are ∙ marked_is p k.session k.style i part c path_rows in
      let many = ap (λ es. length (filter (is_matching p k.session k.style i part) es)) paths_are ∙ matching_is p k.session k.style i part c path_rows in
      let passed = ap (λ es. list_any (exceeds part.flow) (filter (is_beside i k.unit part) es)) resvs_are ∙ beside_is p k.session k.style i part c k (under sessions rests resvs k.session).rows in
      (λ j. record { e = e_is j; m = m_is j; b = b_is j }) ∙ sym (λ j. record { e = marked j; m = not (is_style k.style Fixed) && nat_lt 1 (many j); b = passed j })

-- a reservation that was met, by what it says
pub passes_here : (st : StyleKind) (m : ResvFacts) (of : AreOfStyle st m) (s : Session) (k : ℕ) (f : ResvFact) (w : Met m s k f) (i : ℕ) (u : UnitOf) (part : Part)
    → passes_by i u part w.row ≡ passes_by i u part (((f.iface, f.next), part_unit st f.part), (f, 0))
passes_here st m of s k f w i u part =
    let unit : part_unit st w.row.1.0.part ≡ w.row.0.1 = ap (λ (q : LineKey). q.1.1) (of.key (s, w.row.0) w.row.1 w.there) in
    let own = sym unit ∙ ap (λ (g : ResvFact). part_unit st g.part) w.fact in
    λ j. passes_by i u part ((w.hop j, own j), (w.fact j, 0))
