-- What the policing flags of an entry tell.
use Rattle.std.specs.Prelude.{◌≡◌, ◌⊎◌, ℕ, ◌+◌, ◌<◌, ◌≤◌, ◌==◌, nat_lt, Bool, true, false, cond, not, is_some, ◌&&◌, ◌||◌, List, [], ◌∷◌, length, Some, None, refl}
use Rattle.std.proofs.Common.{T, arith, sym, ap, subst, ◌∙◌, inl, inr, ⊎_elim}
use Rattle.std.proofs.lemmas.Bool.{eq-eqb, eqb-true, lt-ltb, ltb-true}
use Rattle.std.specs.FinMap.Entries.{below_all, is_sorted}
use Rattle.std.specs.Ordering.{eq_by_cmp, is_lt}
use Rattle.router_rules.specs.RsvpBase.declared.part.Part.{Part}
use Rattle.router_rules.specs.RsvpBase.declared.session.Sender.{Sender}
use Rattle.router_rules.specs.RsvpBase.declared.style.StyleKind.TheVariants.{Fixed}
use Rattle.router_rules.specs.RsvpBase.declared.style.Unit.{Unit as UnitOf}
use Rattle.router_rules.specs.RsvpBase.Keys.{Keys, pairs}
use Rattle.router_rules.specs.RsvpBase.Members.{In}
use Rattle.router_rules.specs.RsvpBase.Orders.{senders, sessions, styles, units, entry_keys}
use Rattle.router_rules.specs.RsvpBase.Sets.{Set, cut, is_none, with_key}
use Rattle.router_rules.specs.RsvpBase.Table.{Table, empty, first, get, has, kept, size}
use Rattle.router_rules.proofs.RsvpBase.Counts.{found_in, in_found, size_below}
use Rattle.router_rules.proofs.RsvpBase.Members.{any_in, in_any, in_each, in_filter, to_each, to_filter}
use Rattle.router_rules.proofs.RsvpBase.SetLaws.{and_both, and_made, has-cut, has-with_key, or_either, size-with_key}
use Rattle.router_rules.proofs.RsvpBase.Tables.{either, get-kept, got_kept, holds, tied_same}
use Rattle.router_rules.proofs.RsvpBase.UnderLaws.{get-under}
use Rattle.router_rules.specs.FlowOrder.{flow_le}
use Rattle.router_rules.specs.Lines.{NextHop, next_hops}
use Rattle.router_rules.specs.RsvpBase.declared.entry_key.EntryKey.{EntryKey}
use Rattle.router_rules.specs.RsvpBase.Styles.{name_of}
use Rattle.router_rules.specs.declared.entry.Entry.{Entry}
use Rattle.router_rules.specs.Books.{book}
use Rattle.router_rules.specs.Facts.{Facts, PathState, ResvState, paths_in, resvs_in, resvs_of}
use Rattle.router_rules.specs.Flags.{beside, entries_at, entry_at, is_beside, police_at}
use Rattle.router_rules.specs.NodeConfig.{NodeConfig, goes_out}
use Rattle.router_rules.specs.Requests.{is_style}
use Rattle.laws_bounds.specs.FlagLaws.{AreMerged, AsksForPolicing, FlagsByPathsAndResvs, HasBeside, IsMatch}
use Rattle.laws_bounds.proofs.Lists.{has_some, one_name, some_is}
use Rattle.laws_bounds.proofs.Once.{not_below_itself}
use Rattle.laws_bounds.proofs.Sending.{not_told}
use Rattle.laws_bounds.proofs.Tests.{style_told, ties}

-- ---- tables with two keys
-- two keys of a table
pub record TwoKeys {K X : Type 0} (o : Keys K) (m : Table o X) : Type 0 where
  pub a : K
  pub b : K
  pub has_a : has m a ≡ true
  pub has_b : has m b ≡ true
  pub apart : a ≡ b → ⊥

two_rows : {K X : Type 0} (o : Keys K) (m : Table o X) (es : List (K × X)) → m.rows ≡ es → 1 < length es → TwoKeys o m
two_rows o m [] is many = absurd (omega (arith, many))
two_rows o m (e ∷ []) is many = absurd (omega (arith, many))
two_rows {K} {X} o m (e ∷ d ∷ es) is many =
    record {
      a = e.0;
      b = d.0;
      has_a = ap is_some (in_found o m e.0 e.1 (subst (λ zs. In (e.0, e.1) zs) (sym is) (inl refl)));
      has_b = ap is_some (in_found o m d.0 d.1 (subst (λ zs. In (d.0, d.1) zs) (sym is) (inr (inl refl))));
      apart = λ same.
          let up : T (is_sorted o.cmp (e ∷ d ∷ es)) = subst (λ zs. T (is_sorted o.cmp zs)) is m.sorted in
          let lt : is_lt (o.cmp e.0 d.0) ≡ true = holds (is_lt (o.cmp e.0 d.0)) (first (is_lt (o.cmp e.0 d.0)) (below_all o.cmp e.0 es)
          (first (below_all o.cmp e.0 (d ∷ es)) (is_sorted o.cmp (d ∷ es)) up)) in
          let z : true ≡ false = sym lt ∙ ap (λ k. is_lt (o.cmp k d.0)) same ∙ not_below_itself o d.0 in
          cc;
    }

abbrev nothing : {K : Type 0} (o : Keys K) → Set o
nothing o = empty

-- a key of a set of two is one of them
of_two : {K : Type 0} (o : Keys K) (a b k : K) → has (with_key (with_key (nothing o) a) b) k ≡ true → (k ≡ a) ⊎ (k ≡ b)
of_two o a b k h =
    ⊎_elim (λ (tie : eq_by_cmp o.cmp k b ≡ true). inr (tied_same o k b tie))
    (λ (old : has (with_key (nothing o) a) k ≡ true).
    ⊎_elim (λ (tie : eq_by_cmp o.cmp k a ≡ true). inl (tied_same o k a tie)) (λ (none : has (nothing o) k ≡ true). let z : false ≡ true = none in absurd (cc))
    (or_either _ _ (sym (has-with_key o (nothing o) a k) ∙ old)))
    (or_either _ _ (sym (has-with_key o (with_key (nothing o) a) b k) ∙ h))

two_made : {K X : Type 0} (o : Keys K) (m : Table o X) → TwoKeys o m → 1 < size m
two_made {K} {X} o m q =
    let one : Set o = with_key (nothing o) q.a in
    let both : Set o = with_key one q.b in
    let absent : has one q.b ≡ false = has-with_key o (nothing o) q.a q.b ∙ ap (λ b. b || false)
    (either (eq_by_cmp o.cmp q.b q.a) (λ tie. absurd (q.apart (sym (tied_same o q.b q.a tie)))) (λ n. n)) in
    let two : size both ≡ 2 = size-with_key o one q.b ∙ ap (λ b. cond b (size one) (size one + 1)) absent in
    let few : size both ≤ size m = size_below o both m (λ k h. ⊎_elim (λ (is : k ≡ q.a). ap (has m) is ∙ q.has_a) (λ (is : k ≡ q.b). ap (has m) is ∙ q.has_b) (of_two o q.a q.b k h)) in
    omega (arith, two, few)

-- ---- paths that match
module _ (p : NodeConfig) (f : Facts) (i : ℕ) (k : EntryKey) (part : Part) where
  abbrev matches_by : Sender → Bool
  matches_by x = has part.senders (name_of k.style x) && goes_out p k.session i x

  abbrev those : Table senders PathState
  those = kept matches_by (paths_in f k.session)

  match_told : (x : Sender) (path : PathState) → get those x ≡ Some path → IsMatch p f i k part x path
  match_told x path g =
      let r = got_kept senders matches_by (paths_in f k.session) x path g in
      let b = and_both (has part.senders (name_of k.style x)) (goes_out p k.session i x) r.0 in
      record { there = sym (get-under sessions senders f.paths k.session x) ∙ r.1; named = b.0; way = b.1 }

  match_made : (x : Sender) (path : PathState) → IsMatch p f i k part x path → get those x ≡ Some path
  match_made x path q =
      get-kept senders matches_by (paths_in f k.session) x ∙ ap (λ b. cond b (get (paths_in f k.session) x) None) (and_made _ _ q.named q.way)
      ∙ (get-under sessions senders f.paths k.session x ∙ q.there)

  e_told : (police_at p f i k part).e ≡ true → AsksForPolicing p f i k part
  e_told h =
      let r = in_any (λ (x : Sender × PathState). x.1.police) those.rows h in
      record { sender = r.0.0; path = r.0.1; matches = match_told r.0.0 r.0.1 (in_found senders those r.0.0 r.0.1 r.1); asks = r.2 }

  e_made : AsksForPolicing p f i k part → (police_at p f i k part).e ≡ true
  e_made q = any_in (λ (x : Sender × PathState). x.1.police) (q.sender, q.path) those.rows (found_in senders those q.sender q.path (match_made q.sender q.path q.matches)) q.asks

  m_told : (police_at p f i k part).m ≡ true → (k.style ≡ Fixed → ⊥) × AreMerged p f i k part
  m_told h =
      let b = and_both (not (is_style k.style Fixed)) (nat_lt 1 (length those.rows)) h in
      let t = two_rows senders those those.rows refl (ltb-true 1 (length those.rows) b.1) in
      let x = some_is (get those t.a) t.has_a in
      let y = some_is (get those t.b) t.has_b in (
        λ same. let z : true ≡ false = sym (ties styles k.style Fixed same) ∙ not_told _ b.0 in cc,
        record { first = t.a; second = t.b; first_path = x.0; second_path = y.0; apart = t.apart; one = match_told t.a x.0 x.1; other = match_told t.b y.0 y.1 },
      )

  m_made : (k.style ≡ Fixed → ⊥) × AreMerged p f i k part → (police_at p f i k part).m ≡ true
  m_made q =
      and_made (not (is_style k.style Fixed)) (nat_lt 1 (length those.rows)) (ap not (either (is_style k.style Fixed) (λ same. absurd (q.0 (style_told k.style Fixed same))) (λ n. n)))
      (lt-ltb 1 (length those.rows)
      (two_made senders those
      (record {
        a = q.1.first;
        b = q.1.second;
        has_a = ap is_some (match_made q.1.first q.1.first_path q.1.one);
        has_b = ap is_some (match_made q.1.second q.1.second_path q.1.other);
        apart = q.1.apart;
      })))

  -- ---- reservations beside
  abbrev is_larger : (NextHop × UnitOf) × ResvState → Bool
  is_larger r = not (flow_le r.1.part.flow part.flow)

  abbrev here : (NextHop × UnitOf) × ResvState → Bool
  here r = (r.0.0.0 == i) && eq_by_cmp units.cmp r.0.1 k.unit

  abbrev all_resvs : Table (pairs next_hops units) ResvState
  all_resvs = resvs_in k.style f k.session

  b_told : (police_at p f i k part).b ≡ true → HasBeside f i k part
  b_told h =
      let r = in_any is_larger (beside f k.session k.style i k.unit part) h in
      let t = in_filter (is_beside i k.unit part) r.0 all_resvs.rows r.1 in
      let b = and_both (not (here r.0)) (not (is_none (cut part.senders r.0.1.part.senders))) t.1 in
      let x = one_name (cut part.senders r.0.1.part.senders) (not_told _ b.1) in
      let s = and_both _ _ (sym (has-cut senders part.senders r.0.1.part.senders x.0) ∙ x.1) in
      record {
        hop = r.0.0.0;
        unit = r.0.0.1;
        resv = r.0.1;
        there = sym (get-under sessions (pairs next_hops units) (resvs_of k.style f) k.session r.0.0) ∙ in_found (pairs next_hops units) all_resvs r.0.0 r.0.1 t.0;
        elsewhere = λ same one. let z : true ≡ false = sym (and_made (r.0.0.0.0 == i) (eq_by_cmp units.cmp r.0.0.1 k.unit) (eq-eqb r.0.0.0.0 i same) (ties units r.0.0.1 k.unit one)) ∙ not_told (here r.0) b.0 in cc;
        shared = x.0;
        in_entry = s.0;
        in_resv = s.1;
        larger = not_told _ r.2;
      }

  b_made : HasBeside f i k part → (police_at p f i k part).b ≡ true
  b_made q =
      let row : (NextHop × UnitOf) × ResvState = ((q.hop, q.unit), q.resv) in
      let not_here : here row ≡ false =
      either (here row) (λ h. let b = and_both (q.hop.0 == i) (eq_by_cmp units.cmp q.unit k.unit) h in absurd (q.elsewhere (eqb-true q.hop.0 i b.0) (tied_same units q.unit k.unit b.1))) (λ n. n) in
      any_in is_larger row (beside f k.session k.style i k.unit part)
      (to_filter (is_beside i k.unit part) row all_resvs.rows
      (found_in (pairs next_hops units) all_resvs (q.hop, q.unit) q.resv (get-under sessions (pairs next_hops units) (resvs_of k.style f) k.session (q.hop, q.unit) ∙ q.there))
      (and_made (not (here row)) (not (is_none (cut part.senders q.resv.part.senders))) (ap not not_here)
      (ap not (has_some (cut part.senders q.resv.part.senders) q.shared (has-cut senders part.senders q.resv.part.senders q.shared ∙ and_made _ _ q.in_entry q.in_resv)))))
      (ap not q.larger)

entry_told : (p : NodeConfig) (f : Facts) (i : ℕ) (e : Entry) → In e (entries_at p f i) → (k : EntryKey) × (part : Part) × (get (book f i) k ≡ Some part) × (e ≡ entry_at p f i (k, part))
entry_told p f i e h = let r = in_each (entry_at p f i) e (book f i).rows h in (r.0.0, r.0.1, in_found entry_keys (book f i) r.0.0 r.0.1 r.1, r.2)

entry_made : (p : NodeConfig) (f : Facts) (i : ℕ) (e : Entry) → (k : EntryKey) × (part : Part) × (get (book f i) k ≡ Some part) × (e ≡ entry_at p f i (k, part)) → In e (entries_at p f i)
entry_made p f i e q =
    subst (λ z. In z (entries_at p f i)) (sym q.3) (to_each (entry_at p f i) (q.0, q.1) (book f i).rows (found_in entry_keys (book f i) q.0 q.1 q.2))

pub flags_by_paths_and_resvs : FlagsByPathsAndResvs
flags_by_paths_and_resvs =
    record {
      e = λ p f i k part. (e_told p f i k part, e_made p f i k part);
      m = λ p f i k part. (m_told p f i k part, m_made p f i k part);
      b = λ p f i k part. (b_told p f i k part, b_made p f i k part);
      entries = λ p f i e. (entry_told p f i e, entry_made p f i e);
    }
