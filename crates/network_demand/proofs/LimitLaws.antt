-- The lines of a node's goal are counted by what the wants of each session take there.
use Rattle.std.specs.Prelude.{◌≡◌, ◌↔◌, ◌⊎◌, ℕ, ◌+◌, ◌≤◌, ◌==◌, ◌||◌, Bool, true, false, cond, List, [], ◌∷◌, map as each, length, sum_by, Some, None, refl}
use Rattle.std.specs.List.{filter, flat_map}
use Rattle.std.specs.Ordering.{eq_by_cmp}
use Rattle.std.specs.FinMap.Entries.{is_sorted}
use Rattle.std.proofs.Common.{sym, ap, subst, ◌∙◌, inl, inr, ⊎_elim, arith, T, length-append}
use Rattle.std.proofs.lemmas.List.{length-map}
use Rattle.std.proofs.lemmas.List.Sums.{sum_by-cons}
use Rattle.rsvp_base.specs.Keys.{Keys}
use Rattle.rsvp_base.specs.Members.{In}
use Rattle.rsvp_base.specs.Orders.{sessions, senders, styles, units}
use Rattle.rsvp_base.specs.Sets.{Set, set_of, with_key, with_keys}
use Rattle.rsvp_base.specs.Table.{Table, get, has, keys, size, empty, first, second}
use Rattle.rsvp_base.specs.declared.addr.Addr.{Addr}
use Rattle.rsvp_base.specs.declared.part.Part.{Part}
use Rattle.rsvp_base.specs.declared.session.Sender.{Sender}
use Rattle.rsvp_base.specs.declared.session.Session.{Session}
use Rattle.rsvp_base.specs.declared.style.StyleKind.{StyleKind}
use Rattle.rsvp_base.specs.declared.style.Unit.{Unit as UnitOf}
use Rattle.rsvp_base.proofs.Counts.{in_found, set_of_in, set_below, size_below, size-set_of}
use Rattle.rsvp_base.proofs.Members.{in_each, to_each, in_filter, to_filter, in_flat_map, to_flat_map}
use Rattle.rsvp_base.proofs.SetLaws.{has-with_key, size-with_key}
use Rattle.rsvp_base.proofs.Tables.{either, tied_same, tied_self, none_above}
use Rattle.rsvp_base.specs.Styles.{name_of}
use Rattle.style_rules.specs.Lines.{Line, LineKey, line_keys, line_key, NextHop, next_hops, next_hop}
use Rattle.style_rules.specs.Limits.{of_style, of_session, line_keys_of, sessions_of, next_hops_of, names_of, IsWithinLimits}
use Rattle.tree_model.specs.Chains.{NoRepeats}
use Rattle.tree_model.specs.declared.hops.LinkHop.{LinkHop}
use Rattle.tree_model.specs.Networks.{Net, node_of}
use Rattle.tree_model.specs.Trees.{hops_of, goes_out_of}
use Rattle.tree_model.specs.Valid.{IsValid}
use Rattle.tree_model.proofs.Counts.{once_append}
use Rattle.tree_model.proofs.Following.{same_number, number_same, addr_same}
use Rattle.tree_routing.specs.declared.group_hop.GroupHop.{GroupHop}
use Rattle.tree_routing.specs.Order.{AreByRank}
use Rattle.tree_model.specs.declared.locals.LocalWant.{LocalWant}
use Rattle.tree_model.specs.Wants.{Locals, live, want}
use Rattle.tree_model.specs.Goals.{addr_of, addr_of_end, goal}
use Rattle.network_demand.specs.declared.hop_want.HopWant.{HopWant}
use Rattle.network_demand.specs.Books.{wants_lines}
use Rattle.network_demand.specs.Demands.{AreLocals, style_lines}
use Rattle.network_demand.specs.Fits.{one_at_most, amount, amount_at, taken_at, all_taken, FindRoom}
use Rattle.network_demand.specs.Steps.{all_names, hops_in, hop_wants}
use Rattle.rsvp_base.proofs.Fronts.{in_keys}
use Rattle.network_demand.proofs.GoalLaws.{from_hops, to_hops, line_told, line_made, goal_made, goal_told, proper_lines, session_named, named_session}
use Rattle.network_demand.proofs.Inside.{end_there, ends_inside}

-- ---- lists without repeats
pub once_flat : {A B : Type 0} (f : A → List B) (xs : List A) → NoRepeats xs → ((x : A) → In x xs → NoRepeats (f x)) → ((x y : A) (z : B) → In x xs → In y xs → In z (f x) → In z (f y) → x ≡ y)
    → NoRepeats (flat_map f xs)
once_flat f [] once all apart = tt
once_flat {A} f (x ∷ xs) once all apart =
    once_append (f x) (flat_map f xs) (all x (inl refl)) (once_flat f xs once.1 (λ y i. all y (inr i)) (λ a b z i j. apart a b z (inr i) (inr j)))
    (λ z i j. let r = in_flat_map f z xs j in once.0 (subst (λ (y : A). In y xs) (sym (apart x r.0 z (inl refl) (inr r.1) i r.2)) r.1))

pub once_each : {A B : Type 0} (f : A → B) (xs : List A) → NoRepeats xs → ((x y : A) → In x xs → In y xs → f x ≡ f y → x ≡ y) → NoRepeats (each f xs)
once_each f [] once apart = tt
once_each {A} f (x ∷ xs) once apart =
    (λ i. let r = in_each f (f x) xs i in once.0 (subst (λ (y : A). In y xs) (sym (apart x r.0 (inl refl) (inr r.1) r.2)) r.1), once_each f xs once.1 (λ a b i j. apart a b (inr i) (inr j)))

pub once_filter : {A : Type 0} (p : A → Bool) (xs : List A) → NoRepeats xs → NoRepeats (filter p xs)
once_filter p [] once = tt
once_filter {A} p (x ∷ xs) once = by (p x) (once_filter p xs once.1)
  where
    by : (b : Bool) → NoRepeats (filter p xs) → NoRepeats (cond b (x ∷ filter p xs) (filter p xs))
    by true rest = (λ i. once.0 (in_filter p x xs i).0, rest)
    by false rest = rest

once_rows : {K X : Type 0} (o : Keys K) (rows : List (K × X)) → T (is_sorted o.cmp rows) → NoRepeats rows
once_rows o [] h = tt
once_rows {K} {X} o (e ∷ es) h = (
  λ i. let rest : Table o X = record { rows = es; sorted = second _ _ h } in let found = in_found o rest e.0 e.1 i in let none = none_above o e.0 es (first _ _ h) in
      let z : Some e.1 ≡ None = sym found ∙ none in cc,
  once_rows o es (second _ _ h),
)

one_row : {K X : Type 0} (o : Keys K) (t : Table o X) (a b : K × X) → In a t.rows → In b t.rows → a.0 ≡ b.0 → a ≡ b
one_row {K} {X} o t a b i j e =
    let x = in_found o t a.0 a.1 i in
    let y = in_found o t b.0 b.1 j in
    let z : Some a.1 ≡ Some b.1 = sym x ∙ ap (get t) e ∙ y in
    let v : a.1 ≡ b.1 = cc in
    λ i. (e i, v i)

-- a list without repeats is as long as its set
module _ {K : Type 0} (o : Keys K) where
  with_once : (ks : List K) (m : Set o) → NoRepeats ks → ((k : K) → In k ks → has m k ≡ false) → size (with_keys m ks) ≡ size m + length ks
  with_once [] m once new = omega arith
  with_once (k ∷ ks) m once new =
      let more : size (with_key m k) ≡ size m + 1 = size-with_key o m k ∙ ap (λ (b : Bool). cond b (size m) (size m + 1)) (new k (inl refl)) in
      let rest = with_once ks (with_key m k) once.1 (λ q i. has-with_key o m k q ∙ ap (λ (b : Bool). b || has m q) (apart q i) ∙ new q (inr i)) in
      omega (arith, more, rest)
    where
      apart : (q : K) → In q ks → eq_by_cmp o.cmp q k ≡ false
      apart q i = either (eq_by_cmp o.cmp q k) (λ t. absurd (once.0 (subst (λ (x : K). In x ks) (tied_same o q k t) i))) (λ f. f)

  pub size_once : (ks : List K) → NoRepeats ks → size (set_of {o = o} ks) ≡ length ks
  size_once ks once = let z = with_once ks empty once (λ k i. refl) in omega (arith, z)

pub length_flat : {A B : Type 0} (f : A → List B) (xs : List A) → length (flat_map f xs) ≡ sum_by (λ x. length (f x)) xs
length_flat f [] = refl
length_flat f (x ∷ xs) = let a = length-append (f x) (flat_map f xs) in let b = length_flat f xs in let c = sum_by-cons (λ x. length (f x)) x xs in omega (arith, a, b, c)

pub sum_same : {A : Type 0} (f g : A → ℕ) (xs : List A) → ((x : A) → f x ≡ g x) → sum_by f xs ≡ sum_by g xs
sum_same f g [] same = refl
sum_same f g (x ∷ xs) same = let a = same x in let b = sum_same f g xs same in let c = sum_by-cons f x xs in let d = sum_by-cons g x xs in omega (arith, a, b, c, d)

-- once, if there is something
abbrev one_of : {X K : Type 0} → List X → K → List K
one_of [] k = []
one_of (x ∷ xs) k = k ∷ []

length_one : {X K : Type 0} (xs : List X) (k : K) → length (one_of xs k) ≡ one_at_most xs
length_one [] k = refl
length_one (x ∷ xs) k = refl

once_one : {X K : Type 0} (xs : List X) (k : K) → NoRepeats (one_of xs k)
once_one [] k = tt
once_one (x ∷ xs) k = (λ i. i, tt)

in_one : {X K : Type 0} (xs : List X) (k z : K) → In z (one_of xs k) → (z ≡ k) × (x : X) × In x xs
in_one [] k z i = absurd i
in_one {X} {K} (x ∷ xs) k z i = ⊎_elim (λ (e : z ≡ k). (e, x, inl refl)) (λ (n : ⊥). absurd n) i

to_one : {X K : Type 0} (xs : List X) (x : X) (k : K) → In x xs → In k (one_of xs k)
to_one [] x k i = absurd i
to_one (y ∷ ys) x k i = inl refl

module _ (net : Net) (l : Locals) (order : List GroupHop) (valid : IsValid net) (by : AreByRank net order) (ss : List Session) (locals : AreLocals net l) (once : NoRepeats ss)
    (these : (s : Session) → In s ss ↔ In s (each (λ (v : LocalWant). v.session) l.wants)) (st : StyleKind) where
  abbrev want_of : Session → LinkHop → HopWant
  want_of s h = record { hop = h; parts = want st net l s h }

  abbrev to_next : LinkHop → NextHop
  to_next h = (h.from, addr_of net h.to)

  abbrev line_over : Session → LinkHop → UnitOf × Part → Line
  line_over s h e = record { style = st; session = s; end = h.from; next = addr_of net h.to; unit = e.0; part = e.1 }

  abbrev style_goal : ℕ → List Line
  style_goal n = of_style st (goal net l n)

  -- hops out of a node, in the order of all hops
  abbrev hops_at : Session → ℕ → List LinkHop
  hops_at s n = filter (goes_out_of net.ends n) (hops_in s.group order)

  -- ---- what is counted
  abbrev over_keys : Session → LinkHop → List LineKey
  over_keys s h = each (λ e. line_key (line_over s h e)) (want st net l s h).rows

  abbrev over_next : Session → LinkHop → List NextHop
  over_next s h = one_of (want st net l s h).rows (to_next h)

  abbrev session_keys : ℕ → Session → List LineKey
  session_keys n s = flat_map (over_keys s) (hops_at s n)

  abbrev all_keys : ℕ → List LineKey
  all_keys n = flat_map (session_keys n) ss

  abbrev all_next : ℕ → Session → List NextHop
  all_next n s = flat_map (over_next s) (hops_at s n)

  count_over : {K : Type 0} (single : Bool) (f : LinkHop → List K) (s : Session) (n : ℕ) → ((h : LinkHop) → length (f h) ≡ amount single (want_of s h)) → (hs : List LinkHop)
      → length (flat_map f (filter (goes_out_of net.ends n) hs)) ≡ taken_at single net n (each (want_of s) hs)
  count_over single f s n same [] = refl
  count_over single f s n same (h ∷ hs) =
      let c = sum_by-cons (amount_at single net n) (want_of s h) (each (want_of s) hs) in
      let z = at (goes_out_of net.ends n h) (count_over single f s n same hs) in
      omega (arith, c, z)
    where
      at : (b : Bool) → length (flat_map f (filter (goes_out_of net.ends n) hs)) ≡ taken_at single net n (each (want_of s) hs)
          → length (flat_map f (cond b (h ∷ filter (goes_out_of net.ends n) hs) (filter (goes_out_of net.ends n) hs)))
          ≡ cond b (amount single (want_of s h)) 0 + taken_at single net n (each (want_of s) hs)
      at true r = let a = length-append (f h) (flat_map f (filter (goes_out_of net.ends n) hs)) in let e = same h in omega (arith, a, r, e)
      at false r = omega (arith, r)

  keys_count : (n : ℕ) → length (all_keys n) ≡ all_taken st net l order n ss
  keys_count n =
      length_flat (session_keys n) ss
      ∙ sum_same (λ s. length (session_keys n s)) (λ s. taken_at false net n (hop_wants st net l s order)) ss
      (λ s. count_over false (over_keys s) s n (λ h. length-map (want st net l s h).rows (λ e. line_key (line_over s h e))) (hops_in s.group order))

  next_count : (n : ℕ) (s : Session) → length (all_next n s) ≡ taken_at true net n (hop_wants st net l s order)
  next_count n s = count_over true (over_next s) s n (λ h. length_one (want st net l s h).rows (to_next h)) (hops_in s.group order)

  -- ---- each once
  once_hops : (g : Addr) → NoRepeats (hops_in g order)
  once_hops g =
      once_each (λ (x : GroupHop). x.hop) (filter (λ (x : GroupHop). x.group.0 == g.0) order) (once_filter (λ (x : GroupHop). x.group.0 == g.0) order by.once)
      (λ x y i j e.
      let a = addr_same x.group g (in_filter (λ (x : GroupHop). x.group.0 == g.0) x order i).1 in
      let b = addr_same y.group g (in_filter (λ (x : GroupHop). x.group.0 == g.0) y order j).1 in
      let same = a ∙ sym b in
      λ k. record { group = same k; hop = e k })

  once_at : (s : Session) (n : ℕ) → NoRepeats (hops_at s n)
  once_at s n = once_filter (goes_out_of net.ends n) (hops_in s.group order) (once_hops s.group)

  in_net : (s : Session) (n : ℕ) (h : LinkHop) → In h (hops_at s n) → In h (hops_of net.hops s.group)
  in_net s n h i = from_hops net l order by s.group h (in_filter (goes_out_of net.ends n) h (hops_in s.group order) i).0

  one_hop : (s : Session) (n : ℕ) (h k : LinkHop) → In h (hops_at s n) → In k (hops_at s n) → to_next h ≡ to_next k → h ≡ k
  one_hop s n h k i j e =
      let a = end_there net.ends h.to (ends_inside net valid s.group h (in_net s n h i)).1 in
      let b = end_there net.ends k.to (ends_inside net valid s.group k (in_net s n k j)).1 in
      let from : h.from ≡ k.from = ap (λ (x : NextHop). x.0) e in
      let addr : a.0.iface.addr ≡ b.0.iface.addr = sym (ap addr_of_end a.2) ∙ ap (λ (x : NextHop). x.1) e ∙ ap addr_of_end b.2 in
      let to : h.to ≡ k.to = valid.one_address h.to k.to a.0 b.0 a.2 b.2 addr in
      λ z. record { from = from z; to = to z }

  once_keys : (n : ℕ) → NoRepeats (all_keys n)
  once_keys n =
      once_flat (session_keys n) ss once
      (λ s i.
      once_flat (over_keys s) (hops_at s n) (once_at s n)
      (λ h j.
      once_each (λ e. line_key (line_over s h e)) (want st net l s h).rows (once_rows units (want st net l s h).rows (want st net l s h).sorted)
      (λ a b k m e. one_row units (want st net l s h) a b k m (ap (λ (q : LineKey). q.1.1) e)))
      (λ h k z i j a b. one_hop s n h k i j (sym (next_in s h z a) ∙ next_in s k z b)))
      (λ s t z i j a b. sym (session_in n s z a) ∙ session_in n t z b)
    where
      next_in : (s : Session) (h : LinkHop) (z : LineKey) → In z (over_keys s h) → z.1.0 ≡ to_next h
      next_in s h z i = let r = in_each (λ e. line_key (line_over s h e)) z (want st net l s h).rows i in ap (λ (q : LineKey). q.1.0) r.2

      session_in : (n : ℕ) (s : Session) (z : LineKey) → In z (session_keys n s) → z.0 ≡ s
      session_in n s z i =
          let h = in_flat_map (over_keys s) z (hops_at s n) i in
          let r = in_each (λ e. line_key (line_over s h.0 e)) z (want st net l s h.0).rows h.2 in
          ap (λ (q : LineKey). q.0) r.2

  once_next : (n : ℕ) (s : Session) → NoRepeats (all_next n s)
  once_next n s =
      once_flat (over_next s) (hops_at s n) (once_at s n) (λ h j. once_one (want st net l s h).rows (to_next h))
      (λ h k z i j a b. one_hop s n h k i j (sym (in_one (want st net l s h).rows (to_next h) z a).0 ∙ (in_one (want st net l s k).rows (to_next k) z b).0))

  -- ---- the goal's lines of the style
  pub record IsOver (n : ℕ) (x : Line) : Type 0 where
    pub session : Session
    pub hop : LinkHop
    pub row : UnitOf × Part
    pub wanted : In session ss
    pub out : In hop (hops_at session n)
    pub there : In row (want st net l session hop).rows
    pub is : x ≡ line_over session hop row
    pub proper : In x (wants_lines st session net (hop_wants st net l session order))

  told : (n : ℕ) (x : Line) → In x (style_goal n) → IsOver n x
  told n x i =
      let f = in_filter (λ (x : Line). eq_by_cmp styles.cmp st x.style) x (goal net l n) i in
      let t = goal_told net l order by ss (λ s i. session_named l s ((these s).0 i)) (λ s i. (these s).1 (named_session l s i)) n x f.0 in
      let same : t.0 ≡ st = sym (tied_same styles st x.style f.1 ∙ t.2) in
      let j : In x (style_lines st net l order ss) = subst (λ (k : StyleKind). In x (style_lines k net l order ss)) same t.1 in
      let s = in_flat_map (λ s. wants_lines st s net (hop_wants st net l s order)) x ss j in
      let h = line_told net l order by st s.0 x s.2 in
      let e = in_each (line_over s.0 h.0) x (want st net l s.0 h.0).rows h.2 in
      let at : node_of net.ends h.0.from ≡ n = sym (ap (λ (y : Line). node_of net.ends y.end) e.2) ∙ t.3 in
      record {
        session = s.0;
        hop = h.0;
        row = e.0;
        wanted = s.1;
        out = to_filter (goes_out_of net.ends n) h.0 (hops_in s.0.group order) (to_hops net l order by s.0.group h.0 h.1) (number_same _ n at);
        there = e.1;
        is = e.2;
        proper = s.2;
      }

  made : (n : ℕ) (s : Session) (h : LinkHop) (e : UnitOf × Part) → In s ss → In h (hops_at s n) → In e (want st net l s h).rows → In (line_over s h e) (style_goal n)
  made n s h e i j k =
      let f = in_filter (goes_out_of net.ends n) h (hops_in s.group order) j in
      let x = line_made net l order by st s (line_over s h e) h (in_net s n h j) (to_each (line_over s h) e (want st net l s h).rows k) in
      let y = to_flat_map (λ s. wants_lines st s net (hop_wants st net l s order)) s (line_over s h e) ss i x in
      to_filter (λ (x : Line). eq_by_cmp styles.cmp st x.style) (line_over s h e) (goal net l n)
      (goal_made net l order by ss (λ s i. session_named l s ((these s).0 i)) (λ s i. (these s).1 (named_session l s i)) n st (line_over s h e) y (same_number _ n f.1)) (tied_self styles st)

  -- ---- lines
  keys_size : (n : ℕ) → size (line_keys_of (style_goal n)) ≡ all_taken st net l order n ss
  keys_size n =
      let a = set_below line_keys (each line_key (style_goal n)) (all_keys n)
      (λ k i.
      let x = in_each line_key k (style_goal n) i in
      let t = told n x.0 x.1 in
      to_flat_map (session_keys n) t.session k ss t.wanted
      (to_flat_map (over_keys t.session) t.hop k (hops_at t.session n) t.out
      (subst (λ (q : LineKey). In q (over_keys t.session t.hop)) (sym (x.2 ∙ ap line_key t.is))
      (to_each (λ e. line_key (line_over t.session t.hop e)) t.row (want st net l t.session t.hop).rows t.there)))) in
      let b = set_below line_keys (all_keys n) (each line_key (style_goal n))
      (λ k i.
      let s = in_flat_map (session_keys n) k ss i in
      let h = in_flat_map (over_keys s.0) k (hops_at s.0 n) s.2 in
      let e = in_each (λ e. line_key (line_over s.0 h.0 e)) k (want st net l s.0 h.0).rows h.2 in
      subst (λ (q : LineKey). In q (each line_key (style_goal n))) (sym e.2) (to_each line_key (line_over s.0 h.0 e.0) (style_goal n) (made n s.0 h.0 e.0 s.1 h.1 e.1))) in
      let c = size_once line_keys (all_keys n) (once_keys n) in
      let d = keys_count n in
      omega (arith, a, b, c, d)

  -- ---- next hops
  next_size : (n : ℕ) (s : Session) → In s ss → size (next_hops_of (of_session s (style_goal n))) ≡ taken_at true net n (hop_wants st net l s order)
  next_size n s wanted =
      let a = set_below next_hops (each next_hop (of_session s (style_goal n))) (all_next n s) forth in
      let b = set_below next_hops (all_next n s) (each next_hop (of_session s (style_goal n))) back in
      let c = size_once next_hops (all_next n s) (once_next n s) in
      let d = next_count n s in
      omega (arith, a, b, c, d)
    where
      over : (t : Session) (x : Line) (h : LinkHop) (e : UnitOf × Part) (k : NextHop) → t ≡ s → In h (hops_at t n) → In e (want st net l t h).rows → k ≡ to_next h → In k (all_next n s)
      over t x h e k same i j is =
          subst (λ (q : Session). In k (all_next n q)) same
          (to_flat_map (over_next t) h k (hops_at t n) i (subst (λ (q : NextHop). In q (over_next t h)) (sym is) (to_one (want st net l t h).rows e (to_next h) j)))

      forth : (k : NextHop) → In k (each next_hop (of_session s (style_goal n))) → In k (all_next n s)
      forth k i =
          let x = in_each next_hop k (of_session s (style_goal n)) i in
          let f = in_filter (λ (y : Line). eq_by_cmp sessions.cmp s y.session) x.0 (style_goal n) x.1 in
          let t = told n x.0 f.0 in
          let same : t.session ≡ s = sym (tied_same sessions s x.0.session f.1 ∙ ap (λ (y : Line). y.session) t.is) in
          over t.session x.0 t.hop t.row k same t.out t.there (x.2 ∙ ap next_hop t.is)

      back : (k : NextHop) → In k (all_next n s) → In k (each next_hop (of_session s (style_goal n)))
      back k i =
          let h = in_flat_map (over_next s) k (hops_at s n) i in
          let o = in_one (want st net l s h.0).rows (to_next h.0) k h.2 in
          let x = made n s h.0 o.1 wanted h.1 o.2 in
          subst (λ (q : NextHop). In q (each next_hop (of_session s (style_goal n)))) (sym o.0)
          (to_each next_hop (line_over s h.0 o.1) (of_session s (style_goal n)) (to_filter (λ (y : Line). eq_by_cmp sessions.cmp s y.session) (line_over s h.0 o.1) (style_goal n) x
          (tied_self sessions s)))

  -- a session without lines, or one of these
  none_or_wanted : (n : ℕ) (s : Session) (xs : List Line) → of_session s (style_goal n) ≡ xs → (xs ≡ []) ⊎ In s ss
  none_or_wanted n s [] e = inl refl
  none_or_wanted n s (x ∷ xs) e =
      let f = in_filter (λ (x : Line). eq_by_cmp sessions.cmp s x.session) x (style_goal n) (subst (λ (ys : List Line). In x ys) (sym e) (inl refl)) in
      let t = told n x f.0 in
      inr (subst (λ (q : Session). In q ss) (sym (tied_same sessions s x.session f.1 ∙ ap (λ (y : Line). y.session) t.is)) t.wanted)

  -- ---- names and sessions
  names_few : (n : ℕ) (s : Session) → size (names_of (of_session s (style_goal n))) ≤ 16
  names_few n s =
      let a = size_below senders (names_of (of_session s (style_goal n))) (all_names st l s) within in
      let b = size-set_of senders (each (name_of st) (live l s)) in
      let c = length-map (live l s) (name_of st) in
      let d = locals.few_senders s in
      omega (arith, a, b, c, d)
    where
      within : (z : Sender) → has (names_of (of_session s (style_goal n))) z ≡ true → has (all_names st l s) z ≡ true
      within z h =
          let x = in_flat_map (λ (x : Line). keys x.part.senders) z (of_session s (style_goal n))
          (set_of_in senders (flat_map (λ (x : Line). keys x.part.senders) (of_session s (style_goal n))) z h) in
          let f = in_filter (λ (x : Line). eq_by_cmp sessions.cmp s x.session) x.0 (style_goal n) x.1 in
          let t = told n x.0 f.0 in
          let same : x.0.session ≡ s = sym (tied_same sessions s x.0.session f.1) in
          let style : x.0.style ≡ st = ap (λ (y : Line). y.style) t.is in
          let p = proper_lines net l order by st t.session x.0 t.proper z (in_keys senders x.0.part.senders z x.2) in
          sym (λ i. has (all_names (style i) l (same i)) z) ∙ p

  sessions_few : (n : ℕ) → size (sessions_of (style_goal n)) ≤ 32
  sessions_few n =
      let a = set_below sessions (each (λ (x : Line). x.session) (style_goal n)) (each (λ (v : LocalWant). v.session) l.wants)
      (λ s i.
      let x = in_each (λ (x : Line). x.session) s (style_goal n) i in
      let t = told n x.0 x.1 in
      subst (λ (q : Session). In q (each (λ (v : LocalWant). v.session) l.wants)) (sym (x.2 ∙ ap (λ (y : Line). y.session) t.is)) ((these t.session).0 t.wanted)) in
      let b = locals.few_sessions in
      omega (arith, a, b)

  pub limits_found : FindRoom st net l order ss → (n : ℕ) → IsWithinLimits st (goal net l n)
  limits_found found n =
      record {
        lines = let a = keys_size n in let b = found.lines n in omega (arith, a, b);
        sessions = sessions_few n;
        next_hops = λ s.
            ⊎_elim (λ (e : of_session s (style_goal n) ≡ []). let z = ap (λ (xs : List Line). size (next_hops_of xs)) e in omega (arith, z))
            (λ (i : In s ss). let a = next_size n s i in let b = found.next_hops s n i in omega (arith, a, b))
            (none_or_wanted n s (of_session s (style_goal n)) refl);
        names = names_few n;
      }

  pub found_limits : ((n : ℕ) → IsWithinLimits st (goal net l n)) → FindRoom st net l order ss
  found_limits within =
      record {
        lines = λ n. let a = keys_size n in let b = (within n).lines in omega (arith, a, b);
        next_hops = λ s n i. let a = next_size n s i in let b = (within n).next_hops s in omega (arith, a, b);
      }
