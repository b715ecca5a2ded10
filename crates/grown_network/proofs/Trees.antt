-- The hops that lead away from a node grow a tree.
use Rattle.std.proofs.Common.{◌≡◌, ◌⊎◌, ℕ, ◌+◌, ◌<◌, ◌≤◌, zero, suc, Bool, true, false, cond, List, [], ◌∷◌, ◌++◌, Some, refl, sym, ap, subst, ◌∙◌, inl, inr, ⊎_elim, arith, append_assoc}
use Rattle.std.specs.Prelude.{map as each, not, ◌==◌}
use Rattle.std.specs.List.{filter, range_with_len}
use Rattle.std.proofs.lemmas.Bool.{cases_lt}
use Rattle.rsvp_base.specs.declared.addr.Addr.{Addr}
use Rattle.rsvp_base.specs.Members.{In}
use Rattle.rsvp_base.proofs.Members.{in_all, in_append, in_each, in_left, in_right, to_each}
use Rattle.tree_model.specs.declared.hops.LinkHop.{LinkHop}
use Rattle.tree_model.specs.declared.hops.TreeHop.{TreeHop}
use Rattle.tree_model.specs.Networks.{Net, among, node_of, owner}
use Rattle.tree_model.specs.Trees.{Grows, IsGrown, IsGrownFrom, is_reached, sends_alone}
use Rattle.tree_model.proofs.Following.{number_same}
use Rattle.tree_model.proofs.Links.{among_in, in_among}
use Rattle.tree_model.proofs.TreeLaws.{Leads, reached_told, reached_tested}
use Rattle.grown_network.specs.Grown.{net_with}
use Rattle.grown_network.specs.Hops.{climb, hop_down, hop_up, hops_away, hops_down, way_up}
use Rattle.grown_network.specs.Nodes.{above, down_end, ends_up_to, home, links_up_to, up_end}
use Rattle.grown_network.proofs.Climbs.{way_above, way_below, way_ends, way_within}
use Rattle.grown_network.proofs.Links.{alone_other, linked_down, linked_up, node_down, node_up, number_other, owner_of_home}

-- ---- grown lists
pub grown_append : (net : Net) (s : Addr) (before xs ys : List LinkHop) → IsGrownFrom net s before xs → IsGrownFrom net s (before ++ xs) ys → IsGrownFrom net s before (xs ++ ys)
grown_append net s before [] ys g h = subst (λ (zs : List LinkHop). IsGrownFrom net s zs ys) (none before) h
  where
    none : (xs : List LinkHop) → xs ++ [] ≡ xs
    none [] = refl
    none (x ∷ xs) = ap (λ (zs : List LinkHop). x ∷ zs) (none xs)
grown_append net s before (x ∷ xs) ys g h =
    (g.0, grown_append net s (before ++ x ∷ []) xs ys g.1 (subst (λ (zs : List LinkHop). IsGrownFrom net s zs ys) (sym (append_assoc before (x ∷ []) xs)) h))

-- each hop of a grown list grows those before it
pub grows_at : (net : Net) (s : Addr) (before xs : List LinkHop) (h : LinkHop) (ys : List LinkHop) → IsGrownFrom net s before (xs ++ h ∷ ys) → Grows net s (before ++ xs) h
grows_at net s before [] h ys g = subst (λ (zs : List LinkHop). Grows net s zs h) (sym (none before)) g.0
  where
    none : (xs : List LinkHop) → xs ++ [] ≡ xs
    none [] = refl
    none (x ∷ xs) = ap (λ (zs : List LinkHop). x ∷ zs) (none xs)
grows_at net s before (x ∷ xs) h ys g = subst (λ (zs : List LinkHop). Grows net s zs h) (append_assoc before (x ∷ []) xs) (grows_at net s (before ++ x ∷ []) xs h ys g.1)

-- ---- a hop more
not_reached : (s : Addr) (hs : List LinkHop) (m : ℕ) → (Leads (ends_up_to 63) s hs m → ⊥) → is_reached (ends_up_to 63) s hs m ≡ false
not_reached s hs m never = by (is_reached (ends_up_to 63) s hs m) refl
  where
    by : (b : Bool) → is_reached (ends_up_to 63) s hs m ≡ b → is_reached (ends_up_to 63) s hs m ≡ false
    by true e = absurd (never (reached_told (ends_up_to 63) s hs m e))
    by false e = e

-- what a hop more leads to
leads_more : (s : Addr) (hs : List LinkHop) (h : LinkHop) (n m : ℕ) → node_of (ends_up_to 63) h.to ≡ n → Leads (ends_up_to 63) s (hs ++ h ∷ []) m → Leads (ends_up_to 63) s hs m ⊎ (m ≡ n)
leads_more s hs h n m to (inl e) = inl (inl e)
leads_more s hs h n m to (inr x) =
    ⊎_elim (λ (i : In x.0 hs). inl (inr (x.0, i, x.2)))
    (λ (i : In x.0 (h ∷ [])). ⊎_elim (λ (e : x.0 ≡ h). inr (sym x.2 ∙ ap (λ (y : LinkHop). node_of (ends_up_to 63) y.to) e ∙ to)) (λ (none : ⊥). absurd none) i)
    (in_append x.0 hs (h ∷ []) x.1)

leads_old : (s : Addr) (hs : List LinkHop) (h : LinkHop) (m : ℕ) → Leads (ends_up_to 63) s hs m → Leads (ends_up_to 63) s (hs ++ h ∷ []) m
leads_old s hs h m (inl e) = inl e
leads_old s hs h m (inr x) = inr (x.0, in_left x.0 hs (h ∷ []) x.1, x.2)

leads_new : (s : Addr) (hs : List LinkHop) (h : LinkHop) (n : ℕ) → node_of (ends_up_to 63) h.to ≡ n → Leads (ends_up_to 63) s (hs ++ h ∷ []) n
leads_new s hs h n to = inr (h, in_right h hs (h ∷ []) (inl refl), to)

-- ---- up: so far the way leads to node k and to others above it in number, by hops up from these
module _ (trees : List TreeHop) (s : Addr) where
  record Rises (k : ℕ) (hs : List LinkHop) : Type 0 where
    pub here : Leads (ends_up_to 63) s hs k
    pub least : (m : ℕ) → Leads (ends_up_to 63) s hs m → k ≤ m
    pub ups : (x : LinkHop) → In x hs → (j : ℕ) × (k < j) × (j < 64) × (x ≡ hop_up j)

  rises_by : (k : ℕ) (hs : List LinkHop) → 1 ≤ k → k < 64 → Rises k hs → Grows (net_with trees) s hs (hop_up k)
  rises_by k hs lo hi so = record {
    linked = linked_up k lo hi;
    from_reached = ap (is_reached (ends_up_to 63) s hs) (node_up 63 k lo (omega arith)) ∙ reached_tested (ends_up_to 63) s hs k so.here;
    to_new =
        ap (is_reached (ends_up_to 63) s hs) (node_down 63 k lo (omega arith))
        ∙ not_reached s hs (above k) (λ leads. let le = so.least (above k) leads in omega (arith, le));
    alone = in_all (sends_alone (links_up_to 63) (up_end k)) hs
        (λ x i. let j = so.ups x i in let more = j.1 in alone_other j.0 k (up_end k) x (omega (arith, more)) lo hi (λ same. omega (arith, more)) (inr refl) (inr (ap (λ (y : LinkHop). y.from) j.3)));
  }

  rises_more : (k : ℕ) (hs : List LinkHop) → 1 ≤ k → k < 64 → Rises k hs → Rises (above k) (hs ++ hop_up k ∷ [])
  rises_more k hs lo hi so = record {
    here = leads_new s hs (hop_up k) (above k) (node_down 63 k lo (omega arith));
    least = λ m leads. ⊎_elim (λ (old : Leads (ends_up_to 63) s hs m). let le = so.least m old in omega (arith, le)) (λ (e : m ≡ above k). omega (arith, e))
        (leads_more s hs (hop_up k) (above k) m (node_down 63 k lo (omega arith)) leads);
    ups = λ x i.
        ⊎_elim (λ (old : In x hs). let j = so.ups x old in let more = j.1 in (j.0, omega (arith, more), j.2, j.3))
        (λ (new : In x (hop_up k ∷ [])). ⊎_elim (λ (e : x ≡ hop_up k). (k, omega arith, hi, e)) (λ (none : ⊥). absurd none) new) (in_append x hs (hop_up k ∷ []) i);
  }

  up_grown : (n k : ℕ) (hs : List LinkHop) → k < 64 → Rises k hs → IsGrownFrom (net_with trees) s hs (each hop_up (climb n k))
  up_grown zero k hs hi so = tt
  up_grown (suc n) k hs hi so =
      ⊎_elim
      (λ (h : 0 < k).
      let ne : (k == 0) ≡ false = number_other k 0 (λ same. omega arith) in
      rw ne (rises_by k hs (omega arith) hi so, up_grown n (above k) (hs ++ hop_up k ∷ []) (omega arith) (rises_more k hs (omega arith) hi so)))
      (λ (h : k ≤ 0). let is : (k == 0) ≡ true = number_same k 0 (omega arith) in rw is tt)
      (cases_lt 0 k)

-- ---- down: so far the hops lead to the nodes of the way up and to those below s in number
module _ (trees : List TreeHop) (r : ℕ) (lt : r < 64) where
  record Falls (s : ℕ) (hs : List LinkHop) : Type 0 where
    pub lower : (m : ℕ) → m < s → Leads (ends_up_to 63) (home r) hs m
    pub way : (m : ℕ) → In m (way_up r) → Leads (ends_up_to 63) (home r) hs m
    pub rest : (m : ℕ) → Leads (ends_up_to 63) (home r) hs m → (m < s) ⊎ In m (way_up r)
    pub hops : (x : LinkHop) → In x hs → (j : ℕ) × (1 ≤ j) × ((In j (way_up r) × (x ≡ hop_up j)) ⊎ ((j < s) × (x ≡ hop_down j)))

  -- a node of the way: nothing is added for it
  falls_past : (s : ℕ) (hs : List LinkHop) → In s (way_up r) → Falls s hs → Falls (s + 1) hs
  falls_past s hs i so = record {
    lower = λ m less. ⊎_elim (λ (h : m < s). so.lower m h) (λ (h : s ≤ m). let e : m ≡ s = omega arith in subst (λ (k : ℕ). Leads (ends_up_to 63) (home r) hs k) (sym e) (so.way s i)) (cases_lt m s);
    way = so.way;
    rest = λ m leads. ⊎_elim (λ (h : m < s). inl (omega arith)) (λ (j : In m (way_up r)). inr j) (so.rest m leads);
    hops = λ x j.
        let k = so.hops x j in
        (k.0, k.1, ⊎_elim (λ (u : In k.0 (way_up r) × (x ≡ hop_up k.0)). inl u) (λ (d : (k.0 < s) × (x ≡ hop_down k.0)). let less = d.0 in inr (omega (arith, less), d.1)) k.2);
  }

  falls_by : (s : ℕ) (hs : List LinkHop) → 1 ≤ s → s < 64 → (In s (way_up r) → ⊥) → Falls s hs → Grows (net_with trees) (home r) hs (hop_down s)
  falls_by s hs lo hi off so = record {
    linked = linked_down s lo hi;
    from_reached = ap (is_reached (ends_up_to 63) (home r) hs) (node_down 63 s lo (omega arith)) ∙ reached_tested (ends_up_to 63) (home r) hs (above s) (so.lower (above s) (omega arith));
    to_new =
        ap (is_reached (ends_up_to 63) (home r) hs) (node_up 63 s lo (omega arith))
        ∙ not_reached (home r) hs s (λ leads. ⊎_elim (λ (h : s < s). omega arith) (λ (i : In s (way_up r)). off i) (so.rest s leads));
    alone = in_all (sends_alone (links_up_to 63) (down_end s)) hs
        (λ x i.
        let j = so.hops x i in
        ⊎_elim
        (λ (u : In j.0 (way_up r) × (x ≡ hop_up j.0)). alone_other j.0 s (down_end s) x j.1 lo hi (λ same. off (subst (λ (k : ℕ). In k (way_up r)) (sym same) u.0)) (inl refl)
        (inr (ap (λ (y : LinkHop). y.from) u.1)))
        (λ (d : (j.0 < s) × (x ≡ hop_down j.0)). let less = d.0 in alone_other j.0 s (down_end s) x j.1 lo hi (λ same. omega (arith, less, same)) (inl refl)
        (inl (ap (λ (y : LinkHop). y.from) d.1))) j.2);
  }

  falls_more : (s : ℕ) (hs : List LinkHop) → 1 ≤ s → s < 64 → Falls s hs → Falls (s + 1) (hs ++ hop_down s ∷ [])
  falls_more s hs lo hi so = record {
    lower = λ m less.
        ⊎_elim (λ (h : m < s). leads_old (home r) hs (hop_down s) m (so.lower m h))
        (λ (h : s ≤ m). let e : m ≡ s = omega arith in subst (λ (k : ℕ). Leads (ends_up_to 63) (home r) (hs ++ hop_down s ∷ []) k) (sym e)
        (leads_new (home r) hs (hop_down s) s (node_up 63 s lo (omega arith)))) (cases_lt m s);
    way = λ m i. leads_old (home r) hs (hop_down s) m (so.way m i);
    rest = λ m leads.
        ⊎_elim (λ (old : Leads (ends_up_to 63) (home r) hs m). ⊎_elim (λ (h : m < s). inl (omega arith)) (λ (j : In m (way_up r)). inr j) (so.rest m old)) (λ (e : m ≡ s). inl (omega (arith, e)))
        (leads_more (home r) hs (hop_down s) s m (node_up 63 s lo (omega arith)) leads);
    hops = λ x i.
        ⊎_elim
        (λ (old : In x hs).
        let k = so.hops x old in
        (k.0, k.1, ⊎_elim (λ (u : In k.0 (way_up r) × (x ≡ hop_up k.0)). inl u) (λ (d : (k.0 < s) × (x ≡ hop_down k.0)). let less = d.0 in inr (omega (arith, less), d.1)) k.2))
        (λ (new : In x (hop_down s ∷ [])). ⊎_elim (λ (e : x ≡ hop_down s). (s, lo, inr (omega arith, e))) (λ (none : ⊥). absurd none) new) (in_append x hs (hop_down s ∷ []) i);
  }

  down_grown : (n s : ℕ) (hs : List LinkHop) → 1 ≤ s → s + n ≡ 64 → Falls s hs → IsGrownFrom (net_with trees) (home r) hs (each hop_down (filter (λ k. not (among k (way_up r))) (range_with_len s n)))
  down_grown zero s hs lo all so = tt
  down_grown (suc n) s hs lo all so = by (λ more next. down_grown n (s + 1) more (omega arith) (omega arith) next) (among s (way_up r)) refl
    where
      by : ((more : List LinkHop) → Falls (s + 1) more → IsGrownFrom (net_with trees) (home r) more (each hop_down (filter (λ k. not (among k (way_up r))) (range_with_len (s + 1) n))))
          → (b : Bool) → among s (way_up r) ≡ b
          → IsGrownFrom (net_with trees) (home r) hs (each hop_down (cond (not b) (s ∷ filter (λ k. not (among k (way_up r))) (range_with_len (s + 1) n))
          (filter (λ k. not (among k (way_up r))) (range_with_len (s + 1) n))))
      by further true t = further hs (falls_past s hs (among_in s (way_up r) t) so)
      by further false t = (
        falls_by s hs lo (omega arith) (λ i. let both : true ≡ false = sym (in_among s (way_up r) i) ∙ t in absurd (cc)) so,
        further (hs ++ hop_down s ∷ []) (falls_more s hs lo (omega arith) so),
      )

  -- ---- both
  rises_first : Rises trees (home r) r []
  rises_first = record {
    here = inl (owner_of_home r lt);
    least = λ m leads. ⊎_elim (λ (e : owner (ends_up_to 63) (home r) ≡ Some m). let same : r ≡ m = some_same r m (sym (owner_of_home r lt) ∙ e) in omega (arith, same))
        (λ (x : (h : LinkHop) × In h [] × (node_of (ends_up_to 63) h.to ≡ m)). absurd x.1) leads;
    ups = λ x i. absurd i;
  }
    where
      some_same : (a b : ℕ) → Some a ≡ Some b → a ≡ b
      some_same a b e = cc

  falls_first : Falls 1 (each hop_up (way_up r))
  falls_first = record {
    lower = λ m less. let z : m ≡ 0 = omega arith in subst (λ (k : ℕ). Leads (ends_up_to 63) (home r) (each hop_up (way_up r)) k) (sym z) top;
    way = on_way;
    rest = λ m leads. told m leads;
    hops = λ x i. let j = in_each hop_up x (way_up r) i in (j.0, (way_within r lt j.0 j.1).0, inl (j.1, j.2));
  }
    where
      over : (i : ℕ) → In i (way_up r) → Leads (ends_up_to 63) (home r) (each hop_up (way_up r)) (above i)
      over i j = let within = way_within r lt i j in let lo = within.0 in let hi = within.1 in inr (hop_up i, to_each hop_up i (way_up r) j, node_down 63 i lo (omega (arith, hi)))

      top : Leads (ends_up_to 63) (home r) (each hop_up (way_up r)) 0
      top =
          ⊎_elim (λ (z : r ≡ 0). inl (owner_of_home r lt ∙ ap (λ k. Some k) z))
          (λ (k : In r (way_up r) × ((i : ℕ) × In i (way_up r) × (above i ≡ 0))). subst (λ (m : ℕ). Leads (ends_up_to 63) (home r) (each hop_up (way_up r)) m) k.1.2 (over k.1.0 k.1.1)) (way_ends r lt)

      on_way : (m : ℕ) → In m (way_up r) → Leads (ends_up_to 63) (home r) (each hop_up (way_up r)) m
      on_way m i =
          ⊎_elim (λ (e : m ≡ r). inl (owner_of_home r lt ∙ ap (λ k. Some k) (sym e)))
          (λ (k : (i : ℕ) × In i (way_up r) × (above i ≡ m)). subst (λ (n : ℕ). Leads (ends_up_to 63) (home r) (each hop_up (way_up r)) n) k.2 (over k.0 k.1)) (way_below r lt m i)

      told : (m : ℕ) → Leads (ends_up_to 63) (home r) (each hop_up (way_up r)) m → (m < 1) ⊎ In m (way_up r)
      told m (inl e) =
          let same : r ≡ m = some_same r m (sym (owner_of_home r lt) ∙ e) in
          ⊎_elim (λ (z : r ≡ 0). inl (omega arith)) (λ (k : In r (way_up r) × ((i : ℕ) × In i (way_up r) × (above i ≡ 0))). inr (subst (λ (n : ℕ). In n (way_up r)) same k.0)) (way_ends r lt)
        where
          some_same : (a b : ℕ) → Some a ≡ Some b → a ≡ b
          some_same a b e = cc
      told m (inr x) =
          let j = in_each hop_up x.0 (way_up r) x.1 in
          let within = way_within r lt j.0 j.1 in
          let lo = within.0 in
          let hi = within.1 in
          let at : above j.0 ≡ m = sym (node_down 63 j.0 lo (omega (arith, hi))) ∙ ap (λ (y : LinkHop). node_of (ends_up_to 63) y.to) (sym j.2) ∙ x.2 in
          ⊎_elim (λ (z : above j.0 ≡ 0). inl (omega (arith, at, z))) (λ (k : In (above j.0) (way_up r)). inr (subst (λ (n : ℕ). In n (way_up r)) at k)) (way_above r lt j.0 j.1)

  ups_grown : IsGrownFrom (net_with trees) (home r) [] (each hop_up (way_up r))
  unfolding way_up
  ups_grown = up_grown trees (home r) 6 r [] lt rises_first

  pub grown : IsGrown (net_with trees) (home r) (hops_away r)
  unfolding hops_away hops_down
  grown =
      grown_append (net_with trees) (home r) [] (each hop_up (way_up r)) (each hop_down (filter (λ k. not (among k (way_up r))) (range_with_len 1 63))) ups_grown
      (down_grown 63 1 (each hop_up (way_up r)) (omega arith) (omega arith) falls_first)
