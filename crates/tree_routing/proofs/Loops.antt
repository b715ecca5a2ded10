-- A new hop closes a chain exactly where edges lead from it to the hop before it in its tree.
use Rattle.std.specs.Prelude.{◌≡◌, ◌⊎◌, ℕ, ◌<◌, ◌≤◌, List, [], ◌∷◌, ◌++◌, Some, Result, Ok, Err, refl}
use Rattle.std.proofs.Common.{sym, ap, subst, ◌∙◌, inl, inr, ⊎_elim, arith}
use Rattle.rsvp_base.specs.Members.{In}
use Rattle.rsvp_base.specs.declared.addr.Addr.{Addr}
use Rattle.rsvp_base.proofs.Members.{in_each, to_each, in_append, in_left, in_right}
use Rattle.tree_model.specs.declared.hops.End.{End}
use Rattle.tree_model.specs.declared.hops.LinkHop.{LinkHop}
use Rattle.tree_model.specs.declared.hops.TreeHop.{TreeHop}
use Rattle.tree_model.specs.Networks.{Net, node_of}
use Rattle.tree_model.specs.Trees.{tree, hops_of}
use Rattle.tree_model.specs.Chains.{last_of, Chain}
use Rattle.tree_model.specs.Ranks.{Follows, followers, IsLoopFreeIn, IsOnLoop, rank}
use Rattle.tree_model.specs.Valid.{IsValid}
use Rattle.tree_model.proofs.Following.{in_tree, to_tree, in_group, to_group, tree_group, follower_follows, follows_follower}
use Rattle.tree_model.proofs.TreeLaws.{Leads, from_leads, reached_told, reached_tested, true_false, one}
use Rattle.tree_model.proofs.RankLaws.{rank_falls_at}
use Rattle.tree_routing.specs.declared.known.Known.{Known}
use Rattle.tree_routing.specs.declared.link.Link.{Link}
use Rattle.tree_routing.specs.Known.{plain, net_of, is_pair, vertex_at, vertex_before, AreKnown}
use Rattle.tree_routing.specs.Walks.{Steps, Walk, Edge}
use Rattle.tree_routing.specs.Walks as walks
use Rattle.tree_routing.specs.declared.hop_err.HopErr.{HopErr}
use Rattle.tree_routing.specs.declared.hop_err.HopErr.TheVariants.{NotTree, Loop, NoMemory}
use Rattle.tree_routing.specs.Answers.{with_hop, Fits, IsUpTo, IsLeastOnLoop, HopAnswer}
use Rattle.tree_routing.specs.Checks.{IsBetween, Closes, IsLeastBetween, LoopAnswer}
use Rattle.tree_routing.proofs.LevelLaws.{edge_of}
use Rattle.tree_routing.proofs.MarkLaws.{walk_none, walk_step, walk_on}
use Rattle.tree_routing.proofs.Vertices.{place_kept, place_new, pair_made, pair_itself, one_pair, tree_known, known_tree, comes_told, comes_made, before_told, before_found}

-- ---- walks of which each step is old, or goes by the way of a new one
module _ {A : Type 0} (Old New : A → A → Type 0) (IsBefore : A → Type 0) (new : A) (split : (a b : A) → New a b → Old a b ⊎ (IsBefore a × (b ≡ new))) where
  -- all steps are old, or the walk goes by old steps to the new one, and from there by old steps to its end
  record Through (a b : A) : Type 0 where
    before : A
    is : IsBefore before
    to : Walk Old a before
    from : Walk Old new b

  through : (a : A) (c : List A) → Steps New a c → Steps Old a c ⊎ Through a (last_of a c)
  through a [] steps = inl tt
  through a (b ∷ bs) steps = by (split a b steps.0) (through b bs steps.1)
    where
      by : Old a b ⊎ (IsBefore a × (b ≡ new)) → Steps Old b bs ⊎ Through b (last_of b bs) → Steps Old a (b ∷ bs) ⊎ Through a (last_of b bs)
      by (inl o) (inl rest) = inl (o, rest)
      by (inl o) (inr t) = inr (record { before = t.before; is = t.is; to = walk_step Old a b t.before o t.to; from = t.from })
      by (inr n) (inl rest) = inr (record { before = a; is = n.0; to = walk_none Old a; from = subst (λ (x : A). Walk Old x (last_of b bs)) n.1 (record { path = bs; steps = rest; ends = refl }) })
      by (inr n) (inr t) = inr (record { before = a; is = n.0; to = walk_none Old a; from = t.from })

  -- where old steps fall, a walk that comes back goes through the new step
  module _ (height : A → ℕ) (falls : (a b : A) → Old a b → height b < height a) where
    old_falls : (a : A) (c : List A) → Steps Old a c → height (last_of a c) ≤ height a
    old_falls a [] steps = omega arith
    old_falls a (b ∷ bs) steps = let r = old_falls b bs steps.1 in let f = falls a b steps.0 in omega arith

    back : (x y : A) (c : List A) → Steps New x (y ∷ c) → last_of y c ≡ x → Through x x
    back x y c steps ends = by (through x (y ∷ c) steps)
      where
        by : Steps Old x (y ∷ c) ⊎ Through x (last_of y c) → Through x x
        by (inl o) = let f = falls x y o.0 in let r = old_falls y c o.1 in let e = ap height ends in absurd (omega arith)
        by (inr t) = subst (λ (z : A). Through x z) ends t

-- ---- walks round a closed list
module _ {A : Type 0} (S : A → A → Type 0) where
  -- a walk by way of one of its own, cut there
  pub record Cut (h : A) (c : List A) (x : A) : Type 0 where
    pub to : Walk S h x
    pub from : Walk S x (last_of h c)

  pub cut : (h : A) (c : List A) → Steps S h c → (x : A) → In x (h ∷ c) → Cut h c x
  cut h c steps x (inl e) = record {
    to = subst (λ (z : A). Walk S h z) (sym e) (walk_none S h);
    from = subst (λ (z : A). Walk S z (last_of h c)) (sym e)
        (record { path = c; steps = steps; ends = refl });
  }
  cut h [] steps x (inr i) = absurd i
  cut h (y ∷ ys) steps x (inr i) = let r = cut y ys steps.1 x i in record { to = walk_step S h y x steps.0 r.to; from = r.from }

  -- a walk that begins with a step
  pub record Round (x : A) : Type 0 where
    pub next : A
    pub rest : List A
    pub steps : Steps S x (next ∷ rest)
    pub ends : last_of next rest ≡ x

  pub round_of : (x z h : A) → Walk S x z → S z h → Walk S h x → Round x
  round_of x z h w s back = by w.path w.steps w.ends
    where
      go : (y : A) (path : List A) → Steps S y path → last_of y path ≡ z → Walk S y x
      go y [] steps e = subst (λ (a : A). Walk S a x) (sym e) (walk_step S z h x s back)
      go y (a ∷ more) steps e = walk_step S y a x steps.0 (go a more steps.1 e)

      by : (path : List A) → Steps S x path → last_of x path ≡ z → Round x
      by [] steps e = record { next = h; rest = back.path; steps = (subst (λ (a : A). S a h) (sym e) s, back.steps); ends = back.ends }
      by (a ∷ more) steps e = let r = go a more steps.1 e in record { next = a; rest = r.path; steps = (steps.0, r.steps); ends = r.ends }

-- ---- chains as walks
module _ (net : Net) (g : Addr) where
  pub chain_steps : (h : LinkHop) (c : List LinkHop) → Chain (followers net g) (hops_of net.hops g) (h ∷ c) → Steps (Follows net g) h c
  chain_steps h [] chain = tt
  chain_steps h (y ∷ ys) chain = (follower_follows net g h y chain.1, chain_steps y ys chain.2)

  pub chain_all : (c : List LinkHop) → Chain (followers net g) (hops_of net.hops g) c → (x : LinkHop) → In x c → In x (hops_of net.hops g)
  chain_all [] chain x i = absurd i
  chain_all (h ∷ []) chain x i = ⊎_elim (λ (e : x ≡ h). subst (λ (a : LinkHop). In a (hops_of net.hops g)) (sym e) chain) (λ (j : ⊥). absurd j) i
  chain_all (h ∷ y ∷ ys) chain x i = ⊎_elim (λ (e : x ≡ h). subst (λ (a : LinkHop). In a (hops_of net.hops g)) (sym e) chain.0) (λ (j : In x (y ∷ ys)). chain_all (y ∷ ys) chain.2 x j) i

  pub steps_chain : (h : LinkHop) (c : List LinkHop) → In h (hops_of net.hops g) → Steps (Follows net g) h c → Chain (followers net g) (hops_of net.hops g) (h ∷ c)
  steps_chain h [] i steps = i
  steps_chain h (y ∷ ys) i steps = (i, follows_follower net g h y steps.0, steps_chain y ys (tree_group net.hops g steps.0.source y steps.0.second) steps.1)

-- ---- the network with a new hop
module _ (nodes : ℕ) (ends : List End) (links : List Link) (ks : List Known) (valid : IsValid (net_of nodes ends links ks)) (known : AreKnown ends ks)
    (new : Known) (vertex : new.vertex ≡ vertex_at ks new.hop.group new.hop.hop) (before : new.before ≡ vertex_before ends new.hop ks) (fits : Fits (net_of nodes ends links ks) new.hop) where
  abbrev net : Net
  net = net_of nodes ends links ks

  abbrev more : Net
  more = with_hop net new.hop

  abbrev g : Addr
  g = new.hop.group

  -- what comes before the new hop in its tree
  abbrev IsBefore : LinkHop → Type 0
  IsBefore x = In x (tree (plain ks) g new.hop.source) × (node_of ends x.to ≡ node_of ends new.hop.hop.from)

  abbrev Old : LinkHop → LinkHop → Type 0
  Old a b = Follows net g a b

  abbrev New : LinkHop → LinkHop → Type 0
  New a b = Follows more g a b

  -- a hop of a tree of the new network is of the old one, or is the new one
  new_tree : (s : Addr) (x : LinkHop) → In x (tree more.hops g s) → In x (tree (plain ks) g s) ⊎ ((x ≡ new.hop.hop) × (s ≡ new.hop.source))
  new_tree s x i =
      let r = in_tree more.hops g s x i in
      ⊎_elim
      (λ (j : In r.0 (plain ks)).
      inl (subst (λ (a : Addr). In x (tree (plain ks) a s)) r.2 (subst (λ (a : Addr). In x (tree (plain ks) r.0.group a)) r.3
      (subst (λ (y : LinkHop). In y (tree (plain ks) r.0.group r.0.source)) r.4 (to_tree (plain ks) r.0 j)))))
      (λ (j : In r.0 (new.hop ∷ [])). ⊎_elim (λ (e : r.0 ≡ new.hop). inr (sym r.4 ∙ ap (λ (q : TreeHop). q.hop) e, sym r.3 ∙ ap (λ (q : TreeHop). q.source) e)) (λ (j : ⊥). absurd j) j)
      (in_append r.0 (plain ks) (new.hop ∷ []) r.1)

  -- the node into which the new hop goes was not reached
  fresh : Leads ends new.hop.source (tree (plain ks) g new.hop.source) (node_of ends new.hop.hop.to) → ⊥
  fresh l = true_false _ (reached_tested ends new.hop.source (tree (plain ks) g new.hop.source) (node_of ends new.hop.hop.to) l) fits.to_new

  leaves : Leads ends new.hop.source (tree (plain ks) g new.hop.source) (node_of ends new.hop.hop.from)
  leaves = reached_told ends new.hop.source (tree (plain ks) g new.hop.source) (node_of ends new.hop.hop.from) fits.from_reached

  apart : node_of ends new.hop.hop.from ≡ node_of ends new.hop.hop.to → ⊥
  apart e = fresh (subst (λ (n : ℕ). Leads ends new.hop.source (tree (plain ks) g new.hop.source) n) e leaves)

  split : (a b : LinkHop) → New a b → Old a b ⊎ (IsBefore a × (b ≡ new.hop.hop))
  split a b f = by (new_tree f.source a f.first) (new_tree f.source b f.second)
    where
      by : In a (tree (plain ks) g f.source) ⊎ ((a ≡ new.hop.hop) × (f.source ≡ new.hop.source)) → In b (tree (plain ks) g f.source) ⊎ ((b ≡ new.hop.hop) × (f.source ≡ new.hop.source))
          → Old a b ⊎ (IsBefore a × (b ≡ new.hop.hop))
      by (inl i) (inl j) = inl (record { source = f.source; first = i; second = j; meet = f.meet })
      by (inl i) (inr n) = inr ((subst (λ (s : Addr). In a (tree (plain ks) g s)) n.1 i, sym f.meet ∙ ap (λ (x : LinkHop). node_of ends x.from) n.0), n.0)
      by (inr n) (inl j) =
          let from = from_leads net f.source [] (tree (plain ks) g f.source) (valid.grown g f.source) b j in
          absurd (fresh (subst (λ (m : ℕ). Leads ends new.hop.source (tree (plain ks) g new.hop.source) m) (f.meet ∙ ap (λ (x : LinkHop). node_of ends x.to) n.0)
          (subst (λ (s : Addr). Leads ends s (tree (plain ks) g s) (node_of ends b.from)) n.1 from)))
      by (inr n) (inr m) = absurd (apart (sym (ap (λ (x : LinkHop). node_of ends x.from) m.0) ∙ f.meet ∙ ap (λ (x : LinkHop). node_of ends x.to) n.0))

  -- what followed still follows
  old_new : (a b : LinkHop) → Old a b → New a b
  old_new a b f =
      record { source = f.source; first = more_tree f.source a f.first; second = more_tree f.source b f.second; meet = f.meet }
    where
      more_tree : (s : Addr) (x : LinkHop) → In x (tree (plain ks) g s) → In x (tree more.hops g s)
      more_tree s x i =
          let r = in_tree (plain ks) g s x i in
          subst (λ (a : Addr). In x (tree more.hops a s)) r.2 (subst (λ (a : Addr). In x (tree more.hops r.0.group a)) r.3
          (subst (λ (y : LinkHop). In y (tree more.hops r.0.group r.0.source)) r.4 (to_tree more.hops r.0 (in_left r.0 (plain ks) (new.hop ∷ []) r.1))))

  -- ---- vertices
  abbrev v : LinkHop → ℕ
  v x = vertex_at ks g x

  abbrev all : List Known
  all = ks ++ new ∷ []

  -- what is kept of a hop, the new one among them
  abbrev Kept : LinkHop → Type 0
  Kept x = (k : Known) × In k all × (k.hop.group ≡ g) × (k.hop.hop ≡ x)

  pub kept_old : (k : Known) → In k ks → k.hop.group ≡ g → Kept k.hop.hop
  kept_old k i e = (k, in_left k ks (new ∷ []) i, e, refl)

  pub kept_new : Kept new.hop.hop
  kept_new = (new, in_right new ks (new ∷ []) (inl refl), refl, refl)

  kept_at : (x : LinkHop) → Kept x → vertex_at all g x ≡ v x
  kept_at x k =
      let is = pair_made g x k.0 k.2 k.3 in
      ⊎_elim (λ (i : In k.0 ks). place_kept (is_pair g x) ks (new ∷ []) k.0 i is)
      (λ (i : In k.0 (new ∷ [])). ⊎_elim (λ (e : k.0 ≡ new). place_new (is_pair g x) ks new (ap (is_pair g x) (sym e) ∙ is)) (λ (j : ⊥). absurd j) i) (in_append k.0 ks (new ∷ []) k.1)

  kept_vertex : (x : LinkHop) (k : Known) → In k ks → k.hop.group ≡ g → k.hop.hop ≡ x → k.vertex ≡ v x
  kept_vertex x k i e f = (known k i).vertex ∙ ap (λ (a : Addr). vertex_at ks a k.hop.hop) e ∙ ap (λ (y : LinkHop). vertex_at ks g y) f

  same_kept : (x y : LinkHop) → Kept x → Kept y → v x ≡ v y → x ≡ y
  same_kept x y k l e =
      (one_pair all k.0 k.1 g g x y (pair_made g x k.0 k.2 k.3) l.0 l.1 (pair_made g y l.0 l.2 l.3) (kept_at x k ∙ e ∙ sym (kept_at y l))).1

  -- a hop that is kept is at the vertex of another exactly where it is that one
  pair_at : (x : Known) → In x ks → (a : LinkHop) → Kept a → x.vertex ≡ v a → (x.hop.group ≡ g) × (x.hop.hop ≡ a)
  pair_at x i a l e =
      one_pair all x (in_left x ks (new ∷ []) i) x.hop.group g x.hop.hop a (pair_itself x) l.0 l.1 (pair_made g a l.0 l.2 l.3)
      (place_kept (is_pair x.hop.group x.hop.hop) ks (new ∷ []) x i (pair_itself x) ∙ sym (known x i).vertex ∙ e ∙ sym (kept_at a l))

  old_edge : (a b : LinkHop) → Old a b → Edge ks (v a) (v b)
  old_edge a b f =
      let k = edge_of nodes ends links ks valid.grown known g a b f in
      record { known = k.0; among = k.1; before = k.4; vertex = kept_vertex b k.0 k.1 k.2 k.3 }

  old_leads : (a b : LinkHop) → Walk Old a b → walks.Leads ks (v a) (v b)
  old_leads a b w = by a w.path w.steps w.ends
    where
      by : (x : LinkHop) (path : List LinkHop) → Steps Old x path → last_of x path ≡ b → walks.Leads ks (v x) (v b)
      by x [] steps e = subst (λ (y : LinkHop). walks.Leads ks (v x) (v y)) e (walk_none (Edge ks) (v x))
      by x (y ∷ ys) steps e = walk_step (Edge ks) (v x) (v y) (v b) (old_edge x y steps.0) (by y ys steps.1 e)

  -- the hop that stands for the end of an edge from a hop
  edge_old : (a : LinkHop) → Kept a → (n : ℕ) → Edge ks (v a) n → (b : LinkHop) × Kept b × Old a b × (n ≡ v b)
  edge_old a l n edge =
      let k = edge.known in
      let x = before_told ends k.hop ks (v a) (sym (known k edge.among).before ∙ edge.before) in
      let c = comes_told ends k.hop x.0 x.2 in
      let pair = pair_at x.0 x.1 a l x.3 in
      let group : k.hop.group ≡ g = sym c.0 ∙ pair.0 in
      let first : In a (tree (plain ks) g k.hop.source) = subst (λ (y : LinkHop). In y (tree (plain ks) g k.hop.source)) pair.1
      (subst (λ (s : Addr). In x.0.hop.hop (tree (plain ks) g s)) c.1 (subst (λ (b : Addr). In x.0.hop.hop (tree (plain ks) b x.0.hop.source)) pair.0 (known_tree ks x.0 x.1))) in
      let second : In k.hop.hop (tree (plain ks) g k.hop.source) = subst (λ (b : Addr). In k.hop.hop (tree (plain ks) b k.hop.source)) group (known_tree ks k edge.among) in (
        k.hop.hop,
        kept_old k edge.among group,
        record { source = k.hop.source; first = first; second = second; meet = sym c.2 ∙ ap (λ (y : LinkHop). node_of ends y.to) pair.1 },
        sym edge.vertex ∙ kept_vertex k.hop.hop k edge.among group refl,
      )

  leads_old : (a : LinkHop) → Kept a → (n : ℕ) → walks.Leads ks (v a) n → (b : LinkHop) × Kept b × Walk Old a b × (n ≡ v b)
  leads_old a l n w = by (v a) w.path w.steps w.ends a l refl
    where
      by : (m : ℕ) (path : List ℕ) → Steps (Edge ks) m path → last_of m path ≡ n → (x : LinkHop) → Kept x → m ≡ v x → (b : LinkHop) × Kept b × Walk Old x b × (n ≡ v b)
      by m [] steps e x k at = (x, k, walk_none Old x, sym e ∙ at)
      by m (o ∷ os) steps e x k at =
          let y = edge_old x k o (subst (λ (i : ℕ). Edge ks i o) at steps.0) in
          let r = by o os steps.1 e y.0 y.1 y.3 in
          (r.0, r.1, walk_step Old x y.0 r.0 y.2 r.2, r.3)

  leads_to_old : (a b : LinkHop) → Kept a → Kept b → walks.Leads ks (v a) (v b) → Walk Old a b
  leads_to_old a b k l w =
      let r = leads_old a k (v b) w in
      subst (λ (x : LinkHop). Walk Old a x) (sym (same_kept b r.0 l r.1 r.3)) r.2

  -- ---- closed chains
  more_kept : (x : LinkHop) → In x (hops_of more.hops g) → Kept x
  more_kept x i =
      let r = in_group more.hops g x i in
      ⊎_elim
      (λ (j : In r.0 (plain ks)).
      let k = in_each (λ (k : Known). k.hop) r.0 ks j in
      (k.0, in_left k.0 ks (new ∷ []) k.1, ap (λ (q : TreeHop). q.group) (sym k.2) ∙ r.2, ap (λ (q : TreeHop). q.hop) (sym k.2) ∙ r.3))
      (λ (j : In r.0 (new.hop ∷ [])). ⊎_elim (λ (e : r.0 ≡ new.hop). (new, in_right new ks (new ∷ []) (inl refl), refl, ap (λ (q : TreeHop). q.hop) (sym e) ∙ r.3)) (λ (j : ⊥). absurd j) j)
      (in_append r.0 (plain ks) (new.hop ∷ []) r.1)

  -- on a closed chain, a hop is between the new hop and the one before it
  pub on_loop_told : (x : LinkHop) → IsOnLoop more g x → Kept x × ((n : ℕ) × (new.before ≡ Some n) × walks.Leads ks new.vertex (v x) × walks.Leads ks (v x) n)
  on_loop_told x loop =
      let steps = chain_steps more g loop.head loop.rest loop.closed.0 in
      let k = more_kept x (chain_all more g (loop.head ∷ loop.rest) loop.closed.0 x loop.there) in
      let c = cut New loop.head loop.rest steps x loop.there in
      let r = round_of New x (last_of loop.head loop.rest) loop.head c.from (follower_follows more g (last_of loop.head loop.rest) loop.head loop.closed.1) c.to in
      let t = back Old New IsBefore new.hop.hop split (rank net g) (λ a b f. rank_falls_at net valid.loop_free g a b f) x r.next r.rest r.steps r.ends in
      let b = tree_known ks g new.hop.source t.before t.is.0 in
      let to : node_of ends b.0.hop.hop.to ≡ node_of ends new.hop.hop.from = ap (λ (y : LinkHop). node_of ends y.to) b.4 ∙ t.is.1 in
      let y = before_found ends new.hop ks b.0 b.1 (comes_made ends new.hop b.0 b.2 b.3 to) in
      let c2 = comes_told ends new.hop y.0 y.2 in
      let in_both : In y.0.hop.hop (tree (plain ks) g new.hop.source) = subst (λ (s : Addr). In y.0.hop.hop (tree (plain ks) g s)) c2.1
      (subst (λ (a : Addr). In y.0.hop.hop (tree (plain ks) a y.0.hop.source)) c2.0 (known_tree ks y.0 y.1)) in
      let is : y.0.hop.hop ≡ t.before = one net valid g new.hop.source y.0.hop.hop t.before in_both t.is.0 (c2.2 ∙ sym t.is.1) in (
        k,
        (
          v t.before,
          before ∙ y.3 ∙ ap Some (kept_vertex t.before y.0 y.1 c2.0 is),
          subst (λ (n : ℕ). walks.Leads ks n (v x)) (sym vertex) (old_leads new.hop.hop x t.from),
          old_leads x t.before t.to,
        ),
      )

  more_group : In new.hop.hop (hops_of more.hops g)
  more_group = to_group more.hops new.hop (in_right new.hop (plain ks) (new.hop ∷ []) (inl refl))

  walk_new : (a b : LinkHop) → Walk Old a b → Walk New a b
  walk_new a b w = by a w.path w.steps w.ends
    where
      by : (x : LinkHop) (path : List LinkHop) → Steps Old x path → last_of x path ≡ b → Walk New x b
      by x [] steps e = subst (λ (y : LinkHop). Walk New x y) e (walk_none New x)
      by x (y ∷ ys) steps e = walk_step New x y b (old_new x y steps.0) (by y ys steps.1 e)

  in_walk : (a x b : LinkHop) (w : Walk New a x) (u : Walk New x b) → (c : List LinkHop) × Steps New a c × (last_of a c ≡ b) × In x (a ∷ c)
  in_walk a x b w u = by a w.path w.steps w.ends
    where
      by : (y : LinkHop) (path : List LinkHop) → Steps New y path → last_of y path ≡ x → (c : List LinkHop) × Steps New y c × (last_of y c ≡ b) × In x (y ∷ c)
      by y [] steps e = let r = subst (λ (z : LinkHop). Walk New z b) (sym e) u in (r.path, r.steps, r.ends, inl (sym e))
      by y (z ∷ zs) steps e = let r = by z zs steps.1 e in (z ∷ r.0, (steps.0, r.1), r.2, inr r.3)

  pub on_loop_made : (x : LinkHop) → Kept x → (n : ℕ) → new.before ≡ Some n → walks.Leads ks new.vertex (v x) → walks.Leads ks (v x) n → IsOnLoop more g x
  on_loop_made x k n is from to =
      let q = before_told ends new.hop ks n (sym before ∙ is) in
      let c = comes_told ends new.hop q.0 q.2 in
      let at : n ≡ v q.0.hop.hop = sym q.3 ∙ kept_vertex q.0.hop.hop q.0 q.1 c.0 refl in
      let w = leads_to_old new.hop.hop x kept_new k (subst (λ (m : ℕ). walks.Leads ks m (v x)) vertex from) in
      let u = leads_to_old x q.0.hop.hop k (kept_old q.0 q.1 c.0) (subst (λ (m : ℕ). walks.Leads ks (v x) m) at to) in
      let r = in_walk new.hop.hop x q.0.hop.hop (walk_new new.hop.hop x w) (walk_new x q.0.hop.hop u) in
      let q_tree : In q.0.hop.hop (tree more.hops g new.hop.source) = subst (λ (s : Addr). In q.0.hop.hop (tree more.hops g s)) c.1
      (subst (λ (a : Addr). In q.0.hop.hop (tree more.hops a q.0.hop.source)) c.0
      (to_tree more.hops q.0.hop (in_left q.0.hop (plain ks) (new.hop ∷ []) (to_each (λ (k : Known). k.hop) q.0 ks q.1)))) in
      let closes : New q.0.hop.hop new.hop.hop = record {
        source = new.hop.source;
        first = q_tree;
        second = to_tree more.hops new.hop
            (in_right new.hop (plain ks) (new.hop ∷ []) (inl refl));
        meet = sym c.2;
      } in
      record {
        head = new.hop.hop;
        rest = r.0;
        closed = (steps_chain more g new.hop.hop r.0 more_group r.1, follows_follower more g (last_of new.hop.hop r.0) new.hop.hop (subst (λ (y : LinkHop). New y new.hop.hop) (sym r.2) closes));
        there = r.3;
      }

  -- ---- the answer of the check
  pub none_closed : (Closes ks new → ⊥) → IsLoopFreeIn more g
  none_closed none h c closed =
      let r = (on_loop_told h (record { head = h; rest = c; closed = closed; there = inl refl })).1 in
      none (record { before = r.0; is = r.1; leads = walk_on (Edge ks) new.vertex (v h) r.0 r.2 r.3 })

  pub least_closed : (c : Closes ks new) (h : LinkHop) → IsLeastBetween ks new c.before h → IsLeastOnLoop more g h
  least_closed c h l = record { on = on_it l.there; least = least }
    where
      new_on : IsOnLoop more g new.hop.hop
      new_on = on_loop_made new.hop.hop kept_new c.before c.is (subst (λ (n : ℕ). walks.Leads ks new.vertex n) vertex (walk_none (Edge ks) new.vertex))
          (subst (λ (n : ℕ). walks.Leads ks n c.before) vertex c.leads)

      known_on : (k : Known) → In k ks → k.hop.group ≡ g → h ≡ k.hop.hop → IsBetween ks new.vertex c.before k.vertex → IsOnLoop more g h
      known_on k i e is b =
          let at = kept_vertex k.hop.hop k i e refl in
          subst (λ (x : LinkHop). IsOnLoop more g x) (sym is) (on_loop_made k.hop.hop (kept_old k i e) c.before c.is (subst (λ (n : ℕ). walks.Leads ks new.vertex n) at b.0)
          (subst (λ (n : ℕ). walks.Leads ks n c.before) at b.1))

      on_it : (h ≡ new.hop.hop) ⊎ ((k : Known) × In k ks × (k.hop.group ≡ g) × (h ≡ k.hop.hop) × IsBetween ks new.vertex c.before k.vertex) → IsOnLoop more g h
      on_it (inl e) = subst (λ (x : LinkHop). IsOnLoop more g x) (sym e) new_on
      on_it (inr k) = known_on k.0 k.1 k.2 k.3 k.4

      least : (x : LinkHop) → IsOnLoop more g x → IsUpTo h x
      least x on =
          let r = on_loop_told x on in
          let same : r.1.0 ≡ c.before = cc (r.1.1, c.is) in
          ⊎_elim
          (λ (i : In r.0.0 ks).
          let at = kept_vertex x r.0.0 i r.0.2 r.0.3 in
          subst (λ (y : LinkHop). IsUpTo h y) r.0.3
          (l.least r.0.0 i r.0.2 (
            subst (λ (n : ℕ). walks.Leads ks new.vertex n) (sym at) r.1.2,
            subst (λ (n : ℕ). walks.Leads ks n c.before) (sym at) (subst (λ (n : ℕ). walks.Leads ks (v x) n) same r.1.3),
          )))
          (λ (i : In r.0.0 (new ∷ [])). ⊎_elim (λ (e : r.0.0 ≡ new). subst (λ (y : LinkHop). IsUpTo h y) (sym (ap (λ (k : Known). k.hop.hop) e) ∙ r.0.3) l.first) (λ (j : ⊥). absurd j) i)
          (in_append r.0.0 ks (new ∷ []) r.0.1)

pub kept_answer : (nodes : ℕ) (ends : List End) (links : List Link) (ks : List Known) (new : Known) (r : Result (Unit {0}) HopErr) → IsValid (net_of nodes ends links ks) → AreKnown ends ks
    → new.vertex ≡ vertex_at ks new.hop.group new.hop.hop → new.before ≡ vertex_before ends new.hop ks → Fits (net_of nodes ends links ks) new.hop → LoopAnswer ks new r
    → HopAnswer (net_of nodes ends links ks) new.hop r
kept_answer nodes ends links ks new (Ok u) valid known vertex before fits a = (fits, none_closed nodes ends links ks valid known new vertex before fits a)
kept_answer nodes ends links ks new (Err NotTree) valid known vertex before fits a = absurd a
kept_answer nodes ends links ks new (Err (Loop group from to)) valid known vertex before fits a =
    (fits, a.1, least_closed nodes ends links ks valid known new vertex before fits a.0 (record { from = from; to = to }) a.2)
kept_answer nodes ends links ks new (Err NoMemory) valid known vertex before fits a = fits
