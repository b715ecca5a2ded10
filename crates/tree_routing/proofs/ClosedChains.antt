-- A hop stands on a closed chain of its group exactly where edges lead from its vertex to itself.
use Rattle.std.specs.Prelude.{◌≡◌, ◌⊎◌, ℕ, List, [], ◌∷◌, ◌++◌, Option, None, Some, refl}
use Rattle.std.proofs.Common.{sym, ap, subst, ◌∙◌, inl, inr, ⊎_elim}
use Rattle.rsvp_base.specs.Members.{In}
use Rattle.rsvp_base.specs.declared.addr.Addr.{Addr}
use Rattle.rsvp_base.proofs.Members.{in_append, in_left, in_right}
use Rattle.tree_model.specs.declared.hops.End.{End}
use Rattle.tree_model.specs.declared.hops.LinkHop.{LinkHop}
use Rattle.tree_model.specs.Networks.{Net, node_of}
use Rattle.tree_model.specs.Trees.{tree, hops_of, IsGrown}
use Rattle.tree_model.specs.Chains.{last_of}
use Rattle.tree_model.specs.Ranks.{Follows, IsLoopFreeIn, IsOnLoop}
use Rattle.tree_model.proofs.Following.{follower_follows, follows_follower, tree_group}
use Rattle.tree_routing.specs.declared.known.Known.{Known}
use Rattle.tree_routing.specs.declared.link.Link.{Link}
use Rattle.tree_routing.specs.Answers.{IsUpTo, IsLeastOnLoop}
use Rattle.tree_routing.specs.Checks.{Closes}
use Rattle.tree_routing.specs.Known.{plain, net_of, vertex_at, AreKnown}
use Rattle.tree_routing.specs.Reroutes.{ClosesIn, IsLesserClosed, IsLeastClosed}
use Rattle.tree_routing.specs.Walks.{Steps, Walk, Edge, Leads}
use Rattle.tree_routing.proofs.LeastLaws.{up_order, up_other, up_along, up_itself}
use Rattle.tree_routing.proofs.LevelLaws.{edge_of}
use Rattle.tree_routing.proofs.Loops.{cut, round_of, chain_steps, steps_chain}
use Rattle.tree_routing.proofs.MarkLaws.{walk_none, walk_step}
use Rattle.tree_routing.proofs.Vertices.{pair_made, one_pair, group_known, known_group, known_tree, comes_told, before_told}

-- ---- the least so far, and with one hop more
module _ (ks some : List Known) (g : Addr) (k : Known) where
  lesser_first : (least : Option LinkHop) → IsLeastClosed ks some g least → IsLesserClosed ks g k least → IsLeastClosed ks (some ++ k ∷ []) g (Some k.hop.hop)
  lesser_first least so_far is = (
    (k, in_right k some (k ∷ []) (inl refl), is.1, refl),
    λ x i c. ⊎_elim (λ (j : In x some). before least so_far is x j c) (λ (j : In x (k ∷ [])). here x j)
        (in_append x some (k ∷ []) i),
  )
    where
      here : (x : Known) → In x (k ∷ []) → IsUpTo k.hop.hop x.hop.hop
      here x (inl e) = subst (λ (y : Known). IsUpTo k.hop.hop y.hop.hop) (sym e) (up_itself k.hop.hop)
      here x (inr o) = absurd o

      before : (least : Option LinkHop) → IsLeastClosed ks some g least → IsLesserClosed ks g k least → (x : Known) → In x some → ClosesIn ks g x → IsUpTo k.hop.hop x.hop.hop
      before None so_far is x j c = absurd (so_far x j c)
      before (Some l) so_far is x j c = up_along k.hop.hop l x.hop.hop (up_other l k.hop.hop is.0) (so_far.1 x j c)

  same_least : (least : Option LinkHop) → IsLeastClosed ks some g least → (IsLesserClosed ks g k least → ⊥) → IsLeastClosed ks (some ++ k ∷ []) g least
  same_least None so_far never = λ x i c.
      ⊎_elim (λ (j : In x some). so_far x j c) (λ (j : In x (k ∷ [])). ⊎_elim (λ (e : x ≡ k). never (tt, subst (ClosesIn ks g) e c)) (λ (o : ⊥). o) j) (in_append x some (k ∷ []) i)
  same_least (Some l) so_far never = (
    (so_far.0.0, in_left so_far.0.0 some (k ∷ []) so_far.0.1, so_far.0.2, so_far.0.3),
    λ x i c. ⊎_elim (λ (j : In x some). so_far.1 x j c) (λ (j : In x (k ∷ [])). here x c j) (in_append x some (k ∷ []) i),
  )
    where
      by : (x : Known) → x ≡ k → ClosesIn ks g x → IsUpTo l x.hop.hop ⊎ (IsUpTo l x.hop.hop → ⊥) → IsUpTo l x.hop.hop
      by x e c (inl up) = up
      by x e c (inr not_up) = absurd (never (subst (λ (y : Known). (IsUpTo l y.hop.hop → ⊥) × ClosesIn ks g y) e (not_up, c)))

      here : (x : Known) → ClosesIn ks g x → In x (k ∷ []) → IsUpTo l x.hop.hop
      here x c (inl e) = by x e c (up_order l x.hop.hop)
      here x c (inr o) = absurd o

  pub lesser_more : (least h : Option LinkHop) → IsLeastClosed ks some g least → (IsLesserClosed ks g k least × (h ≡ Some k.hop.hop)) ⊎ ((IsLesserClosed ks g k least → ⊥) × (h ≡ least))
      → IsLeastClosed ks (some ++ k ∷ []) g h
  lesser_more least h so_far (inl a) = subst (IsLeastClosed ks (some ++ k ∷ []) g) (sym a.1) (lesser_first least so_far a.0)
  lesser_more least h so_far (inr a) = subst (IsLeastClosed ks (some ++ k ∷ []) g) (sym a.1) (same_least least so_far a.0)

-- ---- walks that come back
module _ {A : Type 0} (S : A → A → Type 0) where
  -- a walk of one step or more ends with one
  last_step : (a b : A) (c : List A) → Steps S a (b ∷ c) → (y : A) × Walk S a y × S y (last_of b c)
  last_step a b [] steps = (a, walk_none S a, steps.0)
  last_step a b (d ∷ ds) steps = let r = last_step b d ds steps.1 in (r.0, walk_step S a b r.0 steps.0 r.1, r.2)

-- ---- the graph of a group
module _ (nodes : ℕ) (ends : List End) (links : List Link) (ks : List Known) (grown : (g s : Addr) → IsGrown (net_of nodes ends links ks) s (tree (plain ks) g s)) (known : AreKnown ends ks)
    (g : Addr) where
  abbrev net : Net
  net = net_of nodes ends links ks

  abbrev Next : LinkHop → LinkHop → Type 0
  Next a b = Follows net g a b

  abbrev Kept : LinkHop → Type 0
  Kept x = In x (hops_of (plain ks) g)

  abbrev v : LinkHop → ℕ
  v x = vertex_at ks g x

  at_vertex : (x : LinkHop) (k : Known) → In k ks → k.hop.group ≡ g → k.hop.hop ≡ x → k.vertex ≡ v x
  at_vertex x k i e f = (known k i).vertex ∙ ap (λ (a : Addr). vertex_at ks a k.hop.hop) e ∙ ap (λ (y : LinkHop). vertex_at ks g y) f

  same_kept : (x y : LinkHop) → Kept x → Kept y → v x ≡ v y → x ≡ y
  same_kept x y i j e =
      let k = group_known ks g x i in
      let l = group_known ks g y j in
      (one_pair ks k.0 k.1 g g x y (pair_made g x k.0 k.2 k.3) l.0 l.1 (pair_made g y l.0 l.2 l.3) e).1

  -- what is kept at the vertex of a hop of the group is that hop
  pair_at : (k : Known) → In k ks → (x : LinkHop) → Kept x → k.vertex ≡ v x → (k.hop.group ≡ g) × (k.hop.hop ≡ x)
  pair_at k i x j e =
      let l = group_known ks g x j in
      one_pair ks k i k.hop.group g k.hop.hop x (pair_made k.hop.group k.hop.hop k refl refl) l.0 l.1 (pair_made g x l.0 l.2 l.3) (sym (known k i).vertex ∙ e)

  -- edges stand for followers
  to_edge : (a b : LinkHop) → Next a b → Edge ks (v a) (v b)
  to_edge a b f =
      let k = edge_of nodes ends links ks grown known g a b f in
      record { known = k.0; among = k.1; before = k.4; vertex = at_vertex b k.0 k.1 k.2 k.3 }

  to_leads : (a b : LinkHop) → Walk Next a b → Leads ks (v a) (v b)
  to_leads a b w = by a w.path w.steps w.ends
    where
      by : (x : LinkHop) (path : List LinkHop) → Steps Next x path → last_of x path ≡ b → Leads ks (v x) (v b)
      by x [] steps e = subst (λ (y : LinkHop). Leads ks (v x) (v y)) e (walk_none (Edge ks) (v x))
      by x (y ∷ ys) steps e = walk_step (Edge ks) (v x) (v y) (v b) (to_edge x y steps.0) (by y ys steps.1 e)

  -- what an edge from a hop's vertex stands for
  follower_at : (k : Known) → In k ks → (a : LinkHop) → Kept a → k.before ≡ Some (v a) → (k.hop.group ≡ g) × Next a k.hop.hop
  follower_at k i a j is =
      let x = before_told ends k.hop ks (v a) (sym (known k i).before ∙ is) in
      let c = comes_told ends k.hop x.0 x.2 in
      let pair = pair_at x.0 x.1 a j x.3 in
      let group : k.hop.group ≡ g = sym c.0 ∙ pair.0 in
      let first : In a (tree (plain ks) g k.hop.source) = subst (λ (y : LinkHop). In y (tree (plain ks) g k.hop.source)) pair.1
      (subst (λ (s : Addr). In x.0.hop.hop (tree (plain ks) g s)) c.1 (subst (λ (b : Addr). In x.0.hop.hop (tree (plain ks) b x.0.hop.source)) pair.0 (known_tree ks x.0 x.1))) in
      let second : In k.hop.hop (tree (plain ks) g k.hop.source) = subst (λ (b : Addr). In k.hop.hop (tree (plain ks) b k.hop.source)) group (known_tree ks k i) in
      (group, record { source = k.hop.source; first = first; second = second; meet = sym c.2 ∙ ap (λ (y : LinkHop). node_of ends y.to) pair.1 })

  from_leads : (a : LinkHop) → Kept a → (n : ℕ) → Leads ks (v a) n → (b : LinkHop) × Kept b × Walk Next a b × (n ≡ v b)
  from_leads a j n w = by (v a) w.path w.steps w.ends a j refl
    where
      by : (m : ℕ) (path : List ℕ) → Steps (Edge ks) m path → last_of m path ≡ n → (x : LinkHop) → Kept x → m ≡ v x → (b : LinkHop) × Kept b × Walk Next x b × (n ≡ v b)
      by m [] steps e x i at = (x, i, walk_none Next x, sym e ∙ at)
      by m (o ∷ os) steps e x i at =
          let edge = steps.0 in
          let y = edge.known.hop.hop in
          let f = follower_at edge.known edge.among x i (edge.before ∙ ap Some at) in
          let in_y : Kept y = tree_group (plain ks) g f.1.source y f.1.second in
          let r = by o os steps.1 e y in_y (sym edge.vertex ∙ at_vertex y edge.known edge.among f.0 refl) in
          (r.0, r.1, walk_step Next x y r.0 f.1 r.2, r.3)

  -- ---- closed chains
  pub on_closed : (x : LinkHop) → IsOnLoop net g x → (k : Known) × In k ks × ClosesIn ks g k × (k.hop.hop ≡ x)
  on_closed x loop =
      let steps = chain_steps net g loop.head loop.rest loop.closed.0 in
      let c = cut Next loop.head loop.rest steps x loop.there in
      let r = round_of Next x (last_of loop.head loop.rest) loop.head c.from (follower_follows net g (last_of loop.head loop.rest) loop.head loop.closed.1) c.to in
      let back = last_step Next x r.next r.rest r.steps in
      let y = back.0 in
      let k = edge_of nodes ends links ks grown known g y x (subst (λ (z : LinkHop). Next y z) r.ends back.2) in
      let closes : Closes ks k.0 = record { before = v y; is = k.4; leads = subst (λ (n : ℕ). Leads ks n (v y)) (sym (at_vertex x k.0 k.1 k.2 k.3)) (to_leads x y back.1) } in
      (k.0, k.1, (k.2, closes), k.3)

  pub closed_on : (k : Known) → In k ks → ClosesIn ks g k → IsOnLoop net g k.hop.hop
  closed_on k i c =
      let x = k.hop.hop in
      let kept : Kept x = subst (λ (a : Addr). In x (hops_of (plain ks) a)) c.0 (known_group ks k i) in
      let w = from_leads x kept c.1.before (subst (λ (n : ℕ). Leads ks n c.1.before) (at_vertex x k i c.0 refl) c.1.leads) in
      let f = follower_at k i w.0 w.1 (c.1.is ∙ ap Some w.3) in
      record {
        head = x;
        rest = w.2.path;
        closed = (steps_chain net g x w.2.path kept w.2.steps, follows_follower net g (last_of x w.2.path) x (subst (λ (y : LinkHop). Next y x) (sym w.2.ends) f.1));
        there = inl refl;
      }

  pub none_closed : IsLeastClosed ks ks g None → IsLoopFreeIn net g
  none_closed none h c closed =
      let r = on_closed h (record { head = h; rest = c; closed = closed; there = inl refl }) in
      none r.0 r.1 r.2

  pub least_closed : (h : LinkHop) → IsLeastClosed ks ks g (Some h) → IsLeastOnLoop net g h
  least_closed h l = record {
    on = subst (λ (x : LinkHop). IsOnLoop net g x) (sym l.0.3) (closed_on l.0.0 l.0.1 l.0.2);
    least = λ x on. let r = on_closed x on in subst (λ (y : LinkHop). IsUpTo h y) r.3 (l.1 r.0 r.1 r.2);
  }
