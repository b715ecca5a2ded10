-- A valid network stays valid where a tree is put in the place of another, if it is grown and closes no chain of its group.
use Rattle.std.specs.Prelude.{◌≡◌, ◌≤◌, Bool, true, false, not, cond, ◌&&◌, ◌==◌, List, [], ◌∷◌, ◌++◌, length, map as each, refl}
use Rattle.std.specs.List.{filter}
use Rattle.std.proofs.Common.{sym, ap, subst, ◌∙◌, ⊎_elim}
use Rattle.rsvp_base.specs.declared.addr.Addr.{Addr}
use Rattle.rsvp_base.specs.Members.{In}
use Rattle.rsvp_base.proofs.Members.{in_append, in_each, in_filter}
use Rattle.rsvp_base.proofs.SetLaws.{and_both, and_made}
use Rattle.rsvp_base.proofs.Tables.{either}
use Rattle.tree_model.specs.declared.hops.LinkHop.{LinkHop}
use Rattle.tree_model.specs.declared.hops.TreeHop.{TreeHop}
use Rattle.tree_model.specs.Networks.{Net}
use Rattle.tree_model.specs.Ranks.{followers, IsLoopFree, IsLoopFreeIn}
use Rattle.tree_model.specs.Trees.{hops_of, is_linked, IsGrown, of_tree, tree}
use Rattle.tree_model.specs.Valid.{IsValid}
use Rattle.tree_model.proofs.Following.{addr_itself, addr_same, follower_follows, follows_follower, in_group, in_tree, number_same, to_group, to_tree}
use Rattle.tree_model.proofs.TreeLaws.{true_false}
use Rattle.tree_routing.proofs.Carried.{Same, free_map, grown_over}
use Rattle.tree_routing.specs.Reroutes.{rerouted, tree_hop}

-- ---- lists
pub filter_both : {A : Type 0} (test : A → Bool) (xs ys : List A) → filter test (xs ++ ys) ≡ filter test xs ++ filter test ys
filter_both test [] ys = refl
filter_both {A} test (x ∷ xs) ys = by (test x) (filter_both test xs ys)
  where
    by : (b : Bool) → filter test (xs ++ ys) ≡ filter test xs ++ filter test ys → cond b (x ∷ filter test (xs ++ ys)) (filter test (xs ++ ys))
        ≡ cond b (x ∷ filter test xs) (filter test xs) ++ filter test ys
    by true e = ap (λ (zs : List A). x ∷ zs) e
    by false e = e

module _ (g s : Addr) where
  abbrev other : TreeHop → Bool
  other r = not (of_tree g s r)

  pub none_left : (rs : List TreeHop) → filter (of_tree g s) (filter other rs) ≡ []
  none_left [] = refl
  none_left (r ∷ rs) = by (of_tree g s r) refl (none_left rs)
    where
      by : (b : Bool) → of_tree g s r ≡ b → filter (of_tree g s) (filter other rs) ≡ [] → filter (of_tree g s) (cond (not b) (r ∷ filter other rs) (filter other rs)) ≡ []
      by true e rest = rest
      by false e rest = ap (λ (b : Bool). cond b (r ∷ filter (of_tree g s) (filter other rs)) (filter (of_tree g s) (filter other rs))) e ∙ rest

  mine : (h : LinkHop) → of_tree g s (tree_hop g s h) ≡ true
  mine h = and_made (g.0 == g.0) (s.0 == s.0) (addr_itself g) (addr_itself s)

  pub all_mine : (hs : List LinkHop) → filter (of_tree g s) (each (tree_hop g s) hs) ≡ each (tree_hop g s) hs
  all_mine [] = refl
  all_mine (h ∷ hs) =
      ap (λ (b : Bool). cond b (tree_hop g s h ∷ filter (of_tree g s) (each (tree_hop g s) hs)) (filter (of_tree g s) (each (tree_hop g s) hs))) (mine h)
      ∙ ap (λ (rs : List TreeHop). tree_hop g s h ∷ rs) (all_mine hs)

  pub hops_again : (hs : List LinkHop) → each (λ (r : TreeHop). r.hop) (each (tree_hop g s) hs) ≡ hs
  hops_again [] = refl
  hops_again (h ∷ hs) = ap (λ (zs : List LinkHop). h ∷ zs) (hops_again hs)

  -- another tree
  module _ (g' s' : Addr) (apart : ((g.0 == g'.0) && (s.0 == s'.0)) ≡ false) where
    stays : (r : TreeHop) → of_tree g' s' r ≡ true → other r ≡ true
    stays r e = by (of_tree g s r) refl
      where
        by : (b : Bool) → of_tree g s r ≡ b → not b ≡ true
        by false f = refl
        by true f =
            let a = and_both (r.group.0 == g'.0) (r.source.0 == s'.0) e in
            let c = and_both (r.group.0 == g.0) (r.source.0 == s.0) f in
            let group : g ≡ g' = sym (addr_same r.group g c.0) ∙ addr_same r.group g' a.0 in
            let source : s ≡ s' = sym (addr_same r.source s c.1) ∙ addr_same r.source s' a.1 in
            let both = and_made (g.0 == g'.0) (s.0 == s'.0) (number_same g.0 g'.0 (ap (λ (z : Addr). z.0) group)) (number_same s.0 s'.0 (ap (λ (z : Addr). z.0) source)) in
            absurd (true_false _ both apart)

    kept : (rs : List TreeHop) → filter (of_tree g' s') (filter other rs) ≡ filter (of_tree g' s') rs
    kept [] = refl
    kept (r ∷ rs) = by (other r) refl (of_tree g' s' r) refl (kept rs)
      where
        by : (b : Bool) → other r ≡ b → (c : Bool) → of_tree g' s' r ≡ c → filter (of_tree g' s') (filter other rs) ≡ filter (of_tree g' s') rs
            → filter (of_tree g' s') (cond b (r ∷ filter other rs) (filter other rs)) ≡ cond c (r ∷ filter (of_tree g' s') rs) (filter (of_tree g' s') rs)
        by true e c f rest =
            ap (λ (b : Bool). cond b (r ∷ filter (of_tree g' s') (filter other rs)) (filter (of_tree g' s') (filter other rs))) f ∙ ap (λ (zs : List TreeHop). cond c (r ∷ zs) zs) rest
        by false e true f rest = absurd (true_false _ (stays r f) e)
        by false e false f rest = rest

    none_new : (hs : List LinkHop) → filter (of_tree g' s') (each (tree_hop g s) hs) ≡ []
    none_new [] = refl
    none_new (h ∷ hs) = ap (λ (b : Bool). cond b (tree_hop g s h ∷ filter (of_tree g' s') (each (tree_hop g s) hs)) (filter (of_tree g' s') (each (tree_hop g s) hs))) apart ∙ none_new hs

module _ (net : Net) (valid : IsValid net) (g s : Addr) (hs : List LinkHop) (grown : IsGrown net s hs) where
  abbrev more : Net
  more = rerouted net g s hs

  same_hop_of : (h : LinkHop) → is_linked net.links h ≡ true → Same net more h
  same_hop_of h t = record { linked = t; from = refl; to = refl; link = refl }

  its_tree : tree more.hops g s ≡ hs
  its_tree =
      ap (each (λ (r : TreeHop). r.hop)) (filter_both (of_tree g s) (filter (other g s) net.hops) (each (tree_hop g s) hs) ∙ (λ i. none_left g s net.hops i ++ all_mine g s hs i)) ∙ hops_again g s hs

  nothing_more : (rs : List TreeHop) → rs ++ [] ≡ rs
  nothing_more [] = refl
  nothing_more (r ∷ rs) = ap (λ (zs : List TreeHop). r ∷ zs) (nothing_more rs)

  other_tree : (g' s' : Addr) → ((g.0 == g'.0) && (s.0 == s'.0)) ≡ false → tree more.hops g' s' ≡ tree net.hops g' s'
  other_tree g' s' apart =
      ap (each (λ (r : TreeHop). r.hop))
      (filter_both (of_tree g' s') (filter (other g s) net.hops) (each (tree_hop g s) hs) ∙ (λ i. kept g s g' s' apart net.hops i ++ none_new g s g' s' apart hs i)
      ∙ nothing_more (filter (of_tree g' s') net.hops))

  pub grown_more : (g' s' : Addr) → IsGrown more s' (tree more.hops g' s')
  grown_more g' s' =
      either ((g.0 == g'.0) && (s.0 == s'.0))
      (λ t.
      let both = and_both (g.0 == g'.0) (s.0 == s'.0) t in
      let here : IsGrown more s (tree more.hops g s) = subst (IsGrown more s) (sym its_tree) (grown_over net more same_hop_of s hs (λ n e. e) grown) in
      subst (λ (a : Addr × Addr). IsGrown more a.1 (tree more.hops a.0 a.1)) (λ i. (addr_same g g' both.0 i, addr_same s s' both.1 i)) here)
      (λ f. subst (IsGrown more s') (sym (other_tree g' s' f)) (grown_over net more same_hop_of s' (tree net.hops g' s') (λ n e. e) (valid.grown g' s')))

  old_hop : (g' : Addr) → (g ≡ g' → ⊥) → (q : TreeHop) → In q more.hops → q.group ≡ g' → In q net.hops
  old_hop g' ne q i e =
      ⊎_elim (λ (j : In q (filter (other g s) net.hops)). (in_filter (other g s) q net.hops j).0)
      (λ (j : In q (each (tree_hop g s) hs)). let h = in_each (tree_hop g s) q hs j in absurd (ne (ap (λ (x : TreeHop). x.group) (sym h.2) ∙ e)))
      (in_append q (filter (other g s) net.hops) (each (tree_hop g s) hs) i)

  old_group : (g' : Addr) → (g ≡ g' → ⊥) → (x : LinkHop) → In x (hops_of more.hops g') → In x (hops_of net.hops g')
  old_group g' ne x i =
      let q = in_group more.hops g' x i in
      let j = old_hop g' ne q.0 q.1 q.2 in
      subst (λ (a : Addr). In x (hops_of net.hops a)) q.2 (subst (λ (y : LinkHop). In y (hops_of net.hops q.0.group)) q.3 (to_group net.hops q.0 j))

  old_tree : (g' s' : Addr) → (g ≡ g' → ⊥) → (x : LinkHop) → In x (tree more.hops g' s') → In x (tree net.hops g' s')
  old_tree g' s' ne x i =
      let q = in_tree more.hops g' s' x i in
      let j = old_hop g' ne q.0 q.1 q.2 in
      subst (λ (a : Addr). In x (tree net.hops a s')) q.2 (subst (λ (a : Addr). In x (tree net.hops q.0.group a)) q.3
      (subst (λ (y : LinkHop). In y (tree net.hops q.0.group q.0.source)) q.4 (to_tree net.hops q.0 j)))

  free_other : (g' : Addr) → (g ≡ g' → ⊥) → IsLoopFreeIn more g'
  free_other g' ne =
      free_map (followers more g') (followers net g') (hops_of more.hops g') (hops_of net.hops g') (old_group g' ne)
      (λ x y i j. let f = follower_follows more g' x y j in
      follows_follower net g' x y (record { source = f.source; first = old_tree g' f.source ne x f.first; second = old_tree g' f.source ne y f.second; meet = f.meet })) (valid.loop_free g')

module _ (net : Net) (valid : IsValid net) (g s : Addr) (hs : List LinkHop) (few : length (rerouted net g s hs).hops ≤ 8192) (grown : IsGrown net s hs)
    (free : IsLoopFreeIn (rerouted net g s hs) g) where
  abbrev all : Net
  all = rerouted net g s hs

  free_more : IsLoopFree all
  free_more g' =
      either (g.0 == g'.0) (λ t. subst (λ (a : Addr). IsLoopFreeIn all a) (addr_same g g' t) free)
      (λ f. free_other net valid g s hs grown g' (λ e. true_false _ (number_same g.0 g'.0 (ap (λ (a : Addr). a.0) e)) f))

  pub valid_rerouted : IsValid all
  valid_rerouted = record {
    few_nodes = valid.few_nodes;
    few_ends = valid.few_ends;
    few_links = valid.few_links;
    few_hops = few;
    placed = valid.placed;
    one_address = valid.one_address;
    linked = valid.linked;
    nodes_apart = valid.nodes_apart;
    ends_of_links = valid.ends_of_links;
    rising = valid.rising;
    apart = valid.apart;
    one_link = valid.one_link;
    grown = grown_more net valid g s hs grown;
    loop_free = free_more;
  }
