-- The network with the hops of one group alone: the ranks, the followers and the closed chains of the group are the same.
use Rattle.std.specs.Prelude.{◌≡◌, ◌≤◌, Bool, true, false, cond, ◌&&◌, ◌||◌, ◌==◌, List, [], ◌∷◌, length, map as each, refl, if◌then◌else◌}
use Rattle.std.specs.List.{filter, list_any}
use Rattle.std.proofs.Common.{sym, ap, subst, ◌∙◌, arith}
use Rattle.rsvp_base.specs.Members.{In}
use Rattle.rsvp_base.specs.declared.addr.Addr.{Addr}
use Rattle.rsvp_base.proofs.Members.{in_filter}
use Rattle.rsvp_base.proofs.SetLaws.{and_both}
use Rattle.rsvp_base.proofs.Tables.{either}
use Rattle.tree_model.specs.declared.hops.LinkHop.{LinkHop}
use Rattle.tree_model.specs.declared.hops.TreeHop.{TreeHop}
use Rattle.tree_model.specs.Networks.{Net, node_of}
use Rattle.tree_model.specs.Chains.{HasNoLoop, StandsOnLoop, height}
use Rattle.tree_model.specs.Ranks.{same_hop, has_hop, holds_both, follows, followers, rank, IsLoopFree, IsLoopFreeIn, IsOnLoop}
use Rattle.tree_model.specs.Trees.{of_group, of_tree, hops_of, tree, IsGrown}
use Rattle.tree_model.specs.Valid.{IsValid}
use Rattle.tree_model.proofs.Following.{addr_same, number_same, follower_follows, follows_follower, in_group, in_tree, to_group, to_tree}
use Rattle.tree_model.proofs.TreeLaws.{true_false}
use Rattle.tree_routing.specs.Answers.{IsLeastOnLoop}
use Rattle.tree_routing.specs.Reroutes.{part, with_hops, StayOthers}
use Rattle.tree_routing.proofs.Carried.{free_map, grown_over}

-- ---- lists
module _ {A : Type 0} (p q : A → Bool) where
  -- those that pass the one test are among those that pass the other
  pub filter_within : ((x : A) → p x ≡ true → q x ≡ true) → (xs : List A) → filter p (filter q xs) ≡ filter p xs
  filter_within sub [] = refl
  filter_within sub (x ∷ xs) = by (q x) refl (p x) refl (filter_within sub xs)
    where
      by : (b : Bool) → q x ≡ b → (c : Bool) → p x ≡ c → filter p (filter q xs) ≡ filter p xs → filter p (cond b (x ∷ filter q xs) (filter q xs)) ≡ cond c (x ∷ filter p xs) (filter p xs)
      by true e c f rest = ap (λ (b : Bool). cond b (x ∷ filter p (filter q xs)) (filter p (filter q xs))) f ∙ ap (λ (zs : List A). cond c (x ∷ zs) zs) rest
      by false e true f rest = absurd (true_false _ (sub x f) e)
      by false e false f rest = rest

  -- none passes both
  pub filter_none : ((x : A) → p x ≡ true → q x ≡ true → ⊥) → (xs : List A) → filter p (filter q xs) ≡ []
  filter_none apart [] = refl
  filter_none apart (x ∷ xs) = by (q x) refl (p x) refl (filter_none apart xs)
    where
      by : (b : Bool) → q x ≡ b → (c : Bool) → p x ≡ c → filter p (filter q xs) ≡ [] → filter p (cond b (x ∷ filter q xs) (filter q xs)) ≡ []
      by true e true f rest = absurd (apart x f e)
      by true e false f rest = ap (λ (b : Bool). cond b (x ∷ filter p (filter q xs)) (filter p (filter q xs))) f ∙ rest
      by false e c f rest = rest

  pub any_within : ((x : A) → p x ≡ true → q x ≡ true) → (xs : List A) → list_any p (filter q xs) ≡ list_any p xs
  any_within sub [] = refl
  any_within sub (x ∷ xs) = by (q x) refl (p x) refl (any_within sub xs)
    where
      by : (b : Bool) → q x ≡ b → (c : Bool) → p x ≡ c → list_any p (filter q xs) ≡ list_any p xs → list_any p (cond b (x ∷ filter q xs) (filter q xs)) ≡ (p x || list_any p xs)
      by true e c f rest = ap (λ (b : Bool). p x || b) rest
      by false e true f rest = absurd (true_false _ (sub x f) e)
      by false e false f rest = rest ∙ ap (λ (b : Bool). b || list_any p xs) (sym f)

  pub filter_less : (xs : List A) → length (filter q xs) ≤ length xs
  filter_less [] = omega arith
  filter_less (x ∷ xs) = by (q x) (filter_less xs)
    where
      by : (b : Bool) → length (filter q xs) ≤ length xs → length (cond b (x ∷ filter q xs) (filter q xs)) ≤ length (x ∷ xs)
      by true le = omega arith
      by false le = omega arith

-- ---- the part of a group
module _ (net : Net) (g : Addr) where
  abbrev few : Net
  few = part g net

  pub hops_part : hops_of few.hops g ≡ hops_of net.hops g
  hops_part = ap (each (λ (r : TreeHop). r.hop)) (filter_within (of_group g) (of_group g) (λ r e. e) net.hops)

  tree_part : (s : Addr) → tree few.hops g s ≡ tree net.hops g s
  tree_part s = ap (each (λ (r : TreeHop). r.hop)) (filter_within (of_tree g s) (of_group g) (λ r e. (and_both _ _ e).0) net.hops)

  holds_part : (h h' : LinkHop) (r : TreeHop) → holds_both few.hops g h h' r ≡ holds_both net.hops g h h' r
  holds_part h h' r = ap (λ (t : List LinkHop). of_group g r && (same_hop h r.hop && has_hop t h')) (tree_part r.source)

  any_part : (h h' : LinkHop) → list_any (holds_both few.hops g h h') few.hops ≡ list_any (holds_both net.hops g h h') net.hops
  any_part h h' =
      (λ i. list_any (λ (r : TreeHop). holds_part h h' r i) few.hops)
      ∙ any_within (holds_both net.hops g h h') (of_group g) (λ r e. (and_both (of_group g r) _ e).0) net.hops

  follows_part : (h h' : LinkHop) → follows few g h h' ≡ follows net g h h'
  follows_part h h' = ap (λ (b : Bool). (node_of net.ends h'.from == node_of net.ends h.to) && b) (any_part h h')

  followers_part : (h : LinkHop) → followers few g h ≡ followers net g h
  followers_part h = λ i. filter (λ (h' : LinkHop). follows_part h h' i) (hops_part i)

  pub rank_part : (h : LinkHop) → rank few g h ≡ rank net g h
  rank_part h = λ i. if has_hop (hops_part i) h then height (λ (h' : LinkHop). followers_part h' i) (length (hops_part i)) h else 0

  pub free_part : IsLoopFreeIn few g → IsLoopFreeIn net g
  free_part free = subst (λ (p : (LinkHop → List LinkHop) × List LinkHop). HasNoLoop p.0 p.1) (λ i. ((λ (h : LinkHop). followers_part h i), hops_part i)) free

  on_part : (h : LinkHop) → IsOnLoop few g h → IsOnLoop net g h
  on_part h on = subst (λ (p : (LinkHop → List LinkHop) × List LinkHop). StandsOnLoop p.0 p.1 h) (λ i. ((λ (h' : LinkHop). followers_part h' i), hops_part i)) on

  on_whole : (h : LinkHop) → IsOnLoop net g h → IsOnLoop few g h
  on_whole h on = subst (λ (p : (LinkHop → List LinkHop) × List LinkHop). StandsOnLoop p.0 p.1 h) (sym (λ i. ((λ (h' : LinkHop). followers_part h' i), hops_part i))) on

  pub least_part : (h : LinkHop) → IsLeastOnLoop few g h → IsLeastOnLoop net g h
  least_part h l = record { on = on_part h l.on; least = λ x on. l.least x (on_whole x on) }

  -- ---- trees of the part
  grown_same : (s : Addr) (hs : List LinkHop) → IsGrown net s hs → IsGrown few s hs
  grown_same s hs grown = grown_over net few (λ h t. record { linked = t; from = refl; to = refl; link = refl }) s hs (λ n e. e) grown

  pub grown_part : ((g' s' : Addr) → IsGrown net s' (tree net.hops g' s')) → (g' s' : Addr) → IsGrown few s' (tree few.hops g' s')
  grown_part all g' s' =
      either (g.0 == g'.0)
      (λ t. subst (λ (a : Addr). IsGrown few s' (tree few.hops a s')) (addr_same g g' t)
      (subst (IsGrown few s') (sym (tree_part s')) (grown_same s' (tree net.hops g s') (all g s'))))
      (λ f. subst (IsGrown few s') (sym (ap (each (λ (r : TreeHop). r.hop))
      (filter_none (of_tree g' s') (of_group g)
      (λ r a b.
      let here : g ≡ g' = sym (addr_same r.group g b) ∙ addr_same r.group g' (and_both (of_group g' r) _ a).0 in
      true_false _ (number_same g.0 g'.0 (ap (λ (x : Addr). x.0) here)) f) net.hops))) tt)

  in_net : (r : TreeHop) → In r few.hops → In r net.hops
  in_net r i = (in_filter (of_group g) r net.hops i).0

  group_net : (g' : Addr) (x : LinkHop) → In x (hops_of few.hops g') → In x (hops_of net.hops g')
  group_net g' x i =
      let q = in_group few.hops g' x i in
      subst (λ (a : Addr). In x (hops_of net.hops a)) q.2 (subst (λ (y : LinkHop). In y (hops_of net.hops q.0.group)) q.3 (to_group net.hops q.0 (in_net q.0 q.1)))

  tree_net : (g' s' : Addr) (x : LinkHop) → In x (tree few.hops g' s') → In x (tree net.hops g' s')
  tree_net g' s' x i =
      let q = in_tree few.hops g' s' x i in
      subst (λ (a : Addr). In x (tree net.hops a s')) q.2 (subst (λ (a : Addr). In x (tree net.hops q.0.group a)) q.3
      (subst (λ (y : LinkHop). In y (tree net.hops q.0.group q.0.source)) q.4 (to_tree net.hops q.0 (in_net q.0 q.1))))

  free_few : IsLoopFree net → IsLoopFree few
  free_few free g' =
      free_map (followers few g') (followers net g') (hops_of few.hops g') (hops_of net.hops g') (group_net g')
      (λ x y i j. let f = follower_follows few g' x y j in
      follows_follower net g' x y (record { source = f.source; first = tree_net g' f.source x f.first; second = tree_net g' f.source y f.second; meet = f.meet })) (free g')

  pub valid_part : IsValid net → IsValid few
  valid_part valid = record {
    few_nodes = valid.few_nodes;
    few_ends = valid.few_ends;
    few_links = valid.few_links;
    few_hops = let a = filter_less (of_group g) (of_group g) net.hops in let b = valid.few_hops in omega arith;
    placed = valid.placed;
    one_address = valid.one_address;
    linked = valid.linked;
    nodes_apart = valid.nodes_apart;
    ends_of_links = valid.ends_of_links;
    rising = valid.rising;
    apart = valid.apart;
    one_link = valid.one_link;
    grown = grown_part valid.grown;
    loop_free = free_few valid.loop_free;
  }

-- ---- the hops of other groups stay
module _ (net : Net) (g : Addr) (rs : List TreeHop) (stay : StayOthers g net.hops rs) (h : Addr) (apart : g ≡ h → ⊥) where
  pub hops_stay : hops_of rs h ≡ hops_of net.hops h
  hops_stay = ap (each (λ (r : TreeHop). r.hop)) (stay h apart)

  pub rank_stays : (x : LinkHop) → rank (with_hops net rs) h x ≡ rank net h x
  rank_stays x = sym (rank_part (with_hops net rs) h x) ∙ ap (λ (some : List TreeHop). rank (with_hops net some) h x) (stay h apart) ∙ rank_part net h x
