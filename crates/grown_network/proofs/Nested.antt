-- Which trees have a hop that follows another: all that have the one before it, and no tree has two that come into a node.
use Rattle.std.proofs.Common.{◌≡◌, ◌⊎◌, ℕ, ◌<◌, ◌≤◌, Bool, true, false, List, refl, sym, ap, subst, ◌∙◌, inl, inr, ⊎_elim, arith}
use Rattle.std.specs.Prelude.{map as each, not, ◌==◌, ◌||◌}
use Rattle.std.specs.List.{filter, list_all, range_with_len}
use Rattle.rsvp_base.specs.declared.addr.Addr.{Addr}
use Rattle.rsvp_base.specs.Members.{In}
use Rattle.rsvp_base.proofs.Members.{all_in, in_left, in_right, to_each, to_filter, to_flat_map}
use Rattle.rsvp_base.proofs.SetLaws.{or_either}
use Rattle.tree_model.specs.declared.hops.LinkHop.{LinkHop}
use Rattle.tree_model.specs.declared.locals.LocalSender.{LocalSender}
use Rattle.tree_model.specs.Networks.{among, node_of}
use Rattle.tree_model.specs.Ranks.{Follows}
use Rattle.tree_model.specs.Trees.{tree}
use Rattle.tree_model.proofs.Following.{in_tree, same_number, number_same, to_tree}
use Rattle.tree_model.proofs.Links.{among_in}
use Rattle.network_model.specs.Steps.{tree_hop}
use Rattle.grown_network.specs.Grown.{grown_net, tree_of}
use Rattle.grown_network.specs.Hops.{hop_down, hop_up, hops_away, hops_down, way_up}
use Rattle.grown_network.specs.Hosts.{senders}
use Rattle.grown_network.specs.Nodes.{above, down_end, ends_up_to, up_end}
use Rattle.grown_network.proofs.Chains.{IsAway, away_is}
use Rattle.grown_network.proofs.Climbs.{way_above}
use Rattle.grown_network.proofs.Links.{node_down, node_up, one_home}
use Rattle.grown_network.proofs.Ranges.{at_each, to_range}
use Rattle.grown_network.proofs.Senders.{apart, own_hop}

-- ---- two nodes of a way that hang on one node are one
abbrev is_apart : List ℕ → ℕ → ℕ → Bool
is_apart way i j = not (above i == above j) || (i == j)

abbrev are_apart : ℕ → Bool
are_apart r = list_all (λ i. list_all (λ j. is_apart (way_up r) i j) (way_up r)) (way_up r)

apart_tested : list_all are_apart (range_with_len 0 64) ≡ true
unfolding way_up
apart_tested = refl

one_above : (r : ℕ) → r < 64 → (i j : ℕ) → In i (way_up r) → In j (way_up r) → above i ≡ above j → i ≡ j
one_above r lt i j a b same =
    let all = at_each are_apart 0 64 r apart_tested (omega arith) (omega arith) in
    let one : is_apart (way_up r) i j ≡ true = all_in (λ j. is_apart (way_up r) i j) (way_up r) (all_in (λ i. list_all (λ j. is_apart (way_up r) i j) (way_up r)) (way_up r) all i a) j b in
    ⊎_elim
    (λ (e : not (above i == above j) ≡ true). let bad : not true ≡ true = ap not (sym (number_same (above i) (above j) same)) ∙ e in absurd (cc))
    (λ (e : (i == j) ≡ true). same_number i j e) (or_either (not (above i == above j)) (i == j) one)

-- ---- a hop away from a node, and back
up_back : (r k : ℕ) → In k (way_up r) → In (hop_up k) (hops_away r)
unfolding hops_away
up_back r k i = in_left (hop_up k) (each hop_up (way_up r)) (hops_down (way_up r) 63) (to_each hop_up k (way_up r) i)

down_back : (r k : ℕ) → 1 ≤ k → k < 64 → (In k (way_up r) → ⊥) → In (hop_down k) (hops_away r)
unfolding hops_away hops_down
down_back r k some within off =
    in_right (hop_down k) (each hop_up (way_up r)) (each hop_down (filter (λ k. not (among k (way_up r))) (range_with_len 1 63)))
    (to_each hop_down k (filter (λ k. not (among k (way_up r))) (range_with_len 1 63))
    (to_filter (λ k. not (among k (way_up r))) k (range_with_len 1 63) (to_range 1 63 k some (omega arith)) (by (among k (way_up r)) refl)))
  where
    by : (b : Bool) → among k (way_up r) ≡ b → not b ≡ true
    by true e = absurd (off (among_in k (way_up r) e))
    by false e = refl

-- a hop up is over the link of one node, and so is a hop down; none is both
up_told : (r k : ℕ) → r < 64 → 1 ≤ k → In (hop_up k) (hops_away r) → In k (way_up r)
up_told r k lt some i =
    let a = away_is r lt (hop_up k) i in
    let pos = a.some in
    ⊎_elim
    (λ (u : In a.node (way_up r) × (hop_up k ≡ hop_up a.node)).
    let e : up_end k ≡ up_end a.node = ap (λ (h : LinkHop). h.from) u.1 in
    let same : a.node ≡ k = omega (arith, e, some, pos) in
    subst (λ (j : ℕ). In j (way_up r)) same u.0)
    (λ (d : (In a.node (way_up r) → ⊥) × (hop_up k ≡ hop_down a.node)).
    let e : up_end k ≡ down_end a.node = ap (λ (h : LinkHop). h.from) d.1 in absurd (omega (arith, e, some, pos))) a.way

down_told : (r k : ℕ) → r < 64 → 1 ≤ k → In (hop_down k) (hops_away r) → In k (way_up r) → ⊥
down_told r k lt some i on =
    let a = away_is r lt (hop_down k) i in
    let pos = a.some in
    ⊎_elim
    (λ (u : In a.node (way_up r) × (hop_down k ≡ hop_up a.node)).
    let e : down_end k ≡ up_end a.node = ap (λ (h : LinkHop). h.from) u.1 in omega (arith, e, some, pos))
    (λ (d : (In a.node (way_up r) → ⊥) × (hop_down k ≡ hop_down a.node)).
    let e : down_end k ≡ down_end a.node = ap (λ (h : LinkHop). h.from) d.1 in
    let same : k ≡ a.node = omega (arith, e, some, pos) in
    d.0 (subst (λ (j : ℕ). In j (way_up r)) same on)) a.way

-- ---- where two hops follow each other away from one node, each node that the first leads away from has the second
pub away_nested : (r s : ℕ) → r < 64 → s < 64 → (h h' : LinkHop) → In h (hops_away r) → In h' (hops_away r) → node_of (ends_up_to 63) h'.from ≡ node_of (ends_up_to 63) h.to
    → In h (hops_away s) → In h' (hops_away s)
away_nested r s lt ls h h' i j meet over = by a.way b.way
  where
    a : IsAway r h
    a = away_is r lt h i

    b : IsAway r h'
    b = away_is r lt h' j

    la : 1 ≤ a.node
    la = a.some

    lb : 1 ≤ b.node
    lb = b.some

    ha : a.node < 64
    ha = a.within

    hb : b.node < 64
    hb = b.within

    from_up : h' ≡ hop_up b.node → node_of (ends_up_to 63) h'.from ≡ b.node
    from_up e = ap (λ (x : LinkHop). node_of (ends_up_to 63) x.from) e ∙ node_up 63 b.node lb (omega (arith, hb))

    from_down : h' ≡ hop_down b.node → node_of (ends_up_to 63) h'.from ≡ above b.node
    from_down e = ap (λ (x : LinkHop). node_of (ends_up_to 63) x.from) e ∙ node_down 63 b.node lb (omega (arith, hb))

    to_up : h ≡ hop_up a.node → node_of (ends_up_to 63) h.to ≡ above a.node
    to_up e = ap (λ (x : LinkHop). node_of (ends_up_to 63) x.to) e ∙ node_down 63 a.node la (omega (arith, ha))

    to_down : h ≡ hop_down a.node → node_of (ends_up_to 63) h.to ≡ a.node
    to_down e = ap (λ (x : LinkHop). node_of (ends_up_to 63) x.to) e ∙ node_up 63 a.node la (omega (arith, ha))

    by : (In a.node (way_up r) × (h ≡ hop_up a.node)) ⊎ ((In a.node (way_up r) → ⊥) × (h ≡ hop_down a.node))
        → (In b.node (way_up r) × (h' ≡ hop_up b.node)) ⊎ ((In b.node (way_up r) → ⊥) × (h' ≡ hop_down b.node)) → In h' (hops_away s)
    by (inl p) (inl q) =
        let same : above a.node ≡ b.node = sym (to_up p.1) ∙ sym meet ∙ from_up q.1 in
        let on : In a.node (way_up s) = up_told s a.node ls la (subst (λ (x : LinkHop). In x (hops_away s)) p.1 over) in
        let next : In b.node (way_up s) = ⊎_elim (λ (e : above a.node ≡ 0). absurd (omega (arith, same, e, lb))) (λ (k : In (above a.node) (way_up s)). subst (λ (x : ℕ). In x (way_up s)) same k)
        (way_above s ls a.node on) in
        subst (λ (x : LinkHop). In x (hops_away s)) (sym q.1) (up_back s b.node next)
    by (inl p) (inr q) =
        let same : above a.node ≡ above b.node = sym (to_up p.1) ∙ sym meet ∙ from_down q.1 in
        let on : In a.node (way_up s) = up_told s a.node ls la (subst (λ (x : LinkHop). In x (hops_away s)) p.1 over) in
        let off : In b.node (way_up s) → ⊥ = (λ k. q.0 (subst (λ (x : ℕ). In x (way_up r)) (one_above s ls a.node b.node on k same) p.0)) in
        subst (λ (x : LinkHop). In x (hops_away s)) (sym q.1) (down_back s b.node lb hb off)
    by (inr p) (inl q) =
        let same : b.node ≡ a.node = sym (from_up q.1) ∙ meet ∙ to_down p.1 in
        absurd (p.0 (subst (λ (k : ℕ). In k (way_up r)) same q.0))
    by (inr p) (inr q) =
        let same : above b.node ≡ a.node = sym (from_down q.1) ∙ meet ∙ to_down p.1 in
        let gone : In a.node (way_up s) → ⊥ = down_told s a.node ls la (subst (λ (x : LinkHop). In x (hops_away s)) p.1 over) in
        let off : In b.node (way_up s) → ⊥ =
        (λ k. ⊎_elim (λ (e : above b.node ≡ 0). omega (arith, same, e, la)) (λ (m : In (above b.node) (way_up s)). gone (subst (λ (x : ℕ). In x (way_up s)) same m)) (way_above s ls b.node k)) in
        subst (λ (x : LinkHop). In x (hops_away s)) (sym q.1) (down_back s b.node lb hb off)

-- ---- in the network of a seed
module _ (seed : ℕ) (g : Addr) where
  -- a tree that has a hop is that of a sender, which has all hops that lead away from its node
  record IsOfSender (source : Addr) (h : LinkHop) : Type 0 where
    sender : LocalSender
    there : In sender (senders seed)
    group : sender.session.group ≡ g
    addr : sender.sender.addr ≡ source
    away : In h (hops_away sender.node)

  of_sender : (source : Addr) (h : LinkHop) → In h (tree (grown_net seed).hops g source) → IsOfSender source h
  of_sender source h i =
      let t = in_tree (grown_net seed).hops g source h i in
      let x = own_hop (senders seed) t.0 t.1 in
      record { sender = x.0; there = x.1; group = sym x.2 ∙ t.2; addr = sym x.3 ∙ t.3; away = subst (λ (y : LinkHop). In y (hops_away x.0.node)) t.4 x.4 }

  to_sender : (x : LocalSender) → In x (senders seed) → x.session.group ≡ g → (h : LinkHop) → In h (hops_away x.node) → In h (tree (grown_net seed).hops g x.sender.addr)
  to_sender x i group h away =
      let t : In (tree_hop x.session.group x.sender.addr h) (grown_net seed).hops =
      to_flat_map tree_of x (tree_hop x.session.group x.sender.addr h) (senders seed) i (to_each (tree_hop x.session.group x.sender.addr) h (hops_away x.node) away) in
      subst (λ (z : Addr). In h (tree (grown_net seed).hops z x.sender.addr)) group (to_tree (grown_net seed).hops (tree_hop x.session.group x.sender.addr h) t)

  pub grown_nested : (h h' : LinkHop) → Follows (grown_net seed) g h h' → (source : Addr) → In h (tree (grown_net seed).hops g source) → In h' (tree (grown_net seed).hops g source)
  grown_nested h h' f source i =
      let a = of_sender f.source h f.first in
      let b = of_sender f.source h' f.second in
      let c = of_sender source h i in
      let at_a = (apart seed).home_at a.sender a.there in
      let at_b = (apart seed).home_at b.sender b.there in
      let at_c = (apart seed).home_at c.sender c.there in
      let same : b.sender.node ≡ a.sender.node = one_home b.sender.node a.sender.node at_b.within at_a.within (sym at_b.home_is ∙ b.addr ∙ sym a.addr ∙ at_a.home_is) in
      let second : In h' (hops_away a.sender.node) = subst (λ (n : ℕ). In h' (hops_away n)) same b.away in
      let over = away_nested a.sender.node c.sender.node at_a.within at_c.within h h' a.away second f.meet c.away in
      subst (λ (z : Addr). In h' (tree (grown_net seed).hops g z)) c.addr (to_sender c.sender c.there c.group h' over)
