-- Paths, counted by senders and ends.
use Rattle.std.proofs.Common.{◌≡◌, ℕ, ◌<◌, List, length, Bool, cond, arith, sym, refl, ap, subst, ◌∙◌}
use Rattle.std.specs.Prelude.{◌==◌, ◌&&◌, ◌↔◌, map as each, sum_by}
use Rattle.std.specs.List.{filter, list_any, range_with_len}
use Rattle.rsvp_base.specs.Members.{In}
use Rattle.rsvp_base.specs.declared.addr.Addr.{Addr}
use Rattle.rsvp_base.proofs.Filters.{same_test}
use Rattle.rsvp_base.proofs.Members.{any_in, in_any, in_each, in_filter, to_each, to_filter}
use Rattle.rsvp_base.proofs.SetLaws.{and_both, and_made}
use Rattle.tree_model.specs.Networks.{Net, ends_of, peers}
use Rattle.tree_model.specs.Ranks.{has_hop}
use Rattle.tree_model.specs.Trees.{tree}
use Rattle.tree_model.specs.Valid.{IsValid}
use Rattle.tree_model.specs.declared.hops.LinkHop.{LinkHop}
use Rattle.tree_model.specs.declared.locals.LocalSender.{LocalSender}
use Rattle.tree_model.proofs.Following.{addr_itself, has_hop_in, in_has_hop, tree_group}
use Rattle.tree_routing.specs.Order.{AreByRank}
use Rattle.tree_routing.specs.declared.group_hop.GroupHop.{GroupHop}
use Rattle.network_demand.specs.Counts.{all_copies, copies, is_in_tree, paths_of, tree_hops}
use Rattle.network_demand.specs.Overhead.{leaves_by, path_overhead}
use Rattle.network_demand.proofs.Bounds.{over_ends}
use Rattle.network_demand.proofs.CountSums.{sum_alike, sum_filter, sum_swap}

any_same : {A : Type 0} (p : A → Bool) (xs ys : List A) → ((x : A) → In x xs → In x ys) → ((x : A) → In x ys → In x xs) → list_any p xs ≡ list_any p ys
any_same p xs ys forth back =
    same_test (list_any p xs) (list_any p ys) (λ t. let r = in_any p xs t in any_in p r.0 ys (forth r.0 r.1) r.2) (λ t. let r = in_any p ys t in any_in p r.0 xs (back r.0 r.1) r.2)

module _ (net : Net) (order : List GroupHop) (by : AreByRank net order) (g s : Addr) where
  from_tree : (h : LinkHop) → In h (tree net.hops g s) → In h (tree_hops net order g s)
  from_tree h i =
      to_each (λ (x : GroupHop). x.hop) (record { group = g; hop = h }) (filter (is_in_tree net g s) order)
      (to_filter (is_in_tree net g s) (record { group = g; hop = h }) order (by.all g h (tree_group net.hops g s h i))
      (and_made (g.0 == g.0) (has_hop (tree net.hops g s) h) (addr_itself g) (in_has_hop (tree net.hops g s) h i)))

  to_its_tree : (h : LinkHop) → In h (tree_hops net order g s) → In h (tree net.hops g s)
  to_its_tree h i =
      let x = in_each (λ (x : GroupHop). x.hop) h (filter (is_in_tree net g s) order) i in
      let f = in_filter (is_in_tree net g s) x.0 order x.1 in
      let both = and_both (x.0.group.0 == g.0) (has_hop (tree net.hops g s) x.0.hop) f.1 in
      subst (λ (y : LinkHop). In y (tree net.hops g s)) (sym x.2) (has_hop_in (tree net.hops g s) x.0.hop both.1)

  -- the order of a tree's hops does not matter
  pub copies_same : all_copies net (tree_hops net order g s) ≡ all_copies net (tree net.hops g s)
  copies_same =
      sum_alike (copies net (tree_hops net order g s)) (copies net (tree net.hops g s)) (range_with_len 0 (length net.ends))
      (λ e i. ap (λ (b : Bool). cond b (length (peers net.links e)) 0) (any_same (λ h. h.from == e) (tree_hops net order g s) (tree net.hops g s) to_its_tree from_tree))

module _ (net : Net) (valid : IsValid net) where
  -- a sender's Paths at all nodes
  one_sender : (x : LocalSender) → sum_by (λ n. path_overhead net n x) (range_with_len 0 net.nodes) ≡ paths_of net x
  one_sender x =
      sum_alike (λ n. path_overhead net n x) (λ n. sum_by (copies net (tree net.hops x.session.group x.sender.addr)) (ends_of net.ends n)) (range_with_len 0 net.nodes)
      (λ n i. sum_filter (λ e. length (peers net.links e)) (leaves_by net x) (ends_of net.ends n))
      ∙ over_ends (copies net (tree net.hops x.session.group x.sender.addr)) net.nodes 0 net.ends valid.placed

  pub paths_are : (xs : List LocalSender) → sum_by (λ n. sum_by (path_overhead net n) xs) (range_with_len 0 net.nodes) ≡ sum_by (paths_of net) xs
  paths_are xs =
      sum_swap (path_overhead net) (range_with_len 0 net.nodes) xs
      ∙ sum_alike (λ x. sum_by (λ n. path_overhead net n x) (range_with_len 0 net.nodes)) (paths_of net) xs (λ x i. one_sender x)
