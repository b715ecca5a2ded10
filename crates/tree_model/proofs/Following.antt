-- The followers of a hop are the hops that follow it.
use Rattle.std.specs.Prelude.{◌≡◌, ◌↔◌, ℕ, true, ◌==◌, List, refl}
use Rattle.std.specs.List.{filter, list_any}
use Rattle.std.proofs.Common.{sym, subst, eqb-true, eq-eqb}
use Rattle.rsvp_base.specs.Members.{In}
use Rattle.rsvp_base.specs.declared.addr.Addr.{Addr}
use Rattle.rsvp_base.specs.Orders.{addr_apart}
use Rattle.rsvp_base.proofs.Members.{in_each, to_each, in_filter, to_filter, in_any, any_in}
use Rattle.rsvp_base.proofs.SetLaws.{and_both, and_made}
use Rattle.tree_model.specs.declared.hops.LinkHop.{LinkHop}
use Rattle.tree_model.specs.declared.hops.TreeHop.{TreeHop}
use Rattle.tree_model.specs.Networks.{Net, node_of}
use Rattle.tree_model.specs.Trees.{of_group, of_tree, tree, hops_of}
use Rattle.tree_model.specs.Ranks.{Follows, same_hop, has_hop, holds_both, follows, followers}

-- ---- tests of equality
pub same_number : (a b : ℕ) → (a == b) ≡ true → a ≡ b
same_number a b e = eqb-true a b e

pub number_same : (a b : ℕ) → a ≡ b → (a == b) ≡ true
number_same a b e = eq-eqb a b e

pub hop_same : (a b : LinkHop) → same_hop a b ≡ true → a ≡ b
hop_same a b e =
    let parts = and_both (a.from == b.from) (a.to == b.to) e in
    let f = same_number a.from b.from parts.0 in
    let t = same_number a.to b.to parts.1 in
    λ i. record { from = f i; to = t i }

pub same_itself : (a : LinkHop) → same_hop a a ≡ true
same_itself a = and_made _ _ (number_same a.from a.from refl) (number_same a.to a.to refl)

pub addr_same : (a b : Addr) → (a.0 == b.0) ≡ true → a ≡ b
addr_same a b e = addr_apart a b (same_number a.0 b.0 e)

pub addr_itself : (a : Addr) → (a.0 == a.0) ≡ true
addr_itself a = number_same a.0 a.0 refl

pub in_has_hop : (hs : List LinkHop) (h : LinkHop) → In h hs → has_hop hs h ≡ true
in_has_hop hs h i = any_in (same_hop h) h hs i (same_itself h)

pub has_hop_in : (hs : List LinkHop) (h : LinkHop) → has_hop hs h ≡ true → In h hs
has_hop_in hs h e = let x = in_any (same_hop h) hs e in subst (λ (y : LinkHop). In y hs) (sym (hop_same h x.0 x.2)) x.1

-- ---- hops of trees and groups
pub in_tree : (hops : List TreeHop) (g s : Addr) (h : LinkHop) → In h (tree hops g s) → (r : TreeHop) × In r hops × (r.group ≡ g) × (r.source ≡ s) × (r.hop ≡ h)
in_tree hops g s h i =
    let r = in_each (λ (r : TreeHop). r.hop) h (filter (of_tree g s) hops) i in
    let k = in_filter (of_tree g s) r.0 hops r.1 in
    let both = and_both (of_group g r.0) (r.0.source.0 == s.0) k.1 in
    (r.0, k.0, addr_same r.0.group g both.0, addr_same r.0.source s both.1, sym r.2)

pub to_tree : (hops : List TreeHop) (r : TreeHop) → In r hops → In r.hop (tree hops r.group r.source)
to_tree hops r i =
    to_each (λ (r : TreeHop). r.hop) r (filter (of_tree r.group r.source) hops)
    (to_filter (of_tree r.group r.source) r hops i (and_made _ _ (addr_itself r.group) (addr_itself r.source)))

pub in_group : (hops : List TreeHop) (g : Addr) (h : LinkHop) → In h (hops_of hops g) → (r : TreeHop) × In r hops × (r.group ≡ g) × (r.hop ≡ h)
in_group hops g h i =
    let r = in_each (λ (r : TreeHop). r.hop) h (filter (of_group g) hops) i in
    let k = in_filter (of_group g) r.0 hops r.1 in
    (r.0, k.0, addr_same r.0.group g k.1, sym r.2)

pub to_group : (hops : List TreeHop) (r : TreeHop) → In r hops → In r.hop (hops_of hops r.group)
to_group hops r i = to_each (λ (r : TreeHop). r.hop) r (filter (of_group r.group) hops) (to_filter (of_group r.group) r hops i (addr_itself r.group))

pub tree_group : (hops : List TreeHop) (g s : Addr) (h : LinkHop) → In h (tree hops g s) → In h (hops_of hops g)
tree_group hops g s h i =
    let r = in_tree hops g s h i in
    subst (λ (a : Addr). In h (hops_of hops a)) r.2 (subst (λ (x : LinkHop). In x (hops_of hops r.0.group)) r.4 (to_group hops r.0 r.1))

-- ---- followers
module _ (net : Net) (g : Addr) (h h' : LinkHop) where
  follows_told : follows net g h h' ≡ true → Follows net g h h'
  follows_told e =
      let both = and_both (node_of net.ends h'.from == node_of net.ends h.to) (list_any (holds_both net.hops g h h') net.hops) e in
      let r = in_any (holds_both net.hops g h h') net.hops both.1 in
      let held = and_both (of_group g r.0) _ r.2 in
      let hops = and_both (same_hop h r.0.hop) (has_hop (tree net.hops g r.0.source) h') held.1 in
      let here : In r.0.hop (tree net.hops g r.0.source) = subst (λ (a : Addr). In r.0.hop (tree net.hops a r.0.source)) (addr_same r.0.group g held.0) (to_tree net.hops r.0 r.1) in
      record {
        source = r.0.source;
        first = subst (λ (x : LinkHop). In x (tree net.hops g r.0.source)) (sym (hop_same h r.0.hop hops.0)) here;
        second = has_hop_in (tree net.hops g r.0.source) h' hops.1;
        meet = same_number _ _ both.0;
      }

  follows_tested : Follows net g h h' → follows net g h h' ≡ true
  follows_tested f =
      let r = in_tree net.hops g f.source h f.first in
      let mine : same_hop h r.0.hop ≡ true = subst (λ (x : LinkHop). same_hop x r.0.hop ≡ true) r.4 (same_itself r.0.hop) in
      let other : has_hop (tree net.hops g r.0.source) h' ≡ true = in_has_hop (tree net.hops g r.0.source) h' (subst (λ (a : Addr). In h' (tree net.hops g a)) (sym r.3) f.second) in
      let group : of_group g r.0 ≡ true = subst (λ (a : Addr). (r.0.group.0 == a.0) ≡ true) r.2 (addr_itself r.0.group) in
      and_made _ _ (number_same _ _ f.meet) (any_in (holds_both net.hops g h h') r.0 net.hops r.1 (and_made _ _ group (and_made _ _ mine other)))

  pub follower_follows : In h' (followers net g h) → Follows net g h h'
  follower_follows i = follows_told (in_filter (follows net g h) h' (hops_of net.hops g) i).1

  pub follows_follower : Follows net g h h' → In h' (followers net g h)
  follows_follower f = to_filter (follows net g h) h' (hops_of net.hops g) (tree_group net.hops g f.source h' f.second) (follows_tested f)

pub followers_follow : (net : Net) (g : Addr) (h h' : LinkHop) → In h' (followers net g h) ↔ Follows net g h h'
followers_follow net g h h' = (follower_follows net g h h', follows_follower net g h h')

-- a follower is a hop of the group
pub follower_of_group : (net : Net) (g : Addr) (h h' : LinkHop) → In h' (followers net g h) → In h' (hops_of net.hops g)
follower_of_group net g h h' i = (in_filter (follows net g h) h' (hops_of net.hops g) i).0
