-- The tree of a sender of a seed is all hops that lead away from its node, and at most three of them go out of it.
use Rattle.std.proofs.Common.{◌≡◌, ℕ, ◌≤◌, true, List, [], ◌∷◌, ◌++◌, length, refl, sym, ap, subst, ◌∙◌, inl, ⊎_elim, arith}
use Rattle.std.specs.Prelude.{map as each, nat_le}
use Rattle.std.specs.List.{filter, flat_map, list_all, range_with_len}
use Rattle.std.proofs.lemmas.Bool.{leb-true}
use Rattle.rsvp_base.specs.declared.addr.Addr.{Addr}
use Rattle.rsvp_base.specs.Members.{In}
use Rattle.rsvp_base.proofs.Members.{in_each, to_each}
use Rattle.tree_model.specs.declared.hops.LinkHop.{LinkHop}
use Rattle.tree_model.specs.declared.hops.TreeHop.{TreeHop}
use Rattle.tree_model.specs.declared.locals.LocalSender.{LocalSender}
use Rattle.tree_model.specs.Chains.{NoRepeats}
use Rattle.tree_model.specs.Trees.{goes_out_of, tree}
use Rattle.tree_model.proofs.Following.{in_tree}
use Rattle.network_model.specs.Steps.{tree_hop}
use Rattle.grown_network.specs.Grown.{grown_net, tree_of}
use Rattle.grown_network.specs.Growing.{tree_key}
use Rattle.grown_network.specs.Hops.{hops_away, hops_down, way_up}
use Rattle.grown_network.specs.Hosts.{senders}
use Rattle.grown_network.specs.Nodes.{ends_up_to}
use Rattle.grown_network.proofs.Planting.{number_away, tree_append, tree_itself}
use Rattle.grown_network.proofs.Ranges.{at_each}
use Rattle.grown_network.proofs.Senders.{apart, own_hop}

none : (hs : List LinkHop) → ((h : LinkHop) → In h hs → ⊥) → hs ≡ []
none [] all = refl
none (h ∷ hs) all = absurd (all h (inl refl))

append_none : (xs : List LinkHop) → xs ++ [] ≡ xs
append_none [] = refl
append_none (x ∷ xs) = ap (λ (ys : List LinkHop). x ∷ ys) (append_none xs)

whole : (xs : List LocalSender) → NoRepeats (each tree_key xs) → (x : LocalSender) → In x xs → tree (flat_map tree_of xs) x.session.group x.sender.addr ≡ hops_away x.node
whole [] once x i = absurd i
whole (y ∷ ys) once x i =
    let g : Addr = x.session.group in
    let s : Addr = x.sender.addr in
    let parts = tree_append (tree_of y) (flat_map tree_of ys) g s in
    ⊎_elim
    (λ (same : x ≡ y).
    let rest : tree (flat_map tree_of ys) g s ≡ [] =
    none (tree (flat_map tree_of ys) g s)
    (λ h j.
    let t = in_tree (flat_map tree_of ys) g s h j in
    let z = own_hop ys t.0 t.1 in
    let key : ◌≡◌ {A = Addr × Addr} (tree_key z.0) (tree_key y) = (λ k. ((sym z.2 ∙ t.2 ∙ ap (λ (d : LocalSender). d.session.group) same) k, (sym z.3 ∙ t.3 ∙ ap (λ (d : LocalSender). d.sender.addr) same) k)) in
    once.0 (subst (λ (k : Addr × Addr). In k (each tree_key ys)) key (to_each tree_key z.0 ys z.1))) in
    let own : tree (tree_of y) g s ≡ hops_away x.node =
    ap (λ (d : LocalSender). tree (tree_of d) g s) (sym same) ∙ tree_itself g s (hops_away x.node) in
    parts ∙ (λ k. own k ++ rest k) ∙ append_none (hops_away x.node))
    (λ (later : In x ys).
    let first : tree (tree_of y) g s ≡ [] =
    none (tree (tree_of y) g s)
    (λ h j.
    let t = in_tree (tree_of y) g s h j in
    let z = in_each (tree_hop y.session.group y.sender.addr) t.0 (hops_away y.node) t.1 in
    let key : ◌≡◌ {A = Addr × Addr} (tree_key x) (tree_key y) = (λ k. ((sym t.2 ∙ ap (λ (d : TreeHop). d.group) z.2) k, (sym t.3 ∙ ap (λ (d : TreeHop). d.source) z.2) k)) in
    once.0 (subst (λ (k : Addr × Addr). In k (each tree_key ys)) key (to_each tree_key x ys later))) in
    parts ∙ ap (λ (hs : List LinkHop). hs ++ tree (flat_map tree_of ys) g s) first ∙ whole ys once.1 x later) i

pub whole_tree : (seed : ℕ) (x : LocalSender) → In x (senders seed) → tree (grown_net seed).hops x.session.group x.sender.addr ≡ hops_away x.node
whole_tree seed x i = whole (senders seed) (apart seed).once x i

pub long_tree : (seed : ℕ) (x : LocalSender) → In x (senders seed) → length (tree (grown_net seed).hops x.session.group x.sender.addr) ≡ 63
long_tree seed x i = ap length (whole_tree seed x i) ∙ number_away x.node ((apart seed).home_at x i).within

outs_tested : list_all (λ r. nat_le (length (filter (goes_out_of (ends_up_to 63) r) (hops_away r))) 3) (range_with_len 0 64) ≡ true
unfolding hops_away hops_down way_up ends_up_to
outs_tested = refl

pub few_outs : (seed : ℕ) (x : LocalSender) → In x (senders seed) → length (filter (goes_out_of (ends_up_to 63) x.node) (tree (grown_net seed).hops x.session.group x.sender.addr)) ≤ 3
few_outs seed x i =
    let same = ap (λ (hs : List LinkHop). length (filter (goes_out_of (ends_up_to 63) x.node) hs)) (whole_tree seed x i) in
    let within = ((apart seed).home_at x i).within in
    let few = leb-true (length (filter (goes_out_of (ends_up_to 63) x.node) (hops_away x.node))) 3
    (at_each (λ r. nat_le (length (filter (goes_out_of (ends_up_to 63) r) (hops_away r))) 3) 0 64 x.node outs_tested (omega arith) (omega (arith, within))) in
    omega (arith, same, few)
