-- A grown network is valid.
use Rattle.std.proofs.Common.{◌≡◌, ℕ, ◌+◌, ◌≤◌, zero, suc, Bool, true, false, cond, List, [], ◌∷◌, ◌++◌, length, refl, sym, ap, subst, ◌∙◌, inl, inr, arith, append_assoc}
use Rattle.std.specs.List.{filter, flat_map}
use Rattle.std.specs.Prelude.{map as each, if◌then◌else◌}
use Rattle.std.proofs.lemmas.List.{length-map}
use Rattle.rsvp_base.specs.declared.addr.Addr.{Addr}
use Rattle.rsvp_base.specs.Members.{In}
use Rattle.rsvp_base.proofs.Members.{in_each, in_right}
use Rattle.tree_model.specs.Chains.{Chain, height, largest}
use Rattle.tree_model.specs.declared.hops.LinkHop.{LinkHop}
use Rattle.tree_model.specs.declared.hops.TreeHop.{TreeHop}
use Rattle.tree_model.specs.declared.locals.LocalSender.{LocalSender}
use Rattle.tree_model.specs.Networks.{Net}
use Rattle.tree_model.specs.Ranks.{followers, has_hop, longest, rank, rank_of}
use Rattle.tree_model.specs.Trees.{hops_of, of_group}
use Rattle.tree_model.specs.Valid.{IsValid}
use Rattle.grown_network.specs.Grown.{grown_net, net_with, tree_of}
use Rattle.grown_network.specs.Growing.{AreApart, hung_up_to, nodes_alone}
use Rattle.grown_network.specs.Hosts.{senders}
use Rattle.grown_network.specs.Nodes.{ends_up_to, links_up_to}
use Rattle.grown_network.proofs.Hanging.{flat_append, valid_more}
use Rattle.grown_network.proofs.Planting.{valid_tree}
use Rattle.grown_network.proofs.Senders.{apart, takes_next}

-- ---- nodes
no_chain : (n : ℕ) (g : Addr) (h : LinkHop) (c : List LinkHop) → Chain (followers (nodes_alone n) g) [] (h ∷ c) → ⊥
no_chain n g h [] i = i
no_chain n g h (x ∷ c) i = i.0

valid_nodes : (n : ℕ) → n ≤ 256 → IsValid (nodes_alone n)
valid_nodes n few = record {
  few_nodes = few;
  few_ends = λ m. omega arith;
  few_links = omega arith;
  few_hops = omega arith;
  placed = λ e i. absurd i;
  one_address = λ i j d e a b same. absurd (cc);
  linked = λ l i. absurd i;
  nodes_apart = λ l a b i j k same. absurd i;
  ends_of_links = λ l e i j. absurd i;
  rising = λ l i. absurd i;
  apart = λ i j l m e a b u v. absurd (cc);
  one_link = λ a b e. absurd (cc);
  grown = λ g s. tt;
  loop_free = λ g h c closed. no_chain n g h c closed.0;
}

-- ---- links
pub hung_first : nodes_alone 64 ≡ hung_up_to 0
unfolding ends_up_to links_up_to
hung_first = refl

valid_hung : (n : ℕ) → n ≤ 63 → IsValid (hung_up_to n)
valid_hung zero few = subst IsValid hung_first (valid_nodes 64 (omega arith))
valid_hung (suc n) few =
    let next : n + 1 ≡ suc n = omega arith in
    subst (λ (m : ℕ). IsValid (hung_up_to m)) next (valid_more n (omega arith) (valid_hung n (omega arith)))

-- ---- trees
pub one_tree_more : (xs : List LocalSender) (x : LocalSender) → flat_map tree_of (xs ++ x ∷ []) ≡ flat_map tree_of xs ++ tree_of x
one_tree_more xs x = flat_append tree_of xs (x ∷ []) ∙ ap (λ (ts : List TreeHop). flat_map tree_of xs ++ ts) (none (tree_of x))
  where
    none : (ts : List TreeHop) → ts ++ [] ≡ ts
    none [] = refl
    none (t ∷ ts) = ap (λ (zs : List TreeHop). t ∷ zs) (none ts)

valid_trees : (seed : ℕ) (rest xs : List LocalSender) → senders seed ≡ xs ++ rest → IsValid (net_with (flat_map tree_of xs)) → IsValid (grown_net seed)
valid_trees seed [] xs parts valid = subst (λ (ys : List LocalSender). IsValid (net_with (flat_map tree_of ys))) (sym (parts ∙ none xs)) valid
  where
    none : (ys : List LocalSender) → ys ++ [] ≡ ys
    none [] = refl
    none (y ∷ ys) = ap (λ (zs : List LocalSender). y ∷ zs) (none ys)
valid_trees seed (x ∷ rest) xs parts valid =
    let all = subst AreApart parts (apart seed) in
    let here = all.home_at x (in_right x xs (x ∷ rest) (inl refl)) in
    let takes = takes_next xs x rest all in
    let more = valid_tree (net_with (flat_map tree_of xs)) x here takes valid in
    valid_trees seed rest (xs ++ x ∷ []) (parts ∙ sym (append_assoc xs (x ∷ []) rest)) (subst (λ (ts : List TreeHop). IsValid (net_with ts)) (sym (one_tree_more xs x)) more)

pub valid_grown : (seed : ℕ) → IsValid (grown_net seed)
valid_grown seed = valid_trees seed (senders seed) [] refl (valid_hung 63 (omega arith))

-- ---- its chains are short
largest_within : (n : ℕ) (ns : List ℕ) → ((m : ℕ) → In m ns → m ≤ n) → largest ns ≤ n
largest_within n [] all = omega arith
largest_within n (m ∷ ms) all = let here = all m (inl refl) in let rest = largest_within n ms (λ k i. all k (inr i)) in omega (arith, here, rest)

height_within : {A : Type 0} (follow : A → List A) (n : ℕ) (h : A) → height follow n h ≤ n
height_within follow zero h = omega arith
height_within {A} follow (suc n) h =
    let le = largest_within n (each (λ (x : A). height follow n x) (follow h)) (λ m i. let x = in_each (λ (x : A). height follow n x) m (follow h) i in
    subst (λ (k : ℕ). k ≤ n) (sym x.2) (height_within follow n x.0)) in
    omega (arith, le)

few_filtered : {A : Type 0} (p : A → Bool) (xs : List A) → length (filter p xs) ≤ length xs
few_filtered p [] = omega arith
few_filtered {A} p (x ∷ xs) = by (p x) (few_filtered p xs)
  where
    by : (b : Bool) → length (filter p xs) ≤ length xs → length (cond b (x ∷ filter p xs) (filter p xs)) ≤ suc (length xs)
    by true le = omega (arith, le)
    by false le = omega (arith, le)

rank_within_hops : (net : Net) (g : Addr) (h : LinkHop) → rank net g h ≤ length net.hops
rank_within_hops net g h = by (has_hop (hops_of net.hops g) h)
  where
    by : (b : Bool) → (if b then height (followers net g) (length (hops_of net.hops g)) h else 0) ≤ length net.hops
    by true =
        let a = height_within (followers net g) (length (hops_of net.hops g)) h in
        let b = length-map (filter (of_group g) net.hops) (λ (r : TreeHop). r.hop) in
        let c = few_filtered (of_group g) net.hops in
        omega (arith, a, b, c)
    by false = omega arith

longest_within : (net : Net) → longest net ≤ length net.hops
longest_within net = largest_within (length net.hops) (each (rank_of net) net.hops) (λ m i. let r = in_each (rank_of net) m net.hops i in
    subst (λ (k : ℕ). k ≤ length net.hops) (sym r.2) (rank_within_hops net r.0.group r.0.hop))

pub longest_grown : (seed : ℕ) → longest (grown_net seed) ≤ 8192
longest_grown seed = let a = longest_within (grown_net seed) in let b = (valid_grown seed).few_hops in omega (arith, a, b)

pub longest_of : (seed : ℕ) (net : Net) → net ≡ grown_net seed → longest net ≤ 8192
longest_of seed net is = subst (λ (n : Net). longest n ≤ 8192) (sym is) (longest_grown seed)
