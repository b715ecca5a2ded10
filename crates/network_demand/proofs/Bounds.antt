-- How much a valid network has: ends, other ends of a link, and hops of a group.
use Rattle.std.proofs.Common.{◌≡◌, ℕ, zero, suc, ◌+◌, ◌*◌, ◌<◌, ◌≤◌, List, [], ◌∷◌, length, Bool, true, false, cond, inl, inr, ⊎_elim, arith, sym, refl, ap, subst, ◌∙◌}
use Rattle.std.specs.Prelude.{◌==◌, ◌⊎◌, map as each, sum_by, not, if◌then◌else◌}
use Rattle.std.specs.List.{filter, range_with_len}
use Rattle.std.proofs.lemmas.List.{length-map}
use Rattle.std.proofs.lemmas.List.Sums.{sum_by-cons}
use Rattle.rsvp_base.specs.Members.{In}
use Rattle.rsvp_base.specs.declared.addr.Addr.{Addr}
use Rattle.rsvp_base.specs.declared.session.Session.{Session}
use Rattle.rsvp_base.specs.declared.style.StyleKind.{StyleKind}
use Rattle.rsvp_base.proofs.Lists.{length_filter}
use Rattle.rsvp_base.proofs.Members.{in_filter}
use Rattle.tree_model.specs.Chains.{NoRepeats}
use Rattle.tree_model.specs.Networks.{Net, among, ends_from, ends_of, link_of, peers}
use Rattle.tree_model.specs.Trees.{hops_of, of_group}
use Rattle.tree_model.specs.Valid.{IsValid}
use Rattle.tree_model.specs.Wants.{Locals, want}
use Rattle.tree_model.specs.declared.hops.End.{End}
use Rattle.tree_model.specs.declared.hops.LinkHop.{LinkHop}
use Rattle.tree_model.proofs.Counts.{not_longer}
use Rattle.tree_model.proofs.Following.{addr_same}
use Rattle.tree_routing.specs.Order.{AreByRank}
use Rattle.tree_routing.specs.declared.group_hop.GroupHop.{GroupHop}
use Rattle.network_demand.specs.Steps.{hop_wants, hops_in}
use Rattle.network_demand.specs.declared.hop_want.HopWant.{HopWant}
use Rattle.network_demand.proofs.GoalLaws.{from_hops}
use Rattle.network_demand.proofs.LimitLaws.{once_each, once_filter}
use Rattle.network_demand.specs.Counts.{asked_in, is_something}
use Rattle.network_demand.proofs.CountSums.{sum_at, sum_few, sum_none, sum_plus, sum_alike}

-- ---- ends
-- a sum over the ends of each node is one over all ends
pub over_ends : (v : ℕ → ℕ) (k a : ℕ) (es : List End) → ((e : End) → In e es → e.node < k) → sum_by (λ n. sum_by v (ends_from a es n)) (range_with_len 0 k) ≡ sum_by v (range_with_len a (length es))
over_ends v k a [] placed = sum_none (range_with_len 0 k)
over_ends v k a (e ∷ es) placed =
    let rest = over_ends v k (a + 1) es (λ x i. placed x (inr i)) in
    let split = sum_alike (λ n. sum_by v (ends_from a (e ∷ es) n)) (λ n. cond (e.node == n) (v a) 0 + sum_by v (ends_from (a + 1) es n)) (range_with_len 0 k) (λ n i. by n (e.node == n)) in
    let parts = sum_plus (λ n. cond (e.node == n) (v a) 0) (λ n. sum_by v (ends_from (a + 1) es n)) (range_with_len 0 k) in
    let lt = placed e (inl refl) in
    let here = sum_at e.node (v a) 0 k (omega arith) (omega (arith, lt)) in
    let first = sum_by-cons v a (range_with_len (a + 1) (length es)) in
    omega (arith, rest, split, parts, here, first)
  where
    by : (n : ℕ) (b : Bool) → sum_by v (if b then a ∷ ends_from (a + 1) es n else ends_from (a + 1) es n) ≡ cond b (v a) 0 + sum_by v (ends_from (a + 1) es n)
    by n true = sum_by-cons v a (ends_from (a + 1) es n)
    by n false = omega arith

ones : (xs : List ℕ) → sum_by (λ x. 1) xs ≡ length xs
ones [] = refl
ones (x ∷ xs) = let rest = ones xs in omega (arith, rest, sum_by-cons (λ y. 1) x xs)

range_long : (a k : ℕ) → length (range_with_len a k) ≡ k
range_long a zero = refl
range_long a (suc k) = ap suc (range_long (a + 1) k)

pub few_ends : (net : Net) → IsValid net → length net.ends ≤ 4096
few_ends net valid =
    let all = over_ends (λ e. 1) net.nodes 0 net.ends valid.placed in
    let long = ones (range_with_len 0 (length net.ends)) in
    let is = range_long 0 (length net.ends) in
    let few = sum_few (λ n. sum_by (λ e. 1) (ends_of net.ends n)) 0 net.nodes (λ n. let each_few = valid.few_ends n in let counted = ones (ends_of net.ends n) in omega (arith, each_few, counted)) in
    let nodes = valid.few_nodes in
    omega (arith, all, long, is, few, nodes)

-- ---- links
link_there : (links : List (List ℕ)) (e : ℕ) → (link_of links e ≡ []) ⊎ In (link_of links e) links
link_there [] e = inl refl
link_there (l ∷ ls) e = by (among e l) (link_there ls e)
  where
    by : (b : Bool) → (link_of ls e ≡ []) ⊎ In (link_of ls e) ls → ((if b then l else link_of ls e) ≡ []) ⊎ In (if b then l else link_of ls e) (l ∷ ls)
    by true rest = inr (inl refl)
    by false rest = ⊎_elim (λ (none : link_of ls e ≡ []). inl none) (λ (i : In (link_of ls e) ls). inr (inr i)) rest

pub few_peers : (net : Net) → IsValid net → (e : ℕ) → length (peers net.links e) ≤ 8
few_peers net valid e =
    let less = length_filter (λ x. not (x == e)) (link_of net.links e) in
    ⊎_elim (λ (none : link_of net.links e ≡ []). let nothing = ap length none in omega (arith, less, nothing))
    (λ (i : In (link_of net.links e) net.links). let few = (valid.linked (link_of net.links e) i).1 in omega (arith, less, few)) (link_there net.links e)

-- ---- hops
pub once_hops : (net : Net) (order : List GroupHop) → AreByRank net order → (g : Addr) → NoRepeats (hops_in g order)
once_hops net order by g =
    once_each (λ (x : GroupHop). x.hop) (filter (λ (x : GroupHop). x.group.0 == g.0) order) (once_filter (λ (x : GroupHop). x.group.0 == g.0) order by.once)
    (λ x y i j e.
    let a = addr_same x.group g (in_filter (λ (x : GroupHop). x.group.0 == g.0) x order i).1 in
    let b = addr_same y.group g (in_filter (λ (x : GroupHop). x.group.0 == g.0) y order j).1 in
    let same = a ∙ sym b in
    λ k. record { group = same k; hop = e k })

pub few_hops : (net : Net) (l : Locals) (order : List GroupHop) → IsValid net → AreByRank net order → (g : Addr) → length (hops_in g order) ≤ 8192
few_hops net l order valid by g =
    let less = not_longer (hops_in g order) (hops_of net.hops g) (once_hops net order by g) (λ h i. from_hops net l order by g h i) in
    let long = length-map (filter (of_group g) net.hops) (λ r. r.hop) in
    let filtered = length_filter (of_group g) net.hops in
    let few = valid.few_hops in
    omega (arith, less, long, filtered, few)

pub few_asked : (st : StyleKind) (net : Net) (l : Locals) (order : List GroupHop) (s : Session) → IsValid net → AreByRank net order → asked_in st net l order s ≤ 8192
few_asked st net l order s valid by =
    let less = length_filter is_something (hop_wants st net l s order) in
    let long = length-map {B = HopWant} (hops_in s.group order) (λ h. record { hop = h; parts = want st net l s h }) in
    let few = few_hops net l order valid by s.group in
    omega (arith, less, long, few)
