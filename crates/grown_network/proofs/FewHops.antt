-- At most three hops of a group go out of a node of a grown network.
use Rattle.std.proofs.Common.{◌≡◌, ◌⊎◌, ℕ, ◌<◌, ◌≤◌, zero, suc, Bool, true, false, cond, List, [], ◌∷◌, length, Some, sym, ap, subst, ◌∙◌, inl, inr, ⊎_elim, arith}
use Rattle.std.specs.Prelude.{is_some, map as each, slice_get}
use Rattle.std.specs.List.{filter}
use Rattle.std.proofs.lemmas.Bool.{cases_lt}
use Rattle.std.proofs.lemmas.List.{length-map}
use Rattle.rsvp_base.specs.declared.addr.Addr.{Addr}
use Rattle.rsvp_base.specs.Members.{In}
use Rattle.rsvp_base.specs.Sets.{set_of}
use Rattle.rsvp_base.specs.Keys.{Keys}
use Rattle.rsvp_base.specs.Table.{Table, get, has, keys}
use Rattle.rsvp_base.proofs.Counts.{in_found, set_of_in}
use Rattle.rsvp_base.proofs.Members.{in_each, in_filter}
use Rattle.tree_model.specs.Chains.{NoRepeats}
use Rattle.tree_model.specs.declared.hops.LinkHop.{LinkHop}
use Rattle.tree_model.specs.Goals.{end_pairs, hops_in_order}
use Rattle.tree_model.specs.Networks.{ends_of, iface_of, node_of}
use Rattle.tree_model.specs.Trees.{goes_out_of, hops_of}
use Rattle.tree_model.proofs.Counts.{not_longer}
use Rattle.tree_model.proofs.Following.{in_group, same_number}
use Rattle.tree_model.proofs.Ifaces.{interfaces_are_ends}
use Rattle.laws_network.proofs.Hosts.{once_keys}
use Rattle.grown_network.specs.Grown.{grown_net}
use Rattle.grown_network.specs.Hops.{hop_down, hop_up}
use Rattle.grown_network.specs.Nodes.{ends_up_to}
use Rattle.grown_network.proofs.Chains.{away_is}
use Rattle.grown_network.proofs.Hanging.{few_up_to, length_ends}
use Rattle.grown_network.proofs.Links.{node_down, node_up}
use Rattle.grown_network.proofs.Senders.{away_grown, once_each}

-- ---- hops over one link of the network
pub record IsOverLink (h : LinkHop) : Type 0 where
  pub node : ℕ
  pub some : 1 ≤ node
  pub within : node < 64
  pub way : (h ≡ hop_up node) ⊎ (h ≡ hop_down node)

pub over_link : (seed : ℕ) (g : Addr) (h : LinkHop) → In h (hops_of (grown_net seed).hops g) → IsOverLink h
over_link seed g h i =
    let t = in_group (grown_net seed).hops g h i in
    let own = away_grown seed t.0 t.1 in
    let away = away_is own.node own.within t.0.hop own.hop in
    record {
      node = away.node;
      some = away.some;
      within = away.within;
      way = ⊎_elim (λ u. inl (sym t.3 ∙ u.1)) (λ d. inr (sym t.3 ∙ d.1)) away.way;
    }

one_hop_at : (h h' : LinkHop) → IsOverLink h → IsOverLink h' → h.from ≡ h'.from → h ≡ h'
one_hop_at h h' a b e = by a.way b.way
  where
    by : (h ≡ hop_up a.node) ⊎ (h ≡ hop_down a.node) → (h' ≡ hop_up b.node) ⊎ (h' ≡ hop_down b.node) → h ≡ h'
    by (inl p) (inl q) = let x = ap (λ (y : LinkHop). y.from) p in let y = ap (λ (y : LinkHop). y.from) q in let la = a.some in let lb = b.some in
        let same : a.node ≡ b.node = omega (arith, x, y, e, la, lb) in p ∙ ap hop_up same ∙ sym q
    by (inl p) (inr q) = let x = ap (λ (y : LinkHop). y.from) p in let y = ap (λ (y : LinkHop). y.from) q in absurd (omega (arith, x, y, e))
    by (inr p) (inl q) = let x = ap (λ (y : LinkHop). y.from) p in let y = ap (λ (y : LinkHop). y.from) q in absurd (omega (arith, x, y, e))
    by (inr p) (inr q) = let x = ap (λ (y : LinkHop). y.from) p in let y = ap (λ (y : LinkHop). y.from) q in let la = a.some in let lb = b.some in
        let same : a.node ≡ b.node = omega (arith, x, y, e, la, lb) in p ∙ ap hop_down same ∙ sym q

from_within : (h : LinkHop) → IsOverLink h → (h.from < 126) × (node_of (ends_up_to 63) h.from < 64)
from_within h o = by o.way
  where
    lo : 1 ≤ o.node
    lo = o.some

    hi : o.node < 64
    hi = o.within

    by : (h ≡ hop_up o.node) ⊎ (h ≡ hop_down o.node) → (h.from < 126) × (node_of (ends_up_to 63) h.from < 64)
    by (inl p) = let x = ap (λ (y : LinkHop). y.from) p in let n = ap (λ (y : LinkHop). node_of (ends_up_to 63) y.from) p ∙ node_up 63 o.node lo (omega arith) in (omega (arith, x), omega (arith, n))
    by (inr p) = let x = ap (λ (y : LinkHop). y.from) p in let n = ap (λ (y : LinkHop). node_of (ends_up_to 63) y.from) p ∙ node_down 63 o.node lo (omega arith) in (omega (arith, x), omega (arith, n))

-- ---- lists
once_filter : {A : Type 0} (p : A → Bool) (xs : List A) → NoRepeats xs → NoRepeats (filter p xs)
once_filter p [] once = tt
once_filter {A} p (x ∷ xs) once = by (p x) (once_filter p xs once.1)
  where
    by : (b : Bool) → NoRepeats (filter p xs) → NoRepeats (cond b (x ∷ filter p xs) (filter p xs))
    by true rest = (λ i. once.0 (in_filter p x xs i).0, rest)
    by false rest = rest

pub got_in : {A : Type 0} (xs : List A) (i : ℕ) (x : A) → slice_get xs i ≡ Some x → In x xs
got_in [] i x e = absurd (cc)
got_in (y ∷ xs) zero x e = let same : x ≡ y = cc in inl same
got_in (y ∷ xs) (suc i) x e = inr (got_in xs i x e)

in_keys : {K X : Type 0} (o : Keys K) (m : Table o X) (q : K) → In q (keys m) → has m q ≡ true
in_keys {K} {X} o m q i =
    let e = in_each (λ (e : K × X). e.0) q m.rows i in
    ap is_some (ap (get m) e.2 ∙ in_found o m e.0.0 e.0.1 e.1)

module _ (seed : ℕ) (g : Addr) where
  abbrev pair_of : LinkHop → ℕ × ℕ
  pair_of h = (h.from, h.to)

  abbrev hop_of : ℕ × ℕ → LinkHop
  hop_of p = record { from = p.0; to = p.1 }

  abbrev all_pairs : List (ℕ × ℕ)
  all_pairs = each pair_of (hops_of (grown_net seed).hops g)

  abbrev in_order : List LinkHop
  in_order = hops_in_order (hops_of (grown_net seed).hops g)

  ordered : (h : LinkHop) → In h in_order → IsOverLink h
  ordered h i =
      let p = in_each hop_of h (keys (set_of {o = end_pairs} all_pairs)) i in
      let j = set_of_in end_pairs all_pairs p.0 (in_keys end_pairs (set_of {o = end_pairs} all_pairs) p.0 p.1) in
      let x = in_each pair_of p.0 (hops_of (grown_net seed).hops g) j in
      let same : h ≡ x.0 = p.2 ∙ ap hop_of x.2 in
      subst IsOverLink (sym same) (over_link seed g x.0 x.1)

  once : NoRepeats in_order
  once =
      once_each hop_of (keys (set_of {o = end_pairs} all_pairs)) (λ p q i j e. λ k. ((ap (λ (h : LinkHop). h.from) e) k, (ap (λ (h : LinkHop). h.to) e) k))
      (once_keys end_pairs (set_of {o = end_pairs} all_pairs).rows (set_of {o = end_pairs} all_pairs).sorted)

  module _ (n : ℕ) where
    abbrev out : List LinkHop
    out = filter (goes_out_of (grown_net seed).ends n) in_order

    once_from : NoRepeats (each (λ (h : LinkHop). h.from) out)
    once_from =
        once_each (λ (h : LinkHop). h.from) out
        (λ h h' i j e. one_hop_at h h' (ordered h (in_filter (goes_out_of (grown_net seed).ends n) h in_order i).0) (ordered h' (in_filter (goes_out_of (grown_net seed).ends n) h' in_order j).0) e)
        (once_filter (goes_out_of (grown_net seed).ends n) in_order once)

    -- each goes out of an end of the node
    own_end : (e : ℕ) → In e (each (λ (h : LinkHop). h.from) out) → (n < 64) × In e (ends_of (ends_up_to 63) n)
    own_end e i =
        let h = in_each (λ (h : LinkHop). h.from) e out i in
        let f = in_filter (goes_out_of (grown_net seed).ends n) h.0 in_order h.1 in
        let within = from_within h.0 (ordered h.0 f.0) in
        let at : node_of (ends_up_to 63) h.0.from ≡ n = same_number (node_of (ends_up_to 63) h.0.from) n f.1 in
        let size = length_ends 63 in
        let lt = within.0 in
        let there = (interfaces_are_ends (grown_net seed)).end_of_iface h.0.from (omega (arith, lt, size)) in
        let mine = got_in (ends_of (ends_up_to 63) (node_of (ends_up_to 63) h.0.from)) (iface_of (ends_up_to 63) h.0.from) h.0.from there in
        (subst (λ (m : ℕ). m < 64) at within.1, subst (λ (x : ℕ). In x (ends_of (ends_up_to 63) n)) (sym h.2) (subst (λ (m : ℕ). In h.0.from (ends_of (ends_up_to 63) m)) at mine))

    pub few_out : length out ≤ 3
    few_out =
        ⊎_elim
        (λ (lt : n < 64).
        let a = not_longer (each (λ (h : LinkHop). h.from) out) (ends_of (ends_up_to 63) n) once_from (λ e i. (own_end e i).1) in
        let b = few_up_to 0 63 n (omega arith) lt in
        let c = length-map out (λ (h : LinkHop). h.from) in
        omega (arith, a, b, c))
        (λ (ge : 64 ≤ n).
        let a = not_longer (each (λ (h : LinkHop). h.from) out) [] once_from (λ e i. let lt = (own_end e i).0 in absurd (omega (arith, lt))) in
        let c = length-map out (λ (h : LinkHop). h.from) in
        omega (arith, a, c)) (cases_lt n 64)
