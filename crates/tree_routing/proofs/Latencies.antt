-- A network says the same with another latency of an end: of its nodes, its addresses, its trees and chains.
use Rattle.std.specs.Prelude.{◌≡◌, ℕ, suc, ◌+◌, true, ◌&&◌, ◌==◌, List, [], ◌∷◌, length, take, ◌<◌, ◌≤◌, slice_index_or, slice_set, Option, Some, slice_get, refl, if◌then◌else◌}
use Rattle.std.proofs.Common.{zero, sym, ap, subst, ◌∙◌, inl, inr, ⊎_elim, arith}
use Rattle.rsvp_base.specs.Members.{In}
use Rattle.rsvp_base.specs.declared.addr.Addr.{Addr}
use Rattle.tree_model.specs.declared.hops.End.{End}
use Rattle.tree_model.specs.declared.hops.LinkHop.{LinkHop}
use Rattle.tree_model.specs.Networks.{Net, node_of, ends_from, ends_of, end_at, iface_of, owner}
use Rattle.tree_model.specs.Trees.{of_tree, tree, is_linked}
use Rattle.tree_model.specs.Valid.{IsValid}
use Rattle.tree_routing.specs.declared.known.Known.{Known}
use Rattle.tree_routing.specs.Known.{AreKnown, comes_to}
use Rattle.tree_routing.specs.Answers.{ends_with_latency, with_latency}
use Rattle.tree_routing.proofs.Carried.{Same, grown_over, free_over}
use Rattle.tree_routing.proofs.ValidMore.{vertex_before_same}

-- ---- its ends
pub latency_node : (xs : List End) (e latency i : ℕ) → node_of (ends_with_latency xs e latency) i ≡ node_of xs i
latency_node [] e latency i = refl
latency_node (x ∷ xs) zero latency zero = refl
latency_node (x ∷ xs) zero latency (suc i) = refl
latency_node (x ∷ xs) (suc e) latency zero = refl
latency_node (x ∷ xs) (suc e) latency (suc i) = latency_node xs e latency i

latency_from : (number : ℕ) (xs : List End) (e latency n : ℕ) → ends_from number (ends_with_latency xs e latency) n ≡ ends_from number xs n
latency_from number [] e latency n = refl
latency_from number (x ∷ xs) zero latency n = refl
latency_from number (x ∷ xs) (suc e) latency n = ap (λ (ys : List ℕ). if x.node == n then number ∷ ys else ys) (latency_from (number + 1) xs e latency n)

pub latency_ends : (xs : List End) (e latency n : ℕ) → ends_of (ends_with_latency xs e latency) n ≡ ends_of xs n
latency_ends xs e latency n = latency_from 0 xs e latency n

pub latency_end_at : (xs : List End) (e latency n iface : ℕ) → end_at (ends_with_latency xs e latency) n iface ≡ end_at xs n iface
latency_end_at xs e latency n iface = ap (λ (es : List ℕ). slice_get es iface) (latency_ends xs e latency n)

latency_take : (xs : List End) (e latency k : ℕ) → take k (ends_with_latency xs e latency) ≡ ends_with_latency (take k xs) e latency
latency_take [] e latency zero = refl
latency_take [] e latency (suc k) = refl
latency_take (x ∷ xs) e latency zero = refl
latency_take (x ∷ xs) zero latency (suc k) = refl
latency_take (x ∷ xs) (suc e) latency (suc k) = ap (λ (ys : List End). x ∷ ys) (latency_take xs e latency k)

pub latency_iface : (xs : List End) (e latency i : ℕ) → iface_of (ends_with_latency xs e latency) i ≡ iface_of xs i
latency_iface xs e latency i =
    ap (λ (n : ℕ). length (ends_of (take i (ends_with_latency xs e latency)) n)) (latency_node xs e latency i)
    ∙ ap (λ (ys : List End). length (ends_of ys (node_of xs i))) (latency_take xs e latency i) ∙ ap length (latency_ends (take i xs) e latency (node_of xs i))

pub latency_owner : (xs : List End) (e latency : ℕ) (a : Addr) → owner (ends_with_latency xs e latency) a ≡ owner xs a
latency_owner [] e latency a = refl
latency_owner (x ∷ xs) zero latency a = refl
latency_owner (x ∷ xs) (suc e) latency a = ap (λ (o : Option ℕ). if x.iface.addr.0 == a.0 then Some x.node else o) (latency_owner xs e latency a)

pub latency_length : (xs : List End) (e latency : ℕ) → length (ends_with_latency xs e latency) ≡ length xs
latency_length [] e latency = refl
latency_length (x ∷ xs) zero latency = refl
latency_length (x ∷ xs) (suc e) latency = ap suc (latency_length xs e latency)

-- it is what is written at its place
pub latency_set : (xs : List End) (e latency : ℕ) (x d : End) → e < length xs → x ≡ slice_index_or xs e d
    → slice_set xs e (record { node = x.node; iface = record { addr = x.iface.addr; capacity = x.iface.capacity; mtu = x.iface.mtu; latency = latency } })
    ≡ ends_with_latency xs e latency
latency_set [] e latency x d lt is = absurd (omega arith)
latency_set (y ∷ ys) zero latency x d lt is =
    ap (λ (z : End). (record { node = z.node; iface = record { addr = z.iface.addr; capacity = z.iface.capacity; mtu = z.iface.mtu; latency = latency } }) ∷ ys) is
latency_set (y ∷ ys) (suc e) latency x d lt is = ap (λ (zs : List End). y ∷ zs) (latency_set ys e latency x d (omega arith) is)

-- an end that is there then was there, with its node and its address
pub record Was (d x : End) : Type 0 where
  pub node : x.node ≡ d.node
  pub addr : x.iface.addr ≡ d.iface.addr

it_was : (d x : End) → x ≡ d → Was d x
it_was d x e = record { node = ap (λ (z : End). z.node) e; addr = ap (λ (z : End). z.iface.addr) e }

pub latency_got : (xs : List End) (e latency i : ℕ) (d : End) → slice_get (ends_with_latency xs e latency) i ≡ Some d → (x : End) × (slice_get xs i ≡ Some x) × Was d x
latency_got [] e latency i d is = absurd (cc)
latency_got (x ∷ xs) zero latency zero d is =
    let y : End = record x { iface = record x.iface { latency = latency } } in
    let same : y ≡ d = cc in
    (x, refl, record { node = ap (λ (z : End). z.node) same; addr = ap (λ (z : End). z.iface.addr) same })
latency_got (x ∷ xs) zero latency (suc i) d is = (d, is, it_was d d refl)
latency_got (x ∷ xs) (suc e) latency zero d is = (x, refl, it_was d x (let same : x ≡ d = cc in same))
latency_got (x ∷ xs) (suc e) latency (suc i) d is = latency_got xs e latency i d is

latency_in : (xs : List End) (e latency : ℕ) (d : End) → In d (ends_with_latency xs e latency) → (x : End) × In x xs × (x.node ≡ d.node)
latency_in [] e latency d i = absurd i
latency_in (x ∷ xs) zero latency d i =
    ⊎_elim (λ (s : d ≡ record x { iface = record x.iface { latency = latency } }). (x, inl refl, ap (λ (z : End). z.node) (sym s))) (λ (j : In d xs). (d, inr j, refl)) i
latency_in (x ∷ xs) (suc e) latency d i =
    ⊎_elim (λ (s : d ≡ x). (x, inl refl, ap (λ (z : End). z.node) (sym s)))
    (λ (j : In d (ends_with_latency xs e latency)). let r = latency_in xs e latency d j in (r.0, inr r.1, r.2)) i

-- ---- it stays valid
module _ (net : Net) (e latency : ℕ) where
  pub latency_same : (h : LinkHop) → is_linked net.links h ≡ true → Same net (with_latency net e latency) h
  latency_same h t = record { linked = t; from = latency_node net.ends e latency h.from; to = latency_node net.ends e latency h.to; link = refl }

  module _ (valid : IsValid net) where
    one_address : (i j : ℕ) (d f : End) → slice_get (ends_with_latency net.ends e latency) i ≡ Some d → slice_get (ends_with_latency net.ends e latency) j ≡ Some f
        → d.iface.addr ≡ f.iface.addr → i ≡ j
    one_address i j d f p q same =
        let a = latency_got net.ends e latency i d p in
        let b = latency_got net.ends e latency j f q in
        valid.one_address i j a.0 b.0 a.1 b.1 (a.2.addr ∙ same ∙ sym b.2.addr)

    pub valid_latency : IsValid (with_latency net e latency)
    valid_latency =
        record {
          few_nodes = valid.few_nodes;
          few_ends = λ n. subst (λ (es : List ℕ). length es ≤ 16) (sym (latency_ends net.ends e latency n)) (valid.few_ends n);
          few_links = valid.few_links;
          few_hops = valid.few_hops;
          placed = λ d i. let r = latency_in net.ends e latency d i in subst (λ n. n < net.nodes) r.2 (valid.placed r.0 r.1);
          one_address = one_address;
          linked = valid.linked;
          nodes_apart = λ l a b i j k same. valid.nodes_apart l a b i j k (sym (latency_node net.ends e latency a) ∙ same ∙ latency_node net.ends e latency b);
          ends_of_links = λ l x i j. subst (λ n. x < n) (sym (latency_length net.ends e latency)) (valid.ends_of_links l x i j);
          rising = valid.rising;
          apart = valid.apart;
          one_link = valid.one_link;
          grown = λ g s. grown_over net (with_latency net e latency) latency_same s (tree net.hops g s) (λ n is. latency_owner net.ends e latency s ∙ is) (valid.grown g s);
          loop_free = λ g. free_over net (with_latency net e latency) latency_same g refl (valid.grown g) (valid.loop_free g);
        }

-- ---- and what is kept beside its hops
pub known_latency : (ends : List End) (ks : List Known) (e latency : ℕ) → AreKnown ends ks → AreKnown (ends_with_latency ends e latency) ks
known_latency ends ks e latency known k i =
    record { vertex = (known k i).vertex; before = (known k i).before ∙ sym (vertex_before_same ends (ends_with_latency ends e latency) k.hop ks (λ x j. same x)) }
  where
    same : (x : Known) → comes_to (ends_with_latency ends e latency) k.hop x ≡ comes_to ends k.hop x
    same x =
        λ i. of_tree k.hop.group k.hop.source x.hop && (latency_node ends e latency x.hop.hop.to i == latency_node ends e latency k.hop.hop.from i)
