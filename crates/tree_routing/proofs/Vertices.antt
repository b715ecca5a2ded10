-- Hops and the vertices that stand for them.
use Rattle.std.specs.Prelude.{◌≡◌, ℕ, ◌<◌, ◌≤◌, Bool, true, false, ◌==◌, List, [], ◌∷◌, ◌++◌, length, Some, slice_get, refl, if◌then◌else◌}
use Rattle.std.proofs.Common.{zero, suc, sym, ap, ◌∙◌, inl, inr, ⊎_elim, arith}
use Rattle.rsvp_base.specs.Members.{In}
use Rattle.rsvp_base.specs.declared.addr.Addr.{Addr}
use Rattle.rsvp_base.proofs.Members.{in_each, to_each}
use Rattle.rsvp_base.proofs.SetLaws.{and_both, and_made}
use Rattle.rsvp_base.proofs.Tables.{either}
use Rattle.tree_model.specs.declared.hops.End.{End}
use Rattle.tree_model.specs.declared.hops.LinkHop.{LinkHop}
use Rattle.tree_model.specs.declared.hops.TreeHop.{TreeHop}
use Rattle.tree_model.specs.Networks.{node_of}
use Rattle.tree_model.specs.Trees.{of_group, of_tree, tree, hops_of}
use Rattle.tree_model.specs.Ranks.{same_hop}
use Rattle.tree_model.proofs.Following.{same_number, number_same, hop_same, same_itself, addr_same, addr_itself, in_tree, to_tree, in_group, to_group}
use Rattle.tree_routing.specs.declared.known.Known.{Known}
use Rattle.tree_routing.specs.Known.{first_place, plain, is_pair, vertex_at, comes_to, vertex_before, AreKnown}

-- ---- the first that passes a test
pub place_found : {X : Type 0} (p : X → Bool) (xs : List X) (x : X) → In x xs → p x ≡ true → (y : X) × (slice_get xs (first_place p xs) ≡ Some y) × (p y ≡ true)
place_found p [] x i t = absurd i
place_found {X} p (z ∷ zs) x i t = by (p z) refl (λ j. place_found p zs x j t)
  where
    by : (b : Bool) → p z ≡ b → (In x zs → (y : X) × (slice_get zs (first_place p zs) ≡ Some y) × (p y ≡ true)) → (y : X) × (slice_get (z ∷ zs) (first_place p (z ∷ zs)) ≡ Some y) × (p y ≡ true)
    by true e rest = (z, ap (λ b. slice_get (z ∷ zs) (if b then 0 else suc (first_place p zs))) e, e)
    by false e rest =
        let r = rest (⊎_elim (λ (f : x ≡ z). absurd (let g : p x ≡ false = ap p f ∙ e in cc)) (λ (j : In x zs). j) i) in
        (r.0, ap (λ b. slice_get (z ∷ zs) (if b then 0 else suc (first_place p zs))) e ∙ r.1, r.2)

pub got_below : {X : Type 0} (xs : List X) (i : ℕ) (y : X) → slice_get xs i ≡ Some y → i < length xs
got_below [] i y e = cc
got_below (x ∷ xs) zero y e = omega arith
got_below (x ∷ xs) (suc i) y e = let r = got_below xs i y e in omega arith

pub place_kept : {X : Type 0} (p : X → Bool) (xs ys : List X) (x : X) → In x xs → p x ≡ true → first_place p (xs ++ ys) ≡ first_place p xs
place_kept p [] ys x i t = absurd i
place_kept {X} p (z ∷ zs) ys x i t = by (p z) refl (λ j. place_kept p zs ys x j t)
  where
    by : (b : Bool) → p z ≡ b → (In x zs → first_place p (zs ++ ys) ≡ first_place p zs) → first_place p ((z ∷ zs) ++ ys) ≡ first_place p (z ∷ zs)
    by true e rest = ap (λ b. if b then 0 else suc (first_place p (zs ++ ys))) e ∙ sym (ap (λ b. if b then 0 else suc (first_place p zs)) e)
    by false e rest =
        ap (λ b. if b then 0 else suc (first_place p (zs ++ ys))) e
        ∙ ap suc (rest (⊎_elim (λ (f : x ≡ z). absurd (let g : p x ≡ false = ap p f ∙ e in cc)) (λ (j : In x zs). j) i))
        ∙ sym (ap (λ b. if b then 0 else suc (first_place p zs)) e)

-- behind the last comes one that passes
pub place_new : {X : Type 0} (p : X → Bool) (xs : List X) (y : X) → p y ≡ true → first_place p (xs ++ y ∷ []) ≡ first_place p xs
place_new p [] y t = ap (λ (b : Bool). if◌then◌else◌ {A = ℕ} b 0 1) t
place_new p (z ∷ zs) y t = ap (λ n. if p z then 0 else suc n) (place_new p zs y t)

pub place_most : {X : Type 0} (p : X → Bool) (xs : List X) → first_place p xs ≤ length xs
place_most p [] = omega arith
place_most p (z ∷ zs) =
    let r = place_most p zs in
    either (p z) (λ t. let e : first_place p (z ∷ zs) ≡ 0 = ap (λ b. if b then 0 else suc (first_place p zs)) t in omega arith)
    (λ f. let e : first_place p (z ∷ zs) ≡ suc (first_place p zs) = ap (λ b. if b then 0 else suc (first_place p zs)) f in omega arith)

-- ---- a hop of a group is one vertex
pub pair_told : (g : Addr) (h : LinkHop) (k : Known) → is_pair g h k ≡ true → (k.hop.group ≡ g) × (k.hop.hop ≡ h)
pair_told g h k e =
    let both = and_both (of_group g k.hop) (same_hop h k.hop.hop) e in
    (addr_same k.hop.group g both.0, sym (hop_same h k.hop.hop both.1))

pub pair_itself : (k : Known) → is_pair k.hop.group k.hop.hop k ≡ true
pair_itself k = and_made _ _ (addr_itself k.hop.group) (same_itself k.hop.hop)

pub pair_made : (g : Addr) (h : LinkHop) (k : Known) → k.hop.group ≡ g → k.hop.hop ≡ h → is_pair g h k ≡ true
pair_made g h k e f = ap (λ (a : Addr). is_pair a h k) (sym e) ∙ ap (λ (x : LinkHop). is_pair k.hop.group x k) (sym f) ∙ pair_itself k

-- equal vertices, of a hop that stands, are of one hop of one group
pub one_pair : (ks : List Known) (k : Known) → In k ks → (g g' : Addr) (h h' : LinkHop) → is_pair g h k ≡ true → (k' : Known) → In k' ks → is_pair g' h' k' ≡ true
    → vertex_at ks g h ≡ vertex_at ks g' h' → (g ≡ g') × (h ≡ h')
one_pair ks k i g g' h h' t k' i' t' e =
    let x = place_found (is_pair g h) ks k i t in
    let x' = place_found (is_pair g' h') ks k' i' t' in
    let same : x.0 ≡ x'.0 = cc (x.1, x'.1, ap (slice_get ks) e) in
    let a = pair_told g h x.0 x.2 in
    let a' = pair_told g' h' x'.0 x'.2 in
    (sym a.0 ∙ ap (λ (y : Known). y.hop.group) same ∙ a'.0, sym a.1 ∙ ap (λ (y : Known). y.hop.hop) same ∙ a'.1)

-- ---- hops of trees and groups are hops that are kept
pub tree_known : (ks : List Known) (g s : Addr) (h : LinkHop) → In h (tree (plain ks) g s) → (k : Known) × In k ks × (k.hop.group ≡ g) × (k.hop.source ≡ s) × (k.hop.hop ≡ h)
tree_known ks g s h i =
    let r = in_tree (plain ks) g s h i in
    let k = in_each (λ (k : Known). k.hop) r.0 ks r.1 in
    (k.0, k.1, ap (λ (x : TreeHop). x.group) (sym k.2) ∙ r.2, ap (λ (x : TreeHop). x.source) (sym k.2) ∙ r.3, ap (λ (x : TreeHop). x.hop) (sym k.2) ∙ r.4)

pub known_tree : (ks : List Known) (k : Known) → In k ks → In k.hop.hop (tree (plain ks) k.hop.group k.hop.source)
known_tree ks k i = to_tree (plain ks) k.hop (to_each (λ (k : Known). k.hop) k ks i)

pub group_known : (ks : List Known) (g : Addr) (h : LinkHop) → In h (hops_of (plain ks) g) → (k : Known) × In k ks × (k.hop.group ≡ g) × (k.hop.hop ≡ h)
group_known ks g h i =
    let r = in_group (plain ks) g h i in
    let k = in_each (λ (k : Known). k.hop) r.0 ks r.1 in
    (k.0, k.1, ap (λ (x : TreeHop). x.group) (sym k.2) ∙ r.2, ap (λ (x : TreeHop). x.hop) (sym k.2) ∙ r.3)

pub known_group : (ks : List Known) (k : Known) → In k ks → In k.hop.hop (hops_of (plain ks) k.hop.group)
known_group ks k i = to_group (plain ks) k.hop (to_each (λ (k : Known). k.hop) k ks i)

-- ---- the hop before
pub comes_told : (ends : List End) (r : TreeHop) (k : Known) → comes_to ends r k ≡ true → (k.hop.group ≡ r.group) × (k.hop.source ≡ r.source) × (node_of ends k.hop.hop.to ≡ node_of ends r.hop.from)
comes_told ends r k e =
    let both = and_both (of_tree r.group r.source k.hop) (node_of ends k.hop.hop.to == node_of ends r.hop.from) e in
    let parts = and_both (of_group r.group k.hop) (k.hop.source.0 == r.source.0) both.0 in
    (addr_same k.hop.group r.group parts.0, addr_same k.hop.source r.source parts.1, same_number _ _ both.1)

pub comes_made : (ends : List End) (r : TreeHop) (k : Known) → k.hop.group ≡ r.group → k.hop.source ≡ r.source → node_of ends k.hop.hop.to ≡ node_of ends r.hop.from → comes_to ends r k ≡ true
comes_made ends r k e f t =
    and_made _ _ (and_made _ _ (number_same _ _ (ap (λ (a : Addr). a.0) e)) (number_same _ _ (ap (λ (a : Addr). a.0) f))) (number_same _ _ t)

pub before_told : (ends : List End) (r : TreeHop) (ks : List Known) (a : ℕ) → vertex_before ends r ks ≡ Some a → (x : Known) × In x ks × (comes_to ends r x ≡ true) × (x.vertex ≡ a)
before_told ends r [] a e = cc
before_told ends r (k ∷ ks) a e = by (comes_to ends r k) refl e (before_told ends r ks a)
  where
    by : (b : Bool) → comes_to ends r k ≡ b → (if b then Some k.vertex else vertex_before ends r ks) ≡ Some a
        → (vertex_before ends r ks ≡ Some a → (x : Known) × In x ks × (comes_to ends r x ≡ true) × (x.vertex ≡ a)) → (x : Known) × In x (k ∷ ks) × (comes_to ends r x ≡ true) × (x.vertex ≡ a)
    by true t e rest = (k, inl refl, t, cc)
    by false t e rest = let x = rest e in (x.0, inr x.1, x.2, x.3)

pub before_found : (ends : List End) (r : TreeHop) (ks : List Known) (x : Known) → In x ks → comes_to ends r x ≡ true
    → (y : Known) × In y ks × (comes_to ends r y ≡ true) × (vertex_before ends r ks ≡ Some y.vertex)
before_found ends r [] x i t = absurd i
before_found ends r (k ∷ ks) x i t = by (comes_to ends r k) refl (λ j. before_found ends r ks x j t)
  where
    by : (b : Bool) → comes_to ends r k ≡ b → (In x ks → (y : Known) × In y ks × (comes_to ends r y ≡ true) × (vertex_before ends r ks ≡ Some y.vertex))
        → (y : Known) × In y (k ∷ ks) × (comes_to ends r y ≡ true) × (vertex_before ends r (k ∷ ks) ≡ Some y.vertex)
    by true e rest = (k, inl refl, e, ap (λ b. if b then Some k.vertex else vertex_before ends r ks) e)
    by false e rest =
        let y = rest (⊎_elim (λ (f : x ≡ k). absurd (let g : comes_to ends r x ≡ false = ap (comes_to ends r) f ∙ e in cc)) (λ (j : In x ks). j) i) in
        (y.0, inr y.1, y.2, ap (λ b. if b then Some k.vertex else vertex_before ends r ks) e ∙ y.3)

-- vertices are places of the list
pub vertex_below : (ends : List End) (ks : List Known) → AreKnown ends ks → (k : Known) → In k ks → k.vertex < length ks
vertex_below ends ks known k i =
    let x = place_found (is_pair k.hop.group k.hop.hop) ks k i (pair_itself k) in
    let lt = got_below ks (vertex_at ks k.hop.group k.hop.hop) x.0 x.1 in
    let e = (known k i).vertex in
    omega arith
