-- What is kept of hops, built anew with a tree in the place of another.
use Rattle.std.specs.Prelude.{◌≡◌, ◌↔◌, ◌⊎◌, ℕ, ◌+◌, ◌<◌, ◌≤◌, Bool, true, false, not, cond, IsTrue, List, [], ◌∷◌, ◌++◌, ◌&&◌, ◌==◌, length, map as each, Option, Some, refl, if◌then◌else◌, slice_index_or}
use Rattle.std.specs.List.{filter}
use Rattle.std.proofs.Common.{zero, suc, sym, ap, subst, ◌∙◌, inl, inr, ⊎_elim, arith, append_assoc, length-append, take}
use Rattle.std.proofs.lemmas.List.{length-map, map-append}
use Rattle.rsvp_base.specs.Members.{In}
use Rattle.rsvp_base.specs.declared.addr.Addr.{Addr}
use Rattle.rsvp_base.proofs.Members.{in_append, in_each}
use Rattle.tree_model.specs.declared.hops.End.{End}
use Rattle.tree_model.specs.declared.hops.LinkHop.{LinkHop}
use Rattle.tree_model.specs.declared.hops.TreeHop.{TreeHop}
use Rattle.tree_model.specs.Networks.{Net}
use Rattle.tree_model.specs.Trees.{of_group, of_tree, tree, Grows, IsGrownFrom, IsGrown}
use Rattle.rsvp_base.proofs.SetLaws.{and_both}
use Rattle.rsvp_base.proofs.Tables.{either}
use Rattle.tree_model.proofs.Following.{addr_itself, addr_same}
use Rattle.tree_routing.specs.declared.known.Known.{Known}
use Rattle.tree_routing.specs.declared.link.Link.{Link}
use Rattle.tree_routing.specs.Answers.{Fits}
use Rattle.tree_routing.specs.Known.{plain, net_of, net_with, is_pair, vertex_at, comes_to, vertex_before, IsKnown, AreKnown}
use Rattle.tree_routing.specs.Reroutes.{tree_hop, moved, is_beside, StayOthers, ArePlaced, placed, with_before}
use Rattle.tree_routing.proofs.LeastLaws.{take_one_more}
use Rattle.tree_routing.proofs.ValidMore.{grown_push}
use Rattle.tree_routing.proofs.Parts.{filter_within, filter_none, filter_less}
use Rattle.tree_routing.proofs.ValidReroutes.{filter_both, all_mine, hops_again}
use Rattle.tree_routing.proofs.Vertices.{place_kept, place_new, pair_itself}

append_none : {A : Type 0} (xs : List A) → xs ++ [] ≡ xs
append_none [] = refl
append_none {A} (x ∷ xs) = ap (λ (ys : List A). x ∷ ys) (append_none xs)

-- ---- hops at their places
pub none_placed : ArePlaced []
none_placed k i = absurd i

placed_more : (ks : List Known) (new : Known) → ArePlaced ks → new.vertex ≡ vertex_at ks new.hop.group new.hop.hop → ArePlaced (ks ++ new ∷ [])
placed_more ks new all is k i =
    ⊎_elim (λ (j : In k ks). all k j ∙ sym (place_kept (is_pair k.hop.group k.hop.hop) ks (new ∷ []) k j (pair_itself k)))
    (λ (j : In k (new ∷ [])).
    ⊎_elim (λ (e : k ≡ new). subst (λ (x : Known). x.vertex ≡ vertex_at (ks ++ new ∷ []) x.hop.group x.hop.hop) (sym e)
    (is ∙ sym (place_new (is_pair new.hop.group new.hop.hop) ks new (pair_itself new))))
    (λ (o : ⊥). absurd o) j) (in_append k ks (new ∷ []) i)

pub placed_push : (ks ks' : List Known) (r : TreeHop) → ks' ≡ ks ++ placed ks r ∷ [] → ArePlaced ks → ArePlaced ks'
placed_push ks ks' r is all = subst ArePlaced (sym is) (placed_more ks (placed ks r) all refl)

-- ---- with the hop before each
module _ (ends : List End) (ks : List Known) where
  abbrev all : List Known → List Known
  all xs = each (with_before ends ks) xs

  pub plain_all : (xs : List Known) → plain (all xs) ≡ plain xs
  plain_all [] = refl
  plain_all (x ∷ xs) = ap (λ (rs : List TreeHop). x.hop ∷ rs) (plain_all xs)

  place_all : (g : Addr) (h : LinkHop) (xs : List Known) → vertex_at (all xs) g h ≡ vertex_at xs g h
  place_all g h [] = refl
  place_all g h (x ∷ xs) = ap (λ (n : ℕ). if is_pair g h x then 0 else suc n) (place_all g h xs)

  before_all : (r : TreeHop) (xs : List Known) → vertex_before ends r (all xs) ≡ vertex_before ends r xs
  before_all r [] = refl
  before_all r (x ∷ xs) = ap (λ (o : Option ℕ). if comes_to ends r x then Some x.vertex else o) (before_all r xs)

  pub all_known : ArePlaced ks → AreKnown ends (all ks)
  all_known are k i =
      let x = in_each (with_before ends ks) k ks i in
      subst (λ (y : Known). IsKnown ends (all ks) y) (sym x.2) (record {
        vertex = are x.0 x.1 ∙ sym (place_all x.0.hop.group x.0.hop.hop ks);
        before = sym (before_all x.0.hop ks);
      })

-- ---- a tree that grows hop by hop
grown_at : (net : Net) (s : Addr) (before hs : List LinkHop) (i : ℕ) (d : LinkHop) → i < length hs → IsGrownFrom net s before hs → Grows net s (before ++ take i hs) (slice_index_or hs i d)
grown_at net s before [] i d lt grown = absurd (omega arith)
grown_at net s before (h ∷ hs) zero d lt grown = subst (λ (xs : List LinkHop). Grows net s xs h) (sym (append_none before)) grown.0
grown_at net s before (h ∷ hs) (suc i) d lt grown =
    subst (λ (xs : List LinkHop). Grows net s xs (slice_index_or hs i d)) (append_assoc before (h ∷ []) (take i hs)) (grown_at net s (before ++ h ∷ []) hs i d (omega arith) grown.1)

-- behind other trees the hops are those of the tree
pub tree_behind : (rs : List TreeHop) (g s : Addr) (hs : List LinkHop) → tree rs g s ≡ [] → tree (rs ++ each (tree_hop g s) hs) g s ≡ hs
tree_behind rs g s hs none =
    ap (each (λ (r : TreeHop). r.hop)) (filter_both (of_tree g s) rs (each (tree_hop g s) hs))
    ∙ map-append (λ (r : TreeHop). r.hop) (filter (of_tree g s) rs) (filter (of_tree g s) (each (tree_hop g s) hs))
    ∙ (λ i. none i ++ each (λ (r : TreeHop). r.hop) (all_mine g s hs i)) ∙ hops_again g s hs

module _ (g s : Addr) where
  beside_other : (a b : Bool) → (a && b) ≡ true → (a && not b) ≡ true → ⊥
  beside_other true true e f = cc
  beside_other true false e f = cc
  beside_other false b e f = cc

  pub beside_none : (rs : List TreeHop) → tree (filter (is_beside g s) rs) g s ≡ []
  beside_none rs =
      ap (each (λ (r : TreeHop). r.hop)) (filter_none (of_tree g s) (is_beside g s) (λ r e f. beside_other (of_group g r) (r.source.0 == s.0) e f) rs)

  beside_is : (rs : List TreeHop) → filter (of_group g) (filter (λ r. not (of_tree g s r)) rs) ≡ filter (is_beside g s) rs
  beside_is [] = refl
  beside_is (r ∷ rs) = by (filter (λ r. not (of_tree g s r)) rs) (of_group g r) refl (r.source.0 == s.0) (beside_is rs)
    where
      by : (rest : List TreeHop) (a : Bool) → of_group g r ≡ a → (b : Bool) → filter (of_group g) rest ≡ filter (is_beside g s) rs
          → filter (of_group g) (cond (not (a && b)) (r ∷ rest) rest) ≡ cond (a && not b) (r ∷ filter (is_beside g s) rs) (filter (is_beside g s) rs)
      by rest true e true all = all
      by rest true e false all = ap (λ (c : Bool). cond c (r ∷ filter (of_group g) rest) (filter (of_group g) rest)) e ∙ ap (λ (zs : List TreeHop). r ∷ zs) all
      by rest false e b all = ap (λ (c : Bool). cond c (r ∷ filter (of_group g) rest) (filter (of_group g) rest)) e ∙ all

  mine_stay : (hs : List LinkHop) → filter (of_group g) (each (tree_hop g s) hs) ≡ each (tree_hop g s) hs
  mine_stay [] = refl
  mine_stay (h ∷ hs) =
      ap (λ (c : Bool). cond c (tree_hop g s h ∷ filter (of_group g) (each (tree_hop g s) hs)) (filter (of_group g) (each (tree_hop g s) hs))) (addr_itself g)
      ∙ ap (λ (zs : List TreeHop). tree_hop g s h ∷ zs) (mine_stay hs)

  -- of the hops of all trees, with a tree in the place of another, those of the group
  pub part_moved : (rs : List TreeHop) (hs : List LinkHop) → filter (of_group g) (moved g s hs rs) ≡ filter (is_beside g s) rs ++ each (tree_hop g s) hs
  part_moved rs hs =
      filter_both (of_group g) (filter (λ r. not (of_tree g s r)) rs) (each (tree_hop g s) hs) ∙ (λ i. beside_is rs i ++ mine_stay hs i)

  pub beside_few : (rs : List TreeHop) → length (filter (is_beside g s) rs) ≤ length (filter (λ r. not (of_tree g s r)) rs)
  beside_few rs =
      let a = filter_less (of_group g) (of_group g) (filter (λ r. not (of_tree g s r)) rs) in
      let b = ap length (beside_is rs) in
      omega arith

  -- those of other groups stay
  none_elsewhere : (g' : Addr) → (g ≡ g' → ⊥) → (hs : List LinkHop) → filter (of_group g') (each (tree_hop g s) hs) ≡ []
  none_elsewhere g' apart [] = refl
  none_elsewhere g' apart (h ∷ hs) =
      either (g.0 == g'.0) (λ t. absurd (apart (addr_same g g' t)))
      (λ f. ap (λ (c : Bool). cond c (tree_hop g s h ∷ filter (of_group g') (each (tree_hop g s) hs)) (filter (of_group g') (each (tree_hop g s) hs))) f ∙ none_elsewhere g' apart hs)

  pub others_stay : (rs : List TreeHop) (hs : List LinkHop) → StayOthers g rs (moved g s hs rs)
  others_stay rs hs g' apart =
      filter_both (of_group g') (filter (λ r. not (of_tree g s r)) rs) (each (tree_hop g s) hs)
      ∙ (λ i. filter_within (of_group g') (λ r. not (of_tree g s r)) stays rs i ++ none_elsewhere g' apart hs i)
      ∙ append_none (filter (of_group g') rs)
    where
      stays : (r : TreeHop) → of_group g' r ≡ true → not (of_tree g s r) ≡ true
      stays r e =
          either (of_tree g s r)
          (λ t. absurd (apart (sym (addr_same r.group g (and_both (of_group g r) _ t).0) ∙ addr_same r.group g' e)))
          (λ f. ap not f)

-- what is kept of the hops of other trees, and of so many of these
pub record Grown (ends : List End) (links : List Link) (old all : List Known) (g s : Addr) (hs : List LinkHop) : Type 0 where
  pub hops : plain all ≡ plain old ++ each (tree_hop g s) hs
  pub placed : ArePlaced all
  pub grown : (nodes : ℕ) (rs : List TreeHop) → IsGrown (net_with nodes ends links rs) s hs

module _ (ends : List End) (links : List Link) (old : List Known) (g s : Addr) (none : tree (plain old) g s ≡ []) where
  pub grown_start : ArePlaced old → Grown ends links old old g s []
  grown_start are = record { hops = sym (append_none (plain old)); placed = are; grown = λ nodes rs. tt }

  module _ (all : List Known) (hs : List LinkHop) (at : ℕ) (d : LinkHop) (so_far : Grown ends links old all g s (take at hs)) (inside : at < length hs) where
    abbrev next : LinkHop
    next = slice_index_or hs at d

    its_tree : tree (plain all) g s ≡ take at hs
    its_tree = ap (λ (rs : List TreeHop). tree rs g s) so_far.hops ∙ tree_behind (plain old) g s (take at hs) none

    -- whatever else the network has
    grows_in : (nodes : ℕ) (rs : List TreeHop) → Fits (net_of nodes ends links all) (tree_hop g s next) → Grows (net_with nodes ends links rs) s (take at hs) next
    grows_in nodes rs fits =
        subst (λ (xs : List LinkHop). Grows (net_with nodes ends links rs) s xs next) its_tree
        (record { linked = fits.linked; from_reached = fits.from_reached; to_new = fits.to_new; alone = fits.alone })

    fits_in : (nodes : ℕ) (rs : List TreeHop) → Grows (net_with nodes ends links rs) s (take at hs) next → Fits (net_of nodes ends links all) (tree_hop g s next)
    fits_in nodes rs grows =
        let f = subst (λ (xs : List LinkHop). Grows (net_with nodes ends links rs) s xs next) (sym its_tree) grows in
        record { linked = f.linked; from_reached = f.from_reached; to_new = f.to_new; alone = f.alone }

    pub not_grown : ((nodes : ℕ) → Fits (net_of nodes ends links all) (tree_hop g s next) → ⊥) → (nodes : ℕ) (rs : List TreeHop) → IsGrown (net_with nodes ends links rs) s hs → ⊥
    not_grown never nodes rs grown = never nodes (fits_in nodes rs (grown_at (net_with nodes ends links rs) s [] hs at d inside grown))

    pub grown_more : (all' : List Known) → all' ≡ all ++ placed all (tree_hop g s next) ∷ [] → ((nodes : ℕ) → Fits (net_of nodes ends links all) (tree_hop g s next))
        → Grown ends links old all' g s (take (at + 1) hs)
    grown_more all' is fits =
        subst (λ (xs : List LinkHop). Grown ends links old all' g s xs) (sym (take_one_more hs at d inside)) (record {
          hops = ap plain is ∙ map-append (λ (k : Known). k.hop) all (placed all (tree_hop g s next) ∷ []) ∙ ap (λ (rs : List TreeHop). rs ++ tree_hop g s next ∷ []) so_far.hops
              ∙ append_assoc (plain old) (each (tree_hop g s) (take at hs)) (tree_hop g s next ∷ [])
              ∙ ap (λ (rs : List TreeHop). plain old ++ rs) (sym (map-append (tree_hop g s) (take at hs) (next ∷ [])));
          placed = placed_push all all' (tree_hop g s next) is so_far.placed;
          grown = λ nodes rs. grown_push (net_with nodes ends links rs) s [] (take at hs) next (so_far.grown nodes rs) (grows_in nodes rs (fits nodes));
        })

-- how many they are
pub grown_length : (ends : List End) (links : List Link) (old all : List Known) (g s : Addr) (hs : List LinkHop) (at : ℕ) → Grown ends links old all g s (take at hs) → at ≤ length hs
    → length all ≡ length old + at
grown_length ends links old all g s hs at so_far le =
    let a = length-map all (λ (k : Known). k.hop) in
    let b = length-map old (λ (k : Known). k.hop) in
    let c = ap length so_far.hops ∙ length-append (plain old) (each (tree_hop g s) (take at hs)) in
    let d = length-map (take at hs) (tree_hop g s) in
    let e : length (take at hs) ≡ at = length_front at hs le in
    omega arith
  where
    length_front : (n : ℕ) (xs : List LinkHop) → n ≤ length xs → length (take n xs) ≡ n
    length_front zero xs le = refl
    length_front (suc n) [] le = absurd (omega arith)
    length_front (suc n) (x ∷ xs) le = ap suc (length_front n xs (omega arith))

-- what is kept of the hops of the other trees of a group
pub record Others (hops : List TreeHop) (all : List Known) (g s : Addr) : Type 0 where
  pub hops_are : plain all ≡ filter (is_beside g s) hops
  pub placed : ArePlaced all

module _ (hops : List TreeHop) (all all' : List Known) (g s : Addr) (at : ℕ) (d : TreeHop) (inside : at < length hops) (so_far : Others (take at hops) all g s) (few : length all ≤ at) where
  abbrev r : TreeHop
  r = slice_index_or hops at d

  one : (b : Bool) → is_beside g s r ≡ b → filter (is_beside g s) (take (at + 1) hops) ≡ filter (is_beside g s) (take at hops) ++ cond b (r ∷ []) []
  one b e =
      ap (filter (is_beside g s)) (take_one_more hops at d inside) ∙ filter_both (is_beside g s) (take at hops) (r ∷ [])
      ∙ ap (λ (b : Bool). filter (is_beside g s) (take at hops) ++ cond b (r ∷ []) []) e

  pub others_more : ((is_beside g s r ≡ true) × (all' ≡ all ++ placed all r ∷ [])) ⊎ ((is_beside g s r ≡ false) × (all' ≡ all)) → Others (take (at + 1) hops) all' g s × (length all' ≤ at + 1)
  others_more (inl a) = (
    record {
      hops_are = ap plain a.1 ∙ map-append (λ (x : Known). x.hop) all (placed all r ∷ []) ∙ ap (λ (rs : List TreeHop). rs ++ r ∷ []) so_far.hops_are ∙ sym (one true a.0);
      placed = placed_push all all' r a.1 so_far.placed;
    },
    let size = ap length a.1 ∙ length-append all (placed all r ∷ []) in omega arith,
  )
  others_more (inr a) = (
    record {
      hops_are = ap plain a.1 ∙ so_far.hops_are ∙ sym (append_none (filter (is_beside g s) (take at hops))) ∙ sym (one false a.0);
      placed = subst ArePlaced (sym a.1) so_far.placed;
    },
    let size = ap length a.1 in omega arith,
  )

-- ---- a hop that fits a network that is this one
pub fits_at : (net : Net) (nodes : ℕ) (ends ends' : List End) (links links' : List Link) (ks ks' : List Known) (r : TreeHop) (b : Bool) → net_of nodes ends links ks ≡ net → ends' ≡ ends
    → links' ≡ links → ks' ≡ ks
    → ((n : ℕ) → IsTrue b ↔ Fits (net_of n ends' links' ks') r) → IsTrue b ↔ Fits net r
fits_at net nodes ends ends' links links' ks ks' r b view is_ends is_links is_ks fits =
    subst (λ (m : Net). IsTrue b ↔ Fits m r) ((λ i. net_of nodes (is_ends i) (is_links i) (is_ks i)) ∙ view) (fits nodes)
