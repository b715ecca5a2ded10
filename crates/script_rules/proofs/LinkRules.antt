-- The ends of a link that were tested: what the grammar asks of them, and what the network does.
use Rattle.std.specs.Prelude.{◌≡◌, ℕ, ◌<◌, ◌≤◌, Bool, true, false, cond, not, ◌&&◌, nat_lt, List, [], ◌∷◌, length, map as each, Option, None, Some, IsSome, slice_get, unwrap_or, refl}
use Rattle.std.specs.List.{All, list_all, list_any, position_or_len}
use Rattle.std.specs.Str.{bytes_eq}
use Rattle.std.proofs.Common.{zero, suc, sym, ap, subst, ◌∙◌, inl, inr, arith}
use Rattle.std.proofs.lemmas.Bool.{false≢true}
use Rattle.std.proofs.lemmas.Bool.Decides.{nat_tests}
use Rattle.rsvp_base.specs.Members.{In}
use Rattle.rsvp_base.proofs.Members.{in_any, any_in, all_in, in_each}
use Rattle.rsvp_base.proofs.SetLaws.{and_both}
use Rattle.rsvp_base.proofs.Fronts.{got_in}
use Rattle.tree_model.proofs.Following.{same_number, number_same}
use Rattle.tree_model.specs.Chains.{NoRepeats}
use Rattle.tree_model.specs.Networks.{link_of, node_of}
use Rattle.tree_routing.specs.Answers.{TakesLink}
use Rattle.script_grammar.specs.Adds.{link_value}
use Rattle.script_grammar.specs.Draft.{Draft, end_named, end_number, place_of}
use Rattle.script_grammar.specs.Rules.{AreOfDifferentNodes, IsEnd}
use Rattle.script_rules.proofs.Members.{all_in_of, in_all_of}
use Rattle.script_rules.specs.LinkEnds.{are_apart, is_at, is_known, meet, node_at, node_in}

-- ---- lists
got_of_in : {X : Type 0} (x : X) (xs : List X) → In x xs → (i : ℕ) × (slice_get xs i ≡ Some x)
got_of_in x [] i = absurd i
got_of_in x (y ∷ ys) (inl e) = (0, ap Some (sym e))
got_of_in x (y ∷ ys) (inr i) = let r = got_of_in x ys i in (suc r.0, r.1)

some_same : {X : Type 0} (x y : X) → Some x ≡ Some y → x ≡ y
some_same x y e = ap (λ o. unwrap_or o x) e

not_any : (b : Bool) → not b ≡ true → b ≡ true → ⊥
not_any true p q = cc
not_any false p q = cc

both_true : (a b : Bool) → a ≡ true → b ≡ true → (a && b) ≡ true
both_true a b p q = cc

-- a name that stands in a list stands within it
within : (names : List (List ℕ)) (name : List ℕ) (i : ℕ) → place_of names name ≡ Some i → i < length names
within names name i e = by (nat_lt (position_or_len (bytes_eq name) names) (length names)) refl e
  where
    by : (b : Bool) → nat_lt (position_or_len (bytes_eq name) names) (length names) ≡ b → cond b (Some (position_or_len (bytes_eq name) names)) None ≡ Some i → i < length names
    by true t e =
        let same = some_same (position_or_len (bytes_eq name) names) i e in
        let lt : position_or_len (bytes_eq name) names < length names = grind (arith, nat_tests, t) in
        let z : i < length names = omega (arith, same, lt) in z
    by false t e = cc

module _ (d : Draft) where
  -- ---- one end
  end_is : (name : List ℕ) (e : ℕ) → end_named d name ≡ Some e → end_number d name ≡ e
  end_is name e is = ap (λ (o : Option ℕ). unwrap_or o 0) is

  declared : (name : List ℕ) → IsEnd d name → end_named d name ≡ Some (end_number d name)
  declared name is = by (end_named d name) refl is
    where
      by : (o : Option ℕ) → end_named d name ≡ o → IsSome o → end_named d name ≡ Some (end_number d name)
      by None e is = absurd (false≢true is)
      by (Some n) e is = e ∙ ap Some (sym (end_is name n e))

  node_is : (name : List ℕ) → IsEnd d name → node_at d name ≡ Some (node_of d.net.ends (end_number d name))
  node_is name is = ap (node_in d.net.ends) (declared name is)

  -- ends that meet were declared, and are of one node
  met : (a b : List ℕ) → meet (node_at d a) (node_at d b) ≡ true → IsEnd d a × IsEnd d b × (node_of d.net.ends (end_number d a) ≡ node_of d.net.ends (end_number d b))
  met a b t = by (end_named d a) (end_named d b) refl refl t
    where
      by : (o p : Option ℕ) → end_named d a ≡ o → end_named d b ≡ p → meet (node_in d.net.ends o) (node_in d.net.ends p) ≡ true
          → IsEnd d a × IsEnd d b × (node_of d.net.ends (end_number d a) ≡ node_of d.net.ends (end_number d b))
      by None p e f t = absurd (false≢true t)
      by (Some m) None e f t = absurd (false≢true t)
      by (Some m) (Some n) e f t = (
        subst (λ (o : Option ℕ). IsSome o) (sym e) refl,
        subst (λ (o : Option ℕ). IsSome o) (sym f) refl,
        ap (node_of d.net.ends) (end_is a m e) ∙ same_number (node_of d.net.ends m) (node_of d.net.ends n) t ∙ sym (ap (node_of d.net.ends) (end_is b n f)),
      )

  meets : (a b : List ℕ) → IsEnd d a → IsEnd d b → node_of d.net.ends (end_number d a) ≡ node_of d.net.ends (end_number d b) → meet (node_at d a) (node_at d b) ≡ true
  meets a b p q e =
      ap (λ (o : Option ℕ). meet o (node_at d b)) (node_is a p)
      ∙ ap (λ (o : Option ℕ). meet (Some (node_of d.net.ends (end_number d a))) o) (node_is b q)
      ∙ number_same (node_of d.net.ends (end_number d a)) (node_of d.net.ends (end_number d b)) e

  -- ---- ends of different nodes
  pub apart_told : (names : List (List ℕ)) → are_apart d names ≡ true → AreOfDifferentNodes d names
  apart_told [] t zero j a b p q u v e = cc
  apart_told [] t (suc i) j a b p q u v e = cc
  apart_told (n ∷ ns) t zero zero a b p q u v e = refl
  apart_told (n ∷ ns) t zero (suc j) a b p q u v e =
      let both = and_both (not (list_any (is_at d (node_at d n)) ns)) (are_apart d ns) t in
      absurd (not_any _ both.0 (any_in (is_at d (node_at d n)) b ns (got_in ns j b q) (ap (λ (x : List ℕ). meet (node_at d x) (node_at d b)) (some_same n a p) ∙ meets a b u v e)))
  apart_told (n ∷ ns) t (suc i) zero a b p q u v e =
      let both = and_both (not (list_any (is_at d (node_at d n)) ns)) (are_apart d ns) t in
      absurd (not_any _ both.0 (any_in (is_at d (node_at d n)) a ns (got_in ns i a p) (ap (λ (x : List ℕ). meet (node_at d x) (node_at d a)) (some_same n b q) ∙ meets b a v u (sym e))))
  apart_told (n ∷ ns) t (suc i) (suc j) a b p q u v e =
      let both = and_both (not (list_any (is_at d (node_at d n)) ns)) (are_apart d ns) t in
      ap suc (apart_told ns both.1 i j a b p q u v e)

  pub apart_tested : (names : List (List ℕ)) → AreOfDifferentNodes d names → are_apart d names ≡ true
  apart_tested [] differ = refl
  apart_tested (n ∷ ns) differ =
      by (list_any (is_at d (node_at d n)) ns) refl
      (apart_tested ns (λ i j a b p q u v e. let s : suc i ≡ suc j = differ (suc i) (suc j) a b p q u v e in let z : i ≡ j = omega (arith, s) in z))
    where
      by : (t : Bool) → list_any (is_at d (node_at d n)) ns ≡ t → are_apart d ns ≡ true → (not t && are_apart d ns) ≡ true
      by true t rest =
          let x = in_any (is_at d (node_at d n)) ns t in
          let m = met n x.0 x.2 in
          let at = got_of_in x.0 ns x.1 in
          let z : 0 ≡ suc at.0 = differ 0 (suc at.0) n x.0 refl at.1 m.0 m.1 m.2 in
          absurd (omega (arith, z))
      by false t rest = rest

  -- ---- ends that were declared
  pub known_told : (names : List (List ℕ)) → list_all (is_known d) names ≡ true → All (IsEnd d) names
  known_told names t = in_all_of (IsEnd d) names (λ x i. all_in (is_known d) names t x i)

  all_tested : (names : List (List ℕ)) → ((x : List ℕ) → In x names → IsEnd d x) → list_all (is_known d) names ≡ true
  all_tested [] f = refl
  all_tested (n ∷ ns) f = both_true (is_known d n) (list_all (is_known d) ns) (f n (inl refl)) (all_tested ns (λ x i. f x (inr i)))

  pub known_tested : (names : List (List ℕ)) → All (IsEnd d) names → list_all (is_known d) names ≡ true
  known_tested names all = all_tested names (all_in_of (IsEnd d) names all)

  -- nodes of ends that were declared do not repeat
  nodes_once : (names : List (List ℕ)) → are_apart d names ≡ true → ((x : List ℕ) → In x names → IsEnd d x) → NoRepeats (each (node_of d.net.ends) (link_value d names))
  nodes_once [] t all = tt
  nodes_once (n ∷ ns) t all =
      let both = and_both (not (list_any (is_at d (node_at d n)) ns)) (are_apart d ns) t in (
        λ i.
            let e = in_each (node_of d.net.ends) (node_of d.net.ends (end_number d n)) (link_value d ns) i in
            let x = in_each (end_number d) e.0 ns e.1 in
            not_any _ both.0 (any_in (is_at d (node_at d n)) x.0 ns x.1 (meets n x.0 (all n (inl refl)) (all x.0 (inr x.1)) (e.2 ∙ ap (node_of d.net.ends) x.2))),
        nodes_once ns both.1 (λ x i. all x (inr i)),
      )

  -- ---- a link that can be added
  length_each : (names : List (List ℕ)) → length (link_value d names) ≡ length names
  length_each [] = refl
  length_each (n ∷ ns) = ap suc (length_each ns)

  pub takes : (names : List (List ℕ)) → 2 ≤ length names → length names ≤ 8 → are_apart d names ≡ true → list_all (is_known d) names ≡ true → length d.names ≤ length d.net.ends
      → ((e : ℕ) → In e (link_value d names) → link_of d.net.links e ≡ []) → length d.net.links < 512 → TakesLink d.net (link_value d names)
  takes names some few apart known there free room =
      let size = length_each names in
      let all : (x : List ℕ) → In x names → IsEnd d x = λ x i. all_in (is_known d) names known x i in
      record {
        some = omega (arith, size, some);
        few = omega (arith, size, few);
        there = λ e i.
            let x = in_each (end_number d) e names i in
            let inside = within d.names x.0 (end_number d x.0) (declared x.0 (all x.0 x.1)) in
            let is = x.2 in
            let z : e < length d.net.ends = omega (arith, inside, is, there) in z;
        free = free;
        apart = nodes_once names apart all;
        room = room;
      }
