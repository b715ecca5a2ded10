-- What is left over at a node, with one fact more somewhere.
use Rattle.std.specs.Prelude.{◌≡◌, ℕ, ◌==◌, Bool, true, false, cond, List, [], ◌∷◌, ◌++◌, map as each, slice_get, slice_set, Option, Some, None, IfSome, refl}
use Rattle.std.specs.List.{filter}
use Rattle.std.proofs.Common.{zero, suc, sym, ap, subst, ◌∙◌, arith}
use Rattle.rsvp_base.specs.declared.iface.Iface.{Iface}
use Rattle.tree_model.specs.declared.hops.End.{End}
use Rattle.std.proofs.lemmas.Bool.Decides.{nat_tests}
use Rattle.tree_model.proofs.Following.{number_same, same_number}
use Rattle.rsvp_base.proofs.Tables.{either}
use Rattle.router_rules.specs.Calls.{with_left}
use Rattle.router_rules.specs.Facts.{Facts, no_facts}
use Rattle.router_rules.specs.Inputs.{Stale}
use Rattle.network_model.specs.LeftFacts.{facts_at, facts_with_all, stale_at}
use Rattle.stale_state.specs.AtNodes.{AreBooksOf, AreKept, entry_of, ifaces_at_node, list_of}
use Rattle.stale_state.specs.Kept.{facts_of, ifaces_of, stale_of}
use Rattle.stale_state.specs.declared.at_node.AtNode.{AtNode}
use Rattle.stale_state.specs.declared.fact.LeftOver.{LeftOver}

more_left : (xs : List Stale) (s : Stale) (f : Facts) → facts_with_all (xs ++ s ∷ []) f ≡ with_left s (facts_with_all xs f)
more_left [] s f = refl
more_left (x ∷ xs) s f = more_left xs s (with_left x f)

module _ (m : ℕ) where
  at_more : (xs : List (ℕ × Stale)) (n : ℕ) (s : Stale) (b : Bool) → (n == m) ≡ b → stale_at m (xs ++ (n, s) ∷ []) ≡ stale_at m xs ++ cond b (s ∷ []) []
  at_more [] n s b e = ap (λ (t : Bool). each (λ (y : ℕ × Stale). y.1) (cond t ((n, s) ∷ []) [])) e ∙ by b
    where
      by : (t : Bool) → each (λ (y : ℕ × Stale). y.1) (cond t ((n, s) ∷ []) []) ≡ cond t (s ∷ []) []
      by true = refl
      by false = refl
  at_more (x ∷ xs) n s b e = by (x.0 == m) (at_more xs n s b e)
    where
      by : (t : Bool) → stale_at m (xs ++ (n, s) ∷ []) ≡ stale_at m xs ++ cond b (s ∷ []) []
          → each (λ (y : ℕ × Stale). y.1) (cond t (x ∷ filter (λ (y : ℕ × Stale). y.0 == m) (xs ++ (n, s) ∷ [])) (filter (λ (y : ℕ × Stale). y.0 == m) (xs ++ (n, s) ∷ [])))
          ≡ each (λ (y : ℕ × Stale). y.1) (cond t (x ∷ filter (λ (y : ℕ × Stale). y.0 == m) xs) (filter (λ (y : ℕ × Stale). y.0 == m) xs)) ++ cond b (s ∷ []) []
      by true rest = ap (λ (zs : List Stale). x.1 ∷ zs) rest
      by false rest = rest

nothing_more : {A : Type 0} (xs : List A) → xs ++ [] ≡ xs
nothing_more [] = refl
nothing_more (x ∷ xs) = ap (λ zs. x ∷ zs) (nothing_more xs)

-- at its node
pub facts_more : (xs : List (ℕ × Stale)) (n : ℕ) (s : Stale) → facts_at (xs ++ (n, s) ∷ []) n ≡ with_left s (facts_at xs n)
facts_more xs n s = ap (λ ys. facts_with_all ys no_facts) (at_more n xs n s true (number_same n n refl)) ∙ more_left (stale_at n xs) s no_facts

-- at another
pub facts_same : (xs : List (ℕ × Stale)) (n m : ℕ) (s : Stale) → (n == m) ≡ false → facts_at (xs ++ (n, s) ∷ []) m ≡ facts_at xs m
facts_same xs n m s apart = ap (λ ys. facts_with_all ys no_facts) (at_more m xs n s false apart ∙ nothing_more (stale_at m xs))

-- ---- lists
pub list_none : (ls : List LeftOver) → list_of ls ≡ [] → ls ≡ []
list_none [] e = refl
list_none (l ∷ ls) e = absurd (cc)

pub list_more : (ls : List LeftOver) (l : LeftOver) → list_of (ls ++ l ∷ []) ≡ list_of ls ++ entry_of l ∷ []
list_more [] l = refl
list_more (x ∷ xs) l = ap (λ zs. entry_of x ∷ zs) (list_more xs l)

set_here : {A : Type 0} (xs : List A) (n : ℕ) (x y : A) → slice_get (slice_set xs n x) n ≡ Some y → y ≡ x
set_here [] n x y e = absurd (cc)
set_here (a ∷ xs) zero x y e = cc
set_here (a ∷ xs) (suc n) x y e = set_here xs n x y e

set_there : {A : Type 0} (xs : List A) (n m : ℕ) (x : A) → (n == m) ≡ false → slice_get (slice_set xs n x) m ≡ slice_get xs m
set_there [] n m x e = refl
set_there (a ∷ xs) zero zero x e = absurd (cc)
set_there (a ∷ xs) zero (suc m) x e = refl
set_there (a ∷ xs) (suc n) zero x e = refl
set_there (a ∷ xs) (suc n) (suc m) x e = set_there xs n m x (let z : (suc n == suc m) ≡ false = e in grind (arith, nat_tests, z))

-- one fact more at a node, of which the tables follow
module _ (ls : List LeftOver) (ns : List AtNode) (l : LeftOver) (t : AtNode) (kept : AreKept ls ns) (now : facts_of t ≡ with_left (stale_of l.fact l.left) (facts_at (list_of ls) l.node)) where
  at_all : (m : ℕ) (u : AtNode) → slice_get (slice_set ns l.node t) m ≡ Some u → facts_of u ≡ facts_at (list_of (ls ++ l ∷ [])) m
  at_all m u e =
      either (l.node == m)
      (λ here.
      let same = same_number l.node m here in
      let is : u ≡ t = set_here ns l.node t u (subst (λ z. slice_get (slice_set ns l.node t) z ≡ Some u) (sym same) e) in
      ap facts_of is ∙ now ∙ sym (facts_more (list_of ls) l.node (stale_of l.fact l.left)) ∙ ap (λ xs. facts_at xs l.node) (sym (list_more ls l)) ∙ ap (facts_at (list_of (ls ++ l ∷ []))) same)
      (λ apart.
      kept.at m u (sym (set_there ns l.node m t apart) ∙ e) ∙ sym (facts_same (list_of ls) l.node m (stale_of l.fact l.left) apart) ∙ ap (λ xs. facts_at xs m) (sym (list_more ls l)))

  not_none : {A : Type 0} (xs : List A) (x : A) → xs ++ x ∷ [] ≡ [] → ⊥
  not_none [] x e = cc
  not_none (y ∷ ys) x e = cc

  pub kept_more : AreKept (ls ++ l ∷ []) (slice_set ns l.node t)
  kept_more = record { at = at_all; none = λ e. absurd (not_none ls l e) }

-- the same facts at a node
pub kept_same : (ls : List LeftOver) (ns : List AtNode) (n : ℕ) (t : AtNode) → AreKept ls ns → facts_of t ≡ facts_at (list_of ls) n → (ls ≡ [] → ifaces_of t ≡ None) → AreKept ls (slice_set ns n t)
kept_same ls ns n t kept facts ifaces = record {
  at = λ m u e.
      either (n == m)
      (λ here.
      let same = same_number n m here in
      let is : u ≡ t = set_here ns n t u (subst (λ z. slice_get (slice_set ns n t) z ≡ Some u) (sym same) e) in
      ap facts_of is ∙ facts ∙ ap (facts_at (list_of ls)) same)
      (λ apart. kept.at m u (sym (set_there ns n m t apart) ∙ e));
  none = λ empty m u e.
      either (n == m)
      (λ here.
      let same = same_number n m here in
      let is : u ≡ t = set_here ns n t u (subst (λ z. slice_get (slice_set ns n t) z ≡ Some u) (sym same) e) in
      ap ifaces_of is ∙ ifaces empty)
      (λ apart. kept.none empty m u (sym (set_there ns n m t apart) ∙ e));
}

-- ---- the books
pub books_of_none : (ends : List End) (ls : List LeftOver) (ns : List AtNode) → AreKept ls ns → ls ≡ [] → AreBooksOf ends ns
books_of_none ends ls ns kept none n t is at books = let no : ◌≡◌ {A = Option (List Iface)} None (Some is) = sym (kept.none none n t at) ∙ books in absurd (cc)

pub books_set : (ends : List End) (ns : List AtNode) (n : ℕ) (t : AtNode) → AreBooksOf ends ns → ((is : List Iface) → ifaces_of t ≡ Some is → is ≡ ifaces_at_node ends n)
    → AreBooksOf ends (slice_set ns n t)
books_set ends ns n t books now m u is at e =
    either (n == m)
    (λ here.
    let same = same_number n m here in
    let are : u ≡ t = set_here ns n t u (subst (λ z. slice_get (slice_set ns n t) z ≡ Some u) (sym same) at) in
    now is (sym (ap ifaces_of are) ∙ e) ∙ ap (ifaces_at_node ends) same)
    (λ apart. books m u is (sym (set_there ns n m t apart) ∙ at) e)

pub books_from : (ends : List End) (ns : List AtNode) (n : ℕ) (t : AtNode) → AreBooksOf ends ns → IfSome (ifaces_of t) (λ is. is ≡ ifaces_at_node ends n) → AreBooksOf ends (slice_set ns n t)
books_from ends ns n t books own = books_set ends ns n t books (λ is e. told (ifaces_of t) own is e)
  where
    told : (o : Option (List Iface)) → IfSome o (λ is. is ≡ ifaces_at_node ends n) → (is : List Iface) → o ≡ Some is → is ≡ ifaces_at_node ends n
    told None own is e = absurd (cc)
    told (Some js) own is e = let same : is ≡ js = cc in same ∙ own
