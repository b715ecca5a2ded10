-- Trees that were grown: one hop into a node, none into the root.
use Rattle.std.specs.Prelude.{◌≡◌, ◌⊎◌, ℕ, Bool, true, false, List, [], ◌∷◌, ◌++◌, Option, None, Some, refl}
use Rattle.std.specs.List.{filter, list_any}
use Rattle.std.proofs.Common.{sym, ap, subst, ◌∙◌, inl, inr, ⊎_elim, append_assoc}
use Rattle.rsvp_base.specs.Members.{In}
use Rattle.rsvp_base.specs.declared.addr.Addr.{Addr}
use Rattle.rsvp_base.proofs.Members.{in_each, to_each, in_filter, to_filter, in_any, any_in, in_left, in_right}
use Rattle.rsvp_base.proofs.SetLaws.{or_either, or_left, or_right}
use Rattle.tree_model.specs.declared.hops.End.{End}
use Rattle.tree_model.specs.declared.hops.LinkHop.{LinkHop}
use Rattle.tree_model.specs.Networks.{Net, node_of, owner}
use Rattle.tree_model.specs.Trees.{tree, goes_into, goes_out_of, is_node, is_reached, IsGrownFrom, first_by, end_into, inward, outward}
use Rattle.tree_model.specs.Valid.{IsValid}
use Rattle.tree_model.specs.Laws.{OneHopIntoANode, OutwardIsByHops, TheRootHasNoInward}
use Rattle.tree_model.proofs.Following.{same_number, number_same}

-- ---- what a tree has reached
-- the node is the root, or a hop goes into it
abbrev pub Leads : List End → Addr → List LinkHop → ℕ → Type 0
Leads ends s hs n = (owner ends s ≡ Some n) ⊎ ((h : LinkHop) × In h hs × (node_of ends h.to ≡ n))

is_node_told : (n : ℕ) (o : Option ℕ) → is_node n o ≡ true → o ≡ Some n
is_node_told n None e = cc
is_node_told n (Some m) e = ap Some (same_number m n e)

is_node_tested : (n : ℕ) (o : Option ℕ) → o ≡ Some n → is_node n o ≡ true
is_node_tested n o e = ap (is_node n) e ∙ number_same n n refl

pub true_false : (b : Bool) → b ≡ true → b ≡ false → ⊥
true_false b e f = cc

pub reached_told : (ends : List End) (s : Addr) (hs : List LinkHop) (n : ℕ) → is_reached ends s hs n ≡ true → Leads ends s hs n
reached_told ends s hs n e =
    ⊎_elim (λ (r : is_node n (owner ends s) ≡ true). inl (is_node_told n (owner ends s) r))
    (λ (r : list_any (goes_into ends n) hs ≡ true). let h = in_any (goes_into ends n) hs r in inr (h.0, h.1, same_number _ n h.2))
    (or_either (is_node n (owner ends s)) (list_any (goes_into ends n) hs) e)

pub reached_tested : (ends : List End) (s : Addr) (hs : List LinkHop) (n : ℕ) → Leads ends s hs n → is_reached ends s hs n ≡ true
reached_tested ends s hs n (inl e) = or_left _ _ (is_node_tested n (owner ends s) e)
reached_tested ends s hs n (inr h) = or_right _ _ (any_in (goes_into ends n) h.0 hs h.1 (number_same _ n h.2))

leads_left : (ends : List End) (s : Addr) (xs ys : List LinkHop) (n : ℕ) → Leads ends s xs n → Leads ends s (xs ++ ys) n
leads_left ends s xs ys n (inl e) = inl e
leads_left ends s xs ys n (inr h) = inr (h.0, in_left h.0 xs ys h.1, h.2)

-- ---- grown trees
module _ (net : Net) (s : Addr) where
  -- no hop goes into a node that was reached before
  pub new_at : (before hs : List LinkHop) → IsGrownFrom net s before hs → (h : LinkHop) → In h hs → Leads net.ends s before (node_of net.ends h.to) → ⊥
  new_at before [] grown h i leads = i
  new_at before (x ∷ xs) grown h i leads =
      ⊎_elim (λ (e : h ≡ x). true_false _ (reached_tested net.ends s before (node_of net.ends x.to) (subst (λ (y : LinkHop). Leads net.ends s before (node_of net.ends y.to)) e leads)) grown.0.to_new)
      (λ (j : In h xs). new_at (before ++ x ∷ []) xs grown.1 h j (leads_left net.ends s before (x ∷ []) (node_of net.ends h.to) leads)) i

  -- a hop goes out of a node that the tree reaches
  pub from_leads : (before hs : List LinkHop) → IsGrownFrom net s before hs → (h : LinkHop) → In h hs → Leads net.ends s (before ++ hs) (node_of net.ends h.from)
  from_leads before [] grown h i = absurd i
  from_leads before (x ∷ xs) grown h i =
      ⊎_elim (λ (e : h ≡ x). leads_left net.ends s before (x ∷ xs) (node_of net.ends h.from)
      (reached_told net.ends s before (node_of net.ends h.from) (ap (λ (y : LinkHop). is_reached net.ends s before (node_of net.ends y.from)) e ∙ grown.0.from_reached)))
      (λ (j : In h xs). subst (λ (zs : List LinkHop). Leads net.ends s zs (node_of net.ends h.from)) (append_assoc before (x ∷ []) xs) (from_leads (before ++ x ∷ []) xs grown.1 h j)) i

  last_in : (before : List LinkHop) (x : LinkHop) → In x (before ++ x ∷ [])
  last_in before x = in_right x before (x ∷ []) (inl refl)

  pub one_into : (before hs : List LinkHop) → IsGrownFrom net s before hs → (h h' : LinkHop) → In h hs → In h' hs → node_of net.ends h.to ≡ node_of net.ends h'.to → h ≡ h'
  one_into before [] grown h h' i i' e = absurd i
  one_into before (x ∷ xs) grown h h' (inl p) (inl q) e = p ∙ sym q
  one_into before (x ∷ xs) grown h h' (inl p) (inr j) e = absurd (new_at (before ++ x ∷ []) xs grown.1 h' j (inr (x, last_in before x, ap (λ (y : LinkHop). node_of net.ends y.to) (sym p) ∙ e)))
  one_into before (x ∷ xs) grown h h' (inr j) (inl q) e = absurd (new_at (before ++ x ∷ []) xs grown.1 h j (inr (x, last_in before x, ap (λ (y : LinkHop). node_of net.ends y.to) (sym q) ∙ sym e)))
  one_into before (x ∷ xs) grown h h' (inr j) (inr k) e = one_into (before ++ x ∷ []) xs grown.1 h h' j k e

-- ---- the first that passes a test
pub first_told : (p : LinkHop → Bool) (hs : List LinkHop) (h : LinkHop) → first_by p hs ≡ Some h → In h hs × (p h ≡ true)
first_told p [] h e = cc
first_told p (x ∷ xs) h e = by (first_told p xs h) (p x) refl e
  where
    by : (first_by p xs ≡ Some h → In h xs × (p h ≡ true)) → (b : Bool) → p x ≡ b → elim b as (λ _. Option LinkHop) [ true ↦ Some x | false ↦ first_by p xs ] ≡ Some h → In h (x ∷ xs) × (p h ≡ true)
    by rest true t e = let same : h ≡ x = cc in (inl same, ap p same ∙ t)
    by rest false t e = let r = rest e in (inr r.0, r.1)

pub first_none : (p : LinkHop → Bool) (hs : List LinkHop) → first_by p hs ≡ None → (h : LinkHop) → In h hs → p h ≡ true → ⊥
first_none p [] e h i t = i
first_none p (x ∷ xs) e h i t = by (λ f j. first_none p xs f h j t) (p x) refl e
  where
    by : (first_by p xs ≡ None → In h xs → ⊥) → (b : Bool) → p x ≡ b → elim b as (λ _. Option LinkHop) [ true ↦ Some x | false ↦ first_by p xs ] ≡ None → ⊥
    by rest true q e = cc
    by rest false q e = ⊎_elim (λ (f : h ≡ x). true_false (p h) t (ap p f ∙ q)) (λ (j : In h xs). rest e j) i

pub none_first : (p : LinkHop → Bool) (hs : List LinkHop) → ((h : LinkHop) → In h hs → p h ≡ true → ⊥) → first_by p hs ≡ None
none_first p hs f = by (first_by p hs) refl
  where
    by : (o : Option LinkHop) → first_by p hs ≡ o → o ≡ None
    by None e = refl
    by (Some h) e = let r = first_told p hs h e in absurd (f h r.0 r.1)

-- ---- the way in of a node
-- the hop over which the tree comes into the node, if one does
pub into : (net : Net) (n : ℕ) (g s : Addr) → ((h : LinkHop) × In h (tree net.hops g s) × (node_of net.ends h.to ≡ n) × (inward net n g s ≡ Some h.to))
    ⊎ ((inward net n g s ≡ None) × ((h : LinkHop) → In h (tree net.hops g s) → node_of net.ends h.to ≡ n → ⊥))
into net n g s = by (first_by (goes_into net.ends n) (tree net.hops g s)) refl
  where
    by : (o : Option LinkHop) → first_by (goes_into net.ends n) (tree net.hops g s) ≡ o
        → ((h : LinkHop) × In h (tree net.hops g s) × (node_of net.ends h.to ≡ n) × (inward net n g s ≡ Some h.to))
        ⊎ ((inward net n g s ≡ None) × ((h : LinkHop) → In h (tree net.hops g s) → node_of net.ends h.to ≡ n → ⊥))
    by None e = inr (ap end_into e, λ h i t. first_none (goes_into net.ends n) (tree net.hops g s) e h i (number_same _ n t))
    by (Some h) e = let r = first_told (goes_into net.ends n) (tree net.hops g s) h e in inl (h, r.0, same_number _ n r.1, ap end_into e)

module _ (net : Net) (valid : IsValid net) where
  pub one : (g s : Addr) (h h' : LinkHop) → In h (tree net.hops g s) → In h' (tree net.hops g s) → node_of net.ends h.to ≡ node_of net.ends h'.to → h ≡ h'
  one g s h h' i i' e = one_into net s [] (tree net.hops g s) (valid.grown g s) h h' i i' e

  pub way_in_told : (n e : ℕ) (g s : Addr) → inward net n g s ≡ Some e → (h : LinkHop) × In h (tree net.hops g s) × (h.to ≡ e) × (node_of net.ends e ≡ n)
  way_in_told n e g s is = by (into net n g s)
    where
      by : ((h : LinkHop) × In h (tree net.hops g s) × (node_of net.ends h.to ≡ n) × (inward net n g s ≡ Some h.to))
          ⊎ ((inward net n g s ≡ None) × ((h : LinkHop) → In h (tree net.hops g s) → node_of net.ends h.to ≡ n → ⊥))
          → (h : LinkHop) × In h (tree net.hops g s) × (h.to ≡ e) × (node_of net.ends e ≡ n)
      by (inl r) = let same : r.0.to ≡ e = cc (r.3, is) in (r.0, r.1, same, ap (node_of net.ends) (sym same) ∙ r.2)
      by (inr r) = absurd (cc (r.0, is))

  pub way_in_tested : (n e : ℕ) (g s : Addr) → (h : LinkHop) × In h (tree net.hops g s) × (h.to ≡ e) × (node_of net.ends e ≡ n) → inward net n g s ≡ Some e
  way_in_tested n e g s x = by (into net n g s)
    where
      at_n : node_of net.ends x.0.to ≡ n
      at_n = ap (node_of net.ends) x.2 ∙ x.3

      by : ((h : LinkHop) × In h (tree net.hops g s) × (node_of net.ends h.to ≡ n) × (inward net n g s ≡ Some h.to))
          ⊎ ((inward net n g s ≡ None) × ((h : LinkHop) → In h (tree net.hops g s) → node_of net.ends h.to ≡ n → ⊥))
          → inward net n g s ≡ Some e
      by (inl r) = r.3 ∙ ap (λ (y : LinkHop). Some y.to) (one g s r.0 x.0 r.1 x.1 (r.2 ∙ sym at_n)) ∙ ap Some x.2
      by (inr r) = absurd (r.1 x.0 x.1 at_n)

  no_way_in_told : (n : ℕ) (g s : Addr) → inward net n g s ≡ None → (h : LinkHop) → In h (tree net.hops g s) → node_of net.ends h.to ≡ n → ⊥
  no_way_in_told n g s e h i t =
      let there = way_in_tested n h.to g s (h, i, refl, t) in cc (there, e)

  no_way_in_tested : (n : ℕ) (g s : Addr) → ((h : LinkHop) → In h (tree net.hops g s) → node_of net.ends h.to ≡ n → ⊥) → inward net n g s ≡ None
  no_way_in_tested n g s f =
      ap end_into (none_first (goes_into net.ends n) (tree net.hops g s) (λ h i t. f h i (same_number _ n t)))

  root_in : (n : ℕ) (g s : Addr) → owner net.ends s ≡ Some n → inward net n g s ≡ None
  root_in n g s e = no_way_in_tested n g s (λ h i t. new_at net s [] (tree net.hops g s) (valid.grown g s) h i (inl (e ∙ ap Some (sym t))))

pub one_hop_into_a_node : (net : Net) → IsValid net → OneHopIntoANode net
one_hop_into_a_node net valid =
    record {
      one = one net valid;
      way_in = λ n e g s. (way_in_told net valid n e g s, way_in_tested net valid n e g s);
      none = λ n g s. (no_way_in_told net valid n g s, no_way_in_tested net valid n g s);
    }

-- ---- the ways out of a node
pub out_told : (net : Net) (n e : ℕ) (g s : Addr) → In e (outward net n g s) → (h : LinkHop) × In h (tree net.hops g s) × (h.from ≡ e) × (node_of net.ends e ≡ n)
out_told net n e g s i =
    let h = in_each (λ (h : LinkHop). h.from) e (filter (goes_out_of net.ends n) (tree net.hops g s)) i in
    let k = in_filter (goes_out_of net.ends n) h.0 (tree net.hops g s) h.1 in
    (h.0, k.0, sym h.2, ap (node_of net.ends) h.2 ∙ same_number _ n k.1)

pub out_tested : (net : Net) (n e : ℕ) (g s : Addr) → (h : LinkHop) × In h (tree net.hops g s) × (h.from ≡ e) × (node_of net.ends e ≡ n) → In e (outward net n g s)
out_tested net n e g s x =
    subst (λ (a : ℕ). In a (outward net n g s)) x.2
    (to_each (λ (h : LinkHop). h.from) x.0 (filter (goes_out_of net.ends n) (tree net.hops g s))
    (to_filter (goes_out_of net.ends n) x.0 (tree net.hops g s) x.1 (number_same _ n (ap (node_of net.ends) x.2 ∙ x.3))))

pub outward_is_by_hops : OutwardIsByHops
outward_is_by_hops net n e g s = (out_told net n e g s, out_tested net n e g s)

entered : (net : Net) → IsValid net → (n e : ℕ) (g s : Addr) → In e (outward net n g s) → (owner net.ends s ≡ Some n) ⊎ ((i : ℕ) × (inward net n g s ≡ Some i))
entered net valid n e g s i =
    let h = out_told net n e g s i in
    let is : node_of net.ends h.0.from ≡ n = ap (node_of net.ends) h.2 ∙ h.3 in
    ⊎_elim (λ (r : owner net.ends s ≡ Some (node_of net.ends h.0.from)). inl (r ∙ ap Some is))
    (λ (r : (x : LinkHop) × In x (tree net.hops g s) × (node_of net.ends x.to ≡ node_of net.ends h.0.from)). inr (r.0.to, way_in_tested net valid n r.0.to g s (r.0, r.1, refl, r.2 ∙ is)))
    (from_leads net s [] (tree net.hops g s) (valid.grown g s) h.0 h.1)

pub the_root_has_no_inward : (net : Net) → IsValid net → TheRootHasNoInward net
the_root_has_no_inward net valid = record { root = root_in net valid; entered = entered net valid }
