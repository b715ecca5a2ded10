-- Trees and chains carry over to a network whose hops are the same and whose ends and links say the same of them.
use Rattle.std.specs.Prelude.{◌≡◌, ℕ, true, not, ◌||◌, ◌==◌, List, [], ◌∷◌, ◌++◌, Some}
use Rattle.std.specs.List.{list_all}
use Rattle.std.proofs.Common.{sym, ap, subst, ◌∙◌, inl, inr, ⊎_elim}
use Rattle.rsvp_base.specs.Members.{In}
use Rattle.rsvp_base.specs.declared.addr.Addr.{Addr}
use Rattle.rsvp_base.proofs.Members.{in_append}
use Rattle.rsvp_base.proofs.Tables.{either}
use Rattle.tree_model.specs.declared.hops.LinkHop.{LinkHop}
use Rattle.tree_model.specs.Networks.{Net, node_of, owner, among, link_of}
use Rattle.tree_model.specs.Trees.{tree, hops_of, is_linked, is_reached, Grows, IsGrownFrom, IsGrown}
use Rattle.tree_model.specs.Chains.{Chain, HasNoLoop, last_of}
use Rattle.tree_model.specs.Ranks.{Follows, followers, IsLoopFreeIn}
use Rattle.tree_model.proofs.Following.{follower_follows, follows_follower}
use Rattle.tree_model.proofs.TreeLaws.{Leads, reached_told, reached_tested, true_false}
use Rattle.tree_model.proofs.Links.{linked_from}

-- ---- chains
pub chain_map : {A : Type 0} (follow follow' : A → List A) (all all' : List A) → ((x : A) → In x all → In x all') → ((x y : A) → In x all → In y (follow x) → In y (follow' x)) → (c : List A)
    → Chain follow all c → Chain follow' all' c
chain_map follow follow' all all' f s [] chain = tt
chain_map follow follow' all all' f s (h ∷ []) chain = f h chain
chain_map follow follow' all all' f s (h ∷ y ∷ ys) chain = (f h chain.0, s h y chain.0 chain.1, chain_map follow follow' all all' f s (y ∷ ys) chain.2)

last_in : {A : Type 0} (follow : A → List A) (all : List A) (h : A) (c : List A) → Chain follow all (h ∷ c) → In (last_of h c) all
last_in follow all h [] chain = chain
last_in follow all h (y ∷ ys) chain = last_in follow all y ys chain.2

pub free_map : {A : Type 0} (follow follow' : A → List A) (all all' : List A) → ((x : A) → In x all → In x all') → ((x y : A) → In x all → In y (follow x) → In y (follow' x)) → HasNoLoop follow' all'
    → HasNoLoop follow all
free_map follow follow' all all' f s free h c closed =
    free h c (chain_map follow follow' all all' f s (h ∷ c) closed.0, s (last_of h c) h (last_in follow all h c closed.0) closed.1)

-- ---- trees
-- of a hop that was linked the new network says the same
pub record Same (net more : Net) (h : LinkHop) : Type 0 where
  pub linked : is_linked more.links h ≡ true
  pub from : node_of more.ends h.from ≡ node_of net.ends h.from
  pub to : node_of more.ends h.to ≡ node_of net.ends h.to
  pub link : link_of more.links h.from ≡ link_of net.links h.from

module _ (net more : Net) (same : (h : LinkHop) → is_linked net.links h ≡ true → Same net more h) where
  module _ (s : Addr) (root : owner more.ends s ≡ owner net.ends s) where
    leads_on : (hs : List LinkHop) → ((x : LinkHop) → In x hs → is_linked net.links x ≡ true) → (n : ℕ) → Leads net.ends s hs n → Leads more.ends s hs n
    leads_on hs all n (inl e) = inl (root ∙ e)
    leads_on hs all n (inr h) = inr (h.0, h.1, (same h.0 (all h.0 h.1)).to ∙ h.2)

    leads_back : (hs : List LinkHop) → ((x : LinkHop) → In x hs → is_linked net.links x ≡ true) → (n : ℕ) → Leads more.ends s hs n → Leads net.ends s hs n
    leads_back hs all n (inl e) = inl (sym root ∙ e)
    leads_back hs all n (inr h) = inr (h.0, h.1, sym (same h.0 (all h.0 h.1)).to ∙ h.2)

    grows_on : (hs : List LinkHop) (h : LinkHop) → ((x : LinkHop) → In x hs → is_linked net.links x ≡ true) → Grows net s hs h → Grows more s hs h
    grows_on hs h all g =
        let i = same h g.linked in
        record {
          linked = i.linked;
          from_reached = reached_tested more.ends s hs (node_of more.ends h.from) (subst (λ n. Leads more.ends s hs n) (sym i.from)
              (leads_on hs all (node_of net.ends h.from) (reached_told net.ends s hs (node_of net.ends h.from) g.from_reached)));
          to_new = either (is_reached more.ends s hs (node_of more.ends h.to))
              (λ t. absurd (true_false _ (reached_tested net.ends s hs (node_of net.ends h.to)
              (leads_back hs all (node_of net.ends h.to) (subst (λ n. Leads more.ends s hs n) i.to (reached_told more.ends s hs (node_of more.ends h.to) t)))) g.to_new))
              (λ f. f);
          alone = ap (λ (l : List ℕ). list_all (λ (x : LinkHop). not (among x.from l) || (x.from == h.from)) hs) i.link ∙ g.alone;
        }

    grown_on : (before hs : List LinkHop) → ((x : LinkHop) → In x before → is_linked net.links x ≡ true) → IsGrownFrom net s before hs → IsGrownFrom more s before hs
    grown_on before [] all grown = tt
    grown_on before (h ∷ hs) all grown = (
      grows_on before h all grown.0,
      grown_on (before ++ h ∷ []) hs
          (λ x i. ⊎_elim (λ (j : In x before). all x j) (λ (j : In x (h ∷ [])). ⊎_elim (λ (e : x ≡ h). ap (is_linked net.links) e ∙ grown.0.linked) (λ (k : ⊥). absurd k) j)
          (in_append x before (h ∷ []) i)) grown.1,
    )

  -- a tree that has a hop has a root
  pub grown_over : (s : Addr) (hs : List LinkHop) → ((n : ℕ) → owner net.ends s ≡ Some n → owner more.ends s ≡ Some n) → IsGrown net s hs → IsGrown more s hs
  grown_over s [] root grown = tt
  grown_over s (h ∷ hs) root grown = by (reached_told net.ends s [] (node_of net.ends h.from) grown.0.from_reached)
    where
      by : Leads net.ends s [] (node_of net.ends h.from) → IsGrown more s (h ∷ hs)
      by (inl e) = grown_on s (root (node_of net.ends h.from) e ∙ sym e) [] (h ∷ hs) (λ x i. absurd i) grown
      by (inr x) = absurd x.1

  -- with the same hops, no new chain closes
  pub free_over : (g : Addr) → more.hops ≡ net.hops → ((s : Addr) → IsGrown net s (tree net.hops g s)) → IsLoopFreeIn net g → IsLoopFreeIn more g
  free_over g e grown free =
      free_map (followers more g) (followers net g) (hops_of more.hops g) (hops_of net.hops g) (λ x i. subst (λ hops. In x (hops_of hops g)) e i)
      (λ x y i j. follows_follower net g x y (back x y (follower_follows more g x y j))) free
    where
      back : (x y : LinkHop) → Follows more g x y → Follows net g x y
      back x y f =
          let i = subst (λ hops. In x (tree hops g f.source)) e f.first in
          let j = subst (λ hops. In y (tree hops g f.source)) e f.second in
          let a = same x (linked_from net f.source [] (tree net.hops g f.source) (grown f.source) x i) in
          let b = same y (linked_from net f.source [] (tree net.hops g f.source) (grown f.source) y j) in
          record { source = f.source; first = i; second = j; meet = sym b.from ∙ f.meet ∙ a.to }
