-- On a link one end alone sends for a tree.
use Rattle.std.specs.Prelude.{◌≡◌, ℕ, Bool, true, false, not, ◌||◌, ◌==◌, List, [], ◌∷◌, ◌++◌, Some, refl, if◌then◌else◌}
use Rattle.std.proofs.Common.{sym, ap, subst, ◌∙◌, inl, inr}
use Rattle.rsvp_base.specs.Members.{In}
use Rattle.rsvp_base.specs.declared.addr.Addr.{Addr}
use Rattle.rsvp_base.proofs.Members.{in_filter, to_filter, in_any, any_in, all_in, in_left, in_right}
use Rattle.tree_model.specs.declared.hops.LinkHop.{LinkHop}
use Rattle.tree_model.specs.Networks.{Net, node_of, among, link_of, peers}
use Rattle.tree_model.specs.Trees.{hops_of, tree, is_linked, sends_alone, IsGrownFrom, inward, outward}
use Rattle.tree_model.specs.Valid.{IsValid}
use Rattle.tree_model.specs.Laws.{OneSendingEndOnALink}
use Rattle.tree_model.proofs.Following.{in_group, number_same, same_number, to_tree}
use Rattle.tree_model.proofs.TreeLaws.{out_told, way_in_told}

pub among_in : (e : ℕ) (es : List ℕ) → among e es ≡ true → In e es
among_in e es t = let x = in_any (λ x. x == e) es t in subst (λ (a : ℕ). In a es) (same_number x.0 e x.2) x.1

pub in_among : (e : ℕ) (es : List ℕ) → In e es → among e es ≡ true
in_among e es i = any_in (λ x. x == e) e es i (number_same e e refl)

-- an end is of its own link, where that has another end
pub of_own_link : (links : List (List ℕ)) (e x : ℕ) → In x (link_of links e) → among e (link_of links e) ≡ true
of_own_link [] e x i = absurd i
of_own_link (l ∷ ls) e x i = by (of_own_link ls e x) (among e l) refl i
  where
    by : (In x (link_of ls e) → among e (link_of ls e) ≡ true) → (b : Bool) → among e l ≡ b → In x (if b then l else link_of ls e) → among e (if b then l else link_of ls e) ≡ true
    by rest true t i = t
    by rest false t i = rest i

alone_told : (links : List (List ℕ)) (e : ℕ) (x : LinkHop) → sends_alone links e x ≡ true → among x.from (link_of links e) ≡ true → x.from ≡ e
alone_told links e x t on = same_number x.from e (by (among x.from (link_of links e)) on t)
  where
    by : (b : Bool) → b ≡ true → (not b || (x.from == e)) ≡ true → (x.from == e) ≡ true
    by true on t = t
    by false on t = cc

module _ (net : Net) (s : Addr) where
  alone_before : (before hs : List LinkHop) → IsGrownFrom net s before hs → (x y : LinkHop) → In x before → In y hs → among x.from (link_of net.links y.from) ≡ true → x.from ≡ y.from
  alone_before before [] grown x y i j on = absurd j
  alone_before before (z ∷ zs) grown x y i (inr j) on = alone_before (before ++ z ∷ []) zs grown.1 x y (in_left x before (z ∷ []) i) j on
  alone_before before (z ∷ zs) grown x y i (inl e) on =
      alone_told net.links y.from x (subst (λ (w : LinkHop). sends_alone net.links w.from x ≡ true) (sym e) (all_in (sends_alone net.links z.from) before grown.0.alone x i)) on

  pub alone_from : (before hs : List LinkHop) → IsGrownFrom net s before hs → (x y : LinkHop) → In x hs → In y hs → among x.from (link_of net.links y.from) ≡ true
      → among y.from (link_of net.links x.from) ≡ true → x.from ≡ y.from
  alone_from before [] grown x y i j on no_ = absurd i
  alone_from before (z ∷ zs) grown x y (inl p) (inl q) on back = ap (λ (h : LinkHop). h.from) (p ∙ sym q)
  alone_from before (z ∷ zs) grown x y (inl p) (inr j) on back = alone_before (before ++ z ∷ []) zs grown.1 x y (in_right x before (z ∷ []) (inl p)) j on
  alone_from before (z ∷ zs) grown x y (inr i) (inl q) on back = sym (alone_before (before ++ z ∷ []) zs grown.1 y x (in_right y before (z ∷ []) (inl q)) i back)
  alone_from before (z ∷ zs) grown x y (inr i) (inr j) on back = alone_from (before ++ z ∷ []) zs grown.1 x y i j on back

  pub linked_from : (before hs : List LinkHop) → IsGrownFrom net s before hs → (x : LinkHop) → In x hs → is_linked net.links x ≡ true
  linked_from before [] grown x i = absurd i
  linked_from before (z ∷ zs) grown x (inl p) = ap (is_linked net.links) p ∙ grown.0.linked
  linked_from before (z ∷ zs) grown x (inr i) = linked_from (before ++ z ∷ []) zs grown.1 x i

module _ (net : Net) (valid : IsValid net) where
  pub hop_linked : (g s : Addr) (h : LinkHop) → In h (tree net.hops g s) → In h.to (peers net.links h.from)
  hop_linked g s h i = among_in h.to (peers net.links h.from) (linked_from net s [] (tree net.hops g s) (valid.grown g s) h i)

  peer_of_link : (a e : ℕ) → In e (peers net.links a) → In e (link_of net.links a)
  peer_of_link a e i = (in_filter (λ x. not (x == a)) e (link_of net.links a) i).0

  -- two ends of which the one is of the other's link
  both_ways : (a b : ℕ) → In b (link_of net.links a) → (link_of net.links b ≡ link_of net.links a) × (among a (link_of net.links b) ≡ true)
  both_ways a b i =
      let same = valid.one_link a b (in_among b (link_of net.links a) i) in
      (same, ap (among a) same ∙ of_own_link net.links a b i)

  alone_ : (g s : Addr) (x y : LinkHop) → In x (tree net.hops g s) → In y (tree net.hops g s) → In y.from (link_of net.links x.from) → x.from ≡ y.from
  alone_ g s x y i j on =
      let back = both_ways x.from y.from on in
      alone_from net s [] (tree net.hops g s) (valid.grown g s) x y i j back.1 (in_among y.from (link_of net.links x.from) on)

  alone : (g s : Addr) (a b : ℕ) → In a (outward net (node_of net.ends a) g s) → In b (outward net (node_of net.ends b) g s) → In b (link_of net.links a) → a ≡ b
  alone g s a b i j on =
      let x = out_told net (node_of net.ends a) a g s i in
      let y = out_told net (node_of net.ends b) b g s j in
      sym x.2 ∙ alone_ g s x.0 y.0 x.1 y.1 (subst (λ (e : ℕ). In y.0.from (link_of net.links e)) (sym x.2) (subst (λ (e : ℕ). In e (link_of net.links a)) (sym y.2) on)) ∙ y.2

  hop : (g s : Addr) (a e : ℕ) → In a (outward net (node_of net.ends a) g s) → In e (peers net.links a) → inward net (node_of net.ends e) g s ≡ Some e
      → (h : LinkHop) × In h (tree net.hops g s) × (h.from ≡ a) × (h.to ≡ e)
  hop g s a e i j is =
      let x = out_told net (node_of net.ends a) a g s i in
      let h = way_in_told net valid (node_of net.ends e) e g s is in
      let on : In h.0.to (link_of net.links h.0.from) = peer_of_link h.0.from h.0.to (hop_linked g s h.0 h.1) in
      let same : link_of net.links h.0.to ≡ link_of net.links h.0.from = (both_ways h.0.from h.0.to on).0 in
      let ours : link_of net.links e ≡ link_of net.links a = (both_ways a e (peer_of_link a e j)).0 in
      let one : link_of net.links h.0.from ≡ link_of net.links a = sym same ∙ ap (link_of net.links) h.2 ∙ ours in
      let own : In h.0.from (link_of net.links h.0.from) = among_in h.0.from (link_of net.links h.0.from) (of_own_link net.links h.0.from h.0.to on) in
      let there : In h.0.from (link_of net.links x.0.from) = subst (λ (b : ℕ). In h.0.from (link_of net.links b)) (sym x.2) (subst (λ (l : List ℕ). In h.0.from l) one own) in
      (h.0, h.1, sym (alone_ g s x.0 h.0 x.1 h.1 there) ∙ x.2, h.2)

pub one_sending_end_on_a_link : (net : Net) → IsValid net → OneSendingEndOnALink net
one_sending_end_on_a_link net valid = record { hop = hop net valid; alone = alone net valid; linked = hop_linked net valid }

-- ---- two ends of a link are each a peer of the other
same_no : (a b : ℕ) → not (b == a) ≡ true → not (a == b) ≡ true
same_no a b h = by (a == b) refl
  where
    by : (x : Bool) → (a == b) ≡ x → not x ≡ true
    by false e = refl
    by true e =
        let same : a ≡ b = same_number a b e in
        let yes : (b == a) ≡ true = number_same b a (sym same) in
        let no : false ≡ true = ap not (sym yes) ∙ h in absurd (cc)

pub peers_both : (net : Net) → IsValid net → (a b : ℕ) → In b (peers net.links a) → In a (peers net.links b)
peers_both net valid a b i =
    let f = in_filter (λ x. not (x == a)) b (link_of net.links a) i in
    let own = among_in a (link_of net.links a) (of_own_link net.links a b f.0) in
    let same = valid.one_link a b (in_among b (link_of net.links a) f.0) in
    to_filter (λ x. not (x == b)) a (link_of net.links b) (subst (λ (l : List ℕ). In a l) (sym same) own) (same_no a b f.1)

-- the two ends of a hop of a group are on one link
pub back_linked : (net : Net) → IsValid net → (g : Addr) (h : LinkHop) → In h (hops_of net.hops g) → In h.from (peers net.links h.to)
back_linked net valid g h i =
    let r = in_group net.hops g h i in
    let there : In h (tree net.hops r.0.group r.0.source) = subst (λ (z : LinkHop). In z (tree net.hops r.0.group r.0.source)) r.3 (to_tree net.hops r.0 r.1) in
    peers_both net valid h.from h.to (hop_linked net valid r.0.group r.0.source h there)
