-- The tree of a sender can be added, hop by hop.
use Rattle.std.proofs.Common.{◌≡◌, ℕ, ◌<◌, ◌≤◌, Bool, true, false, cond, List, [], ◌∷◌, ◌++◌, length, refl, sym, ap, subst, ◌∙◌, inl, ⊎_elim, arith, append_assoc, length-append}
use Rattle.std.specs.Prelude.{map as each, ◌==◌}
use Rattle.std.specs.List.{filter, list_all, range_with_len}
use Rattle.std.proofs.lemmas.List.{length-map}
use Rattle.rsvp_base.specs.declared.addr.Addr.{Addr}
use Rattle.rsvp_base.specs.Members.{In}
use Rattle.rsvp_base.proofs.Members.{in_append, in_each, in_left, in_right}
use Rattle.rsvp_base.proofs.SetLaws.{and_made}
use Rattle.tree_model.specs.declared.hops.LinkHop.{LinkHop}
use Rattle.tree_model.specs.declared.hops.TreeHop.{TreeHop}
use Rattle.tree_model.specs.declared.locals.LocalSender.{LocalSender}
use Rattle.tree_model.specs.Networks.{Net}
use Rattle.tree_model.specs.Ranks.{IsLoopFreeIn}
use Rattle.tree_model.specs.Trees.{Grows, IsGrown, of_tree, tree}
use Rattle.tree_model.specs.Valid.{IsValid}
use Rattle.tree_model.proofs.Following.{addr_itself, same_number}
use Rattle.tree_routing.specs.Answers.{Fits, with_hop}
use Rattle.tree_routing.proofs.ValidMore.{valid_hop}
use Rattle.network_model.specs.Steps.{tree_hop}
use Rattle.grown_network.specs.Grown.{net_with, tree_of}
use Rattle.grown_network.specs.Growing.{AreAway, IsAtHome, TakesTree}
use Rattle.grown_network.specs.Hops.{hops_away, hops_down, way_up}
use Rattle.grown_network.specs.Nodes.{home}
use Rattle.grown_network.proofs.Chains.{loop_free}
use Rattle.grown_network.proofs.Ranges.{at_each}
use Rattle.grown_network.proofs.Trees.{grown, grows_at}

-- ---- trees of lists of hops
pub filter_append : {A : Type 0} (p : A → Bool) (xs ys : List A) → filter p (xs ++ ys) ≡ filter p xs ++ filter p ys
filter_append p [] ys = refl
filter_append {A} p (x ∷ xs) ys = by (p x) (filter_append p xs ys)
  where
    by : (b : Bool) → filter p (xs ++ ys) ≡ filter p xs ++ filter p ys → cond b (x ∷ filter p (xs ++ ys)) (filter p (xs ++ ys)) ≡ cond b (x ∷ filter p xs) (filter p xs) ++ filter p ys
    by true e = ap (λ (zs : List A). x ∷ zs) e
    by false e = e

pub each_append : {A B : Type 0} (f : A → B) (xs ys : List A) → each f (xs ++ ys) ≡ each f xs ++ each f ys
each_append f [] ys = refl
each_append {A} {B} f (x ∷ xs) ys = ap (λ (zs : List B). f x ∷ zs) (each_append f xs ys)

pub tree_append : (xs ys : List TreeHop) (g s : Addr) → tree (xs ++ ys) g s ≡ tree xs g s ++ tree ys g s
tree_append xs ys g s = ap (each (λ (t : TreeHop). t.hop)) (filter_append (of_tree g s) xs ys) ∙ each_append (λ (t : TreeHop). t.hop) (filter (of_tree g s) xs) (filter (of_tree g s) ys)

pub tree_itself : (g s : Addr) (hs : List LinkHop) → tree (each (tree_hop g s) hs) g s ≡ hs
tree_itself g s [] = refl
tree_itself g s (h ∷ hs) = by (of_tree g s (tree_hop g s h)) (and_made (g.0 == g.0) (s.0 == s.0) (addr_itself g) (addr_itself s)) (tree_itself g s hs)
  where
    by : (b : Bool) → b ≡ true → tree (each (tree_hop g s) hs) g s ≡ hs
        → each (λ (t : TreeHop). t.hop) (cond b (tree_hop g s h ∷ filter (of_tree g s) (each (tree_hop g s) hs)) (filter (of_tree g s) (each (tree_hop g s) hs))) ≡ h ∷ hs
    by true e rest = ap (λ (zs : List LinkHop). h ∷ zs) rest
    by false e rest = absurd (cc)

-- ---- 63 hops lead away from a node
away_tested : list_all (λ r. length (hops_away r) == 63) (range_with_len 0 64) ≡ true
unfolding hops_away hops_down way_up
away_tested = refl

pub number_away : (r : ℕ) → r < 64 → length (hops_away r) ≡ 63
number_away r lt = same_number (length (hops_away r)) 63 (at_each (λ r. length (hops_away r) == 63) 0 64 r away_tested (omega arith) (omega arith))

pub few_away : (r : ℕ) → r < 64 → length (hops_away r) ≤ 63
few_away r lt = let e = number_away r lt in omega (arith, e)

-- ---- hop by hop
module _ (net : Net) (x : LocalSender) (home_at : IsAtHome x) (takes : TakesTree net x) where
  -- those before and the first hops of the tree
  abbrev planted : List LinkHop → List TreeHop
  planted hs = net.hops ++ each (tree_hop x.session.group x.sender.addr) hs

  away_with : (hs : List LinkHop) → ((h : LinkHop) → In h hs → In h (hops_away x.node)) → AreAway (planted hs)
  away_with hs own t i =
      ⊎_elim (λ (j : In t net.hops). takes.away t j)
      (λ (j : In t (each (tree_hop x.session.group x.sender.addr) hs)).
      let h = in_each (tree_hop x.session.group x.sender.addr) t hs j in
      record {
        node = x.node;
        within = home_at.within;
        source = ap (λ (q : TreeHop). q.source) h.2 ∙ home_at.home_is;
        hop = subst (λ (y : LinkHop). In y (hops_away x.node)) (sym (ap (λ (q : TreeHop). q.hop) h.2)) (own h.0 h.1);
      })
      (in_append t net.hops (each (tree_hop x.session.group x.sender.addr) hs) i)

  own_tree : (hs : List LinkHop) → tree (planted hs) x.session.group x.sender.addr ≡ hs
  own_tree hs =
      tree_append net.hops (each (tree_hop x.session.group x.sender.addr) hs) x.session.group x.sender.addr
      ∙ ap (λ (zs : List LinkHop). zs ++ tree (each (tree_hop x.session.group x.sender.addr) hs) x.session.group x.sender.addr) takes.new
      ∙ tree_itself x.session.group x.sender.addr hs

  -- the next hop
  module _ (hs : List LinkHop) (h : LinkHop) (rest : List LinkHop) (parts : hops_away x.node ≡ hs ++ h ∷ rest) where
    abbrev before : Net
    before = net_with (planted hs)

    pub fits : Fits before (tree_hop x.session.group x.sender.addr h)
    fits =
        let whole : IsGrown before (home x.node) (hs ++ h ∷ rest) = subst (λ (zs : List LinkHop). IsGrown before (home x.node) zs) parts (grown (planted hs) x.node home_at.within) in
        let grows : Grows before (home x.node) hs h = grows_at before (home x.node) [] hs h rest whole in
        subst (λ (zs : List LinkHop). Grows before x.sender.addr zs h) (sym (own_tree hs)) (subst (λ (s : Addr). Grows before s hs h) (sym home_at.home_is) grows)

    one_more : planted (hs ++ h ∷ []) ≡ planted hs ++ tree_hop x.session.group x.sender.addr h ∷ []
    one_more =
        ap (λ (zs : List TreeHop). net.hops ++ zs) (each_append (tree_hop x.session.group x.sender.addr) hs (h ∷ []))
        ∙ sym (append_assoc net.hops (each (tree_hop x.session.group x.sender.addr) hs) (tree_hop x.session.group x.sender.addr h ∷ []))

    own : (y : LinkHop) → In y (hs ++ h ∷ []) → In y (hops_away x.node)
    own y i =
        subst (λ (zs : List LinkHop). In y zs) (sym parts)
        (⊎_elim (λ (j : In y hs). in_left y hs (h ∷ rest) j) (λ (j : In y (h ∷ [])). in_right y hs (h ∷ rest) (⊎_elim (λ (e : y ≡ h). inl e) (λ (none : ⊥). absurd none) j))
        (in_append y hs (h ∷ []) i))

    pub free : IsLoopFreeIn (with_hop before (tree_hop x.session.group x.sender.addr h)) x.session.group
    free = subst (λ (ts : List TreeHop). IsLoopFreeIn (net_with ts) x.session.group) one_more (loop_free (planted (hs ++ h ∷ [])) (away_with (hs ++ h ∷ []) own) x.session.group)

    pub room : length (planted hs) < 8192
    room =
        let many = length-append net.hops (each (tree_hop x.session.group x.sender.addr) hs) in
        let own_many = length-map hs (tree_hop x.session.group x.sender.addr) in
        let all = ap length parts ∙ length-append hs (h ∷ rest) in
        let few = few_away x.node home_at.within in
        let roomy = takes.room in
        omega (arith, many, own_many, all, few, roomy)

    pub with_is : with_hop before (tree_hop x.session.group x.sender.addr h) ≡ net_with (planted (hs ++ h ∷ []))
    with_is = ap net_with (sym one_more)

    pub valid_with : IsValid before → IsValid (net_with (planted (hs ++ h ∷ [])))
    valid_with valid = subst IsValid with_is (valid_hop before valid (tree_hop x.session.group x.sender.addr h) room fits free)

  -- all of them
  pub valid_all : (rest hs : List LinkHop) → hops_away x.node ≡ hs ++ rest → IsValid (net_with (planted hs)) → IsValid (net_with (planted (hops_away x.node)))
  valid_all [] hs parts valid = subst (λ (zs : List LinkHop). IsValid (net_with (planted zs))) (sym (parts ∙ none hs)) valid
    where
      none : (xs : List LinkHop) → xs ++ [] ≡ xs
      none [] = refl
      none (y ∷ xs) = ap (λ (zs : List LinkHop). y ∷ zs) (none xs)
  valid_all (h ∷ rest) hs parts valid = valid_all rest (hs ++ h ∷ []) (parts ∙ sym (append_assoc hs (h ∷ []) rest)) (valid_with hs h rest parts valid)

  pub valid_tree : IsValid net → IsValid (net_with (net.hops ++ tree_of x))
  valid_tree valid = valid_all (hops_away x.node) [] refl (subst IsValid (takes.hung ∙ ap net_with (sym (none net.hops))) valid)
    where
      none : (xs : List TreeHop) → xs ++ [] ≡ xs
      none [] = refl
      none (y ∷ xs) = ap (λ (zs : List TreeHop). y ∷ zs) (none xs)
