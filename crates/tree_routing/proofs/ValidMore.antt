-- A valid network stays valid with one more node, end, link or hop.
use Rattle.std.specs.Prelude.{◌≡◌, ◌⊎◌, ℕ, ◌+◌, ◌*◌, ◌<◌, ◌≤◌, Bool, true, false, not, ◌&&◌, ◌==◌, List, [], ◌∷◌, ◌++◌, length, map as each, Option, None, Some, Result, Ok, slice_get, refl}
use Rattle.std.specs.Prelude.{if◌then◌else◌}
use Rattle.std.specs.List.{filter}
use Rattle.std.proofs.Common.{zero, suc, sym, ap, subst, ◌∙◌, inl, inr, ⊎_elim, arith, append_assoc, length-append}
use Rattle.std.proofs.lemmas.List.{map-append}
use Rattle.rsvp_base.proofs.Fronts.{got_in}
use Rattle.rsvp_base.specs.Members.{In}
use Rattle.rsvp_base.specs.declared.addr.Addr.{Addr}
use Rattle.rsvp_base.proofs.Members.{in_append, in_filter}
use Rattle.rsvp_base.proofs.SetLaws.{and_both}
use Rattle.rsvp_base.proofs.Tables.{either}
use Rattle.tree_model.specs.declared.hops.End.{End}
use Rattle.tree_model.specs.declared.hops.LinkHop.{LinkHop}
use Rattle.tree_model.specs.declared.hops.TreeHop.{TreeHop}
use Rattle.tree_model.specs.Networks.{Net, node_of, node_of_end, ends_from, ends_of, owner, among, link_of, peers}
use Rattle.tree_model.specs.Trees.{of_group, of_tree, tree, hops_of, is_linked, Grows, IsGrownFrom, IsGrown}
use Rattle.tree_model.specs.Ranks.{followers, IsLoopFree, IsLoopFreeIn}
use Rattle.tree_model.specs.Valid.{AreRising, IsValid}
use Rattle.tree_model.proofs.Following.{same_number, number_same, addr_same, in_tree, to_tree, in_group, to_group, follower_follows, follows_follower}
use Rattle.tree_model.proofs.TreeLaws.{Leads, from_leads, reached_told, reached_tested, true_false}
use Rattle.tree_model.proofs.Links.{among_in, in_among, of_own_link, linked_from}
use Rattle.tree_routing.specs.declared.known.Known.{Known}
use Rattle.tree_routing.specs.declared.link.Link.{Link}
use Rattle.tree_routing.specs.Known.{plain, link_ends, net_of, is_pair, vertex_at, comes_to, vertex_before, IsKnown, AreKnown}
use Rattle.tree_routing.specs.Answers.{TakesEnd, TakesLink, with_node, with_end, with_link, rising, with_hop, Fits, HopAnswer}
use Rattle.tree_routing.proofs.LinkLaws.{rising_has, rising_length, rising_rises, once_before, one_of_value}
use Rattle.tree_routing.proofs.Carried.{free_map, Same, grown_over, free_over}
use Rattle.tree_routing.specs.declared.hop_err.HopErr.{HopErr}
use Rattle.tree_routing.specs.Checks.{LoopAnswer}
use Rattle.tree_routing.proofs.Loops.{kept_answer}
use Rattle.tree_routing.proofs.Vertices.{vertex_below, place_most, place_kept, place_new, pair_itself, known_tree, comes_told}

-- ---- lists
got_append : {X : Type 0} (xs : List X) (y : X) (i : ℕ) (d : X) → slice_get (xs ++ y ∷ []) i ≡ Some d → (slice_get xs i ≡ Some d) ⊎ ((i ≡ length xs) × (d ≡ y))
got_append [] y zero d e = inr (refl, cc)
got_append [] y (suc i) d e = cc
got_append (x ∷ xs) y zero d e = inl e
got_append (x ∷ xs) y (suc i) d e =
    ⊎_elim (λ (h : slice_get xs i ≡ Some d). inl h) (λ (h : (i ≡ length xs) × (d ≡ y)). inr (ap suc h.0, h.1)) (got_append xs y i d e)

got_left : {X : Type 0} (xs ys : List X) (i : ℕ) → i < length xs → slice_get (xs ++ ys) i ≡ slice_get xs i
got_left [] ys i lt = absurd (omega arith)
got_left (x ∷ xs) ys zero lt = refl
got_left (x ∷ xs) ys (suc i) lt = got_left xs ys i (omega arith)

-- ---- ends of linked hops are there
module _ (net : Net) (valid : IsValid net) where
  link_is : (links : List (List ℕ)) (a b : ℕ) → In b (link_of links a) → In (link_of links a) links
  link_is [] a b i = i
  link_is (l ∷ ls) a b i = by (among a l) (link_is ls a b) i
    where
      by : (t : Bool) → (In b (link_of ls a) → In (link_of ls a) ls) → In b (if t then l else link_of ls a) → In (if t then l else link_of ls a) (l ∷ ls)
      by true rest i = inl refl
      by false rest i = inr (rest i)

  pub to_there : (h : LinkHop) → is_linked net.links h ≡ true → In h.to (link_of net.links h.from)
  to_there h e = in_peer (among_in h.to (peers net.links h.from) e)
    where
      in_peer : In h.to (peers net.links h.from) → In h.to (link_of net.links h.from)
      in_peer i = filtered (link_of net.links h.from) i
        where
          filtered : (xs : List ℕ) → In h.to (filter (λ x. not (x == h.from)) xs) → In h.to xs
          filtered xs i = (in_filter (λ x. not (x == h.from)) h.to xs i).0

  pub from_inside : (h : LinkHop) → is_linked net.links h ≡ true → h.from < length net.ends
  from_inside h e =
      let i = to_there h e in
      valid.ends_of_links (link_of net.links h.from) h.from (link_is net.links h.from h.to i) (among_in h.from (link_of net.links h.from) (of_own_link net.links h.from h.to i))

  pub to_inside : (h : LinkHop) → is_linked net.links h ≡ true → h.to < length net.ends
  to_inside h e =
      let i = to_there h e in
      valid.ends_of_links (link_of net.links h.from) h.to (link_is net.links h.from h.to i) i

-- ---- a node
pub valid_node : (net : Net) → IsValid net → net.nodes < 256 → IsValid (with_node net)
valid_node net valid lt =
    record {
      few_nodes = omega arith;
      few_ends = valid.few_ends;
      few_links = valid.few_links;
      few_hops = valid.few_hops;
      placed = λ e i. let p = valid.placed e i in omega arith;
      one_address = valid.one_address;
      linked = valid.linked;
      nodes_apart = valid.nodes_apart;
      ends_of_links = valid.ends_of_links;
      rising = valid.rising;
      apart = valid.apart;
      one_link = valid.one_link;
      grown = λ g s. grown_over net (with_node net) (λ h e. record { linked = e; from = refl; to = refl; link = refl }) s (tree net.hops g s) (λ n e. e) (valid.grown g s);
      loop_free = valid.loop_free;
    }

-- ---- an end
ends_more : (number : ℕ) (xs : List End) (e : End) (n : ℕ) → ends_from number (xs ++ e ∷ []) n ≡ ends_from number xs n ++ (if e.node == n then (number + length xs) ∷ [] else [])
ends_more number [] e n = let z : number ≡ number + 0 = omega arith in ap (λ (m : ℕ). if e.node == n then m ∷ [] else []) z
ends_more number (x ∷ xs) e n =
    let rest = ends_more (number + 1) xs e n ∙ ap (λ (m : ℕ). ends_from (number + 1) xs n ++ (if e.node == n then m ∷ [] else []))
    (let z : number + 1 + length xs ≡ number + suc (length xs) = omega arith in z) in
    by (x.node == n) rest
  where
    by : (b : Bool) → ends_from (number + 1) (xs ++ e ∷ []) n ≡ ends_from (number + 1) xs n ++ (if e.node == n then (number + suc (length xs)) ∷ [] else [])
        → (if b then number ∷ ends_from (number + 1) (xs ++ e ∷ []) n else ends_from (number + 1) (xs ++ e ∷ []) n)
        ≡ (if b then number ∷ ends_from (number + 1) xs n else ends_from (number + 1) xs n) ++ (if e.node == n then (number + suc (length xs)) ∷ [] else [])
    by true r = ap (λ (ys : List ℕ). number ∷ ys) r
    by false r = r

length_one : (b : Bool) (n : ℕ) → length (if b then n ∷ [] else []) ≤ 1
length_one true n = omega arith
length_one false n = omega arith

few_more : (xs : List End) (e : End) → ((n : ℕ) → length (ends_of xs n) ≤ 16) → length (ends_of xs e.node) < 16 → (n : ℕ) → length (ends_of (xs ++ e ∷ []) n) ≤ 16
few_more xs e few lt n =
    either (e.node == n)
    (λ t.
    let same = same_number e.node n t in
    let less : length (ends_of xs n) < 16 = subst (λ m. length (ends_of xs m) < 16) same lt in
    let size = ap length (ends_more 0 xs e n) ∙ length-append (ends_of xs n) (if e.node == n then (0 + length xs) ∷ [] else []) in
    let one = length_one (e.node == n) (0 + length xs) in
    omega arith)
    (λ f.
    let size = ap length (ends_more 0 xs e n ∙ ap (λ (b : Bool). ends_of xs n ++ (if b then (0 + length xs) ∷ [] else [])) f) ∙ length-append (ends_of xs n) [] in
    let le = few n in
    omega arith)

owner_more : (xs : List End) (e : End) (s : Addr) (n : ℕ) → owner xs s ≡ Some n → owner (xs ++ e ∷ []) s ≡ Some n
owner_more [] e s n is = cc
owner_more (x ∷ xs) e s n is = by (x.iface.addr.0 == s.0) is (owner_more xs e s n)
  where
    by : (b : Bool) → (if b then Some x.node else owner xs s) ≡ Some n → (owner xs s ≡ Some n → owner (xs ++ e ∷ []) s ≡ Some n) → (if b then Some x.node else owner (xs ++ e ∷ []) s) ≡ Some n
    by true is rest = is
    by false is rest = rest is

-- an address that no end has
address_new : (xs : List End) (a : Addr) → owner xs a ≡ None → (x : End) → In x xs → x.iface.addr ≡ a → ⊥
address_new [] a e x i same = i
address_new (y ∷ ys) a e x i same = by (y.iface.addr.0 == a.0) refl e (address_new ys a)
  where
    by : (b : Bool) → (y.iface.addr.0 == a.0) ≡ b → (if b then Some y.node else owner ys a) ≡ None → (owner ys a ≡ None → (z : End) → In z ys → z.iface.addr ≡ a → ⊥) → ⊥
    by true t e rest = cc
    by false t e rest =
        ⊎_elim (λ (s : x ≡ y). true_false _ (number_same y.iface.addr.0 a.0 (ap (λ (z : End). z.iface.addr.0) (sym s) ∙ ap (λ (b : Addr). b.0) same)) t)
        (λ (j : In x ys). rest e x j same) i

module _ (net : Net) (valid : IsValid net) (e : End) (takes : TakesEnd net e) where
  address : (other : End) → In other net.ends → other.iface.addr ≡ e.iface.addr → ⊥
  address other i same = address_new net.ends e.iface.addr takes.address other i same

  same_end : (h : LinkHop) → is_linked net.links h ≡ true → Same net (with_end net e) h
  same_end h t =
      record {
        linked = t;
        from = ap node_of_end (got_left net.ends (e ∷ []) h.from (from_inside net valid h t));
        to = ap node_of_end (got_left net.ends (e ∷ []) h.to (to_inside net valid h t));
        link = refl;
      }

  one_more : (i j : ℕ) (d f : End) → slice_get (net.ends ++ e ∷ []) i ≡ Some d → slice_get (net.ends ++ e ∷ []) j ≡ Some f → d.iface.addr ≡ f.iface.addr → i ≡ j
  one_more i j d f p q same = by (got_append net.ends e i d p) (got_append net.ends e j f q)
    where
      by : (slice_get net.ends i ≡ Some d) ⊎ ((i ≡ length net.ends) × (d ≡ e)) → (slice_get net.ends j ≡ Some f) ⊎ ((j ≡ length net.ends) × (f ≡ e)) → i ≡ j
      by (inl a) (inl b) = valid.one_address i j d f a b same
      by (inl a) (inr b) = absurd (address d (got_in net.ends i d a) (same ∙ ap (λ (x : End). x.iface.addr) b.1))
      by (inr a) (inl b) = absurd (address f (got_in net.ends j f b) (sym same ∙ ap (λ (x : End). x.iface.addr) a.1))
      by (inr a) (inr b) = a.0 ∙ sym b.0

  pub valid_end : IsValid (with_end net e)
  valid_end =
      record {
        few_nodes = valid.few_nodes;
        few_ends = few_more net.ends e valid.few_ends takes.room;
        few_links = valid.few_links;
        few_hops = valid.few_hops;
        placed = λ x i. ⊎_elim (λ (j : In x net.ends). valid.placed x j) (λ (j : In x (e ∷ [])). ⊎_elim
            (λ (s : x ≡ e). let k = ap (λ (y : End). y.node) s in let n = takes.node in let lt : x.node < net.nodes = omega arith in lt) (λ (k : ⊥). absurd k) j) (in_append x net.ends (e ∷ []) i);
        one_address = one_more;
        linked = valid.linked;
        nodes_apart = λ l a b i j k same.
            valid.nodes_apart l a b i j k (sym (ap node_of_end (got_left net.ends (e ∷ []) a (valid.ends_of_links l a i j))) ∙ same
            ∙ ap node_of_end (got_left net.ends (e ∷ []) b (valid.ends_of_links l b i k)));
        ends_of_links = λ l x i j. let lt = valid.ends_of_links l x i j in let size = length-append net.ends (e ∷ []) in omega arith;
        rising = valid.rising;
        apart = valid.apart;
        one_link = valid.one_link;
        grown = λ g s. grown_over net (with_end net e) same_end s (tree net.hops g s) (owner_more net.ends e s) (valid.grown g s);
        loop_free = λ g. free_over net (with_end net e) same_end g refl (valid.grown g) (valid.loop_free g);
      }

-- ---- a link
-- an end that is in a link keeps it
link_kept : (links : List (List ℕ)) (l : List ℕ) (a b : ℕ) → In b (link_of links a) → link_of (links ++ l ∷ []) a ≡ link_of links a
link_kept [] l a b i = absurd i
link_kept (x ∷ xs) l a b i = by (among a x) i (link_kept xs l a b)
  where
    by : (t : Bool) → In b (if t then x else link_of xs a) → (In b (link_of xs a) → link_of (xs ++ l ∷ []) a ≡ link_of xs a)
        → (if t then x else link_of (xs ++ l ∷ []) a) ≡ (if t then x else link_of xs a)
    by true i rest = refl
    by false i rest = rest i

-- an end in no link is in the new one, or in none
link_new : (links : List (List ℕ)) (l : List ℕ) (a : ℕ) → link_of links a ≡ [] → ((x : List ℕ) → In x links → 2 ≤ length x) → link_of (links ++ l ∷ []) a ≡ (if among a l then l else [])
link_new [] l a e long = refl
link_new (x ∷ xs) l a e long = by (among a x) e (λ f. link_new xs l a f (λ y i. long y (inr i)))
  where
    by : (t : Bool) → (if t then x else link_of xs a) ≡ [] → (link_of xs a ≡ [] → link_of (xs ++ l ∷ []) a ≡ (if among a l then l else []))
        → (if t then x else link_of (xs ++ l ∷ []) a) ≡ (if among a l then l else [])
    by true e rest = absurd (let n = long x (inl refl) in let z : length x ≡ 0 = ap length e in omega arith)
    by false e rest = rest e

-- an end of a link that stands somewhere is in a link
linked_somewhere : (links : List (List ℕ)) (l : List ℕ) (e : ℕ) → In l links → In e l → link_of links e ≡ [] → ⊥
linked_somewhere [] l e i j none = i
linked_somewhere (x ∷ xs) l e i j none = by (among e x) refl none i (λ k. linked_somewhere xs l e k j)
  where
    by : (t : Bool) → among e x ≡ t → (if t then x else link_of xs e) ≡ [] → (l ≡ x) ⊎ In l xs → (In l xs → link_of xs e ≡ [] → ⊥) → ⊥
    by true t none i rest = subst (λ (m : List ℕ). In e m) none (among_in e x t)
    by false t none (inl s) rest = true_false _ (in_among e x (subst (λ (m : List ℕ). In e m) s j)) t
    by false t none (inr k) rest = rest k none

some_or_none : (l : List ℕ) → (l ≡ []) ⊎ ((x : ℕ) × In x l)
some_or_none [] = inl refl
some_or_none (x ∷ xs) = inr (x, inl refl)

module _ (net : Net) (valid : IsValid net) (es : List ℕ) (takes : TakesLink net es) where
  abbrev l : List ℕ
  l = rising es

  long : (x : List ℕ) → In x net.links → 2 ≤ length x
  long x i = (valid.linked x i).0

  free_of : (x : ℕ) → In x l → link_of net.links x ≡ []
  free_of x i = takes.free x (rising_has x es i)

  share_none : (i j : ℕ) (x y : List ℕ) (e : ℕ) → slice_get (net.links ++ l ∷ []) i ≡ Some x → slice_get (net.links ++ l ∷ []) j ≡ Some y → In e x → In e y → i ≡ j
  share_none i j x y e p q u v = by (got_append net.links l i x p) (got_append net.links l j y q)
    where
      new_only : (k : ℕ) (m o : List ℕ) → slice_get net.links k ≡ Some m → In e m → o ≡ l → In e o → ⊥
      new_only k m o g w s t = linked_somewhere net.links m e (got_in net.links k m g) w (free_of e (subst (λ (z : List ℕ). In e z) s t))

      by : (slice_get net.links i ≡ Some x) ⊎ ((i ≡ length net.links) × (x ≡ l)) → (slice_get net.links j ≡ Some y) ⊎ ((j ≡ length net.links) × (y ≡ l)) → i ≡ j
      by (inl c) (inl d) = valid.apart i j x y e c d u v
      by (inl c) (inr d) = absurd (new_only i x y c u d.1 v)
      by (inr c) (inl d) = absurd (new_only j y x d v c.1 u)
      by (inr c) (inr d) = c.0 ∙ sym d.0

  new_link : (x : ℕ) → In x l → link_of (net.links ++ l ∷ []) x ≡ l
  new_link x i = link_new net.links l x (free_of x i) long ∙ ap (λ (t : Bool). if t then l else []) (in_among x l i)

  same_link : (h : LinkHop) → is_linked net.links h ≡ true → Same net (with_link net es) h
  same_link h t =
      let i = to_there net valid h t in
      let e = link_kept net.links l h.from h.to i in
      record { linked = ap (λ (x : List ℕ). among h.to (filter (λ y. not (y == h.from)) x)) e ∙ t; from = refl; to = refl; link = e }

  one_link : (x y : ℕ) → among y (link_of (net.links ++ l ∷ []) x) ≡ true → link_of (net.links ++ l ∷ []) y ≡ link_of (net.links ++ l ∷ []) x
  one_link x y t = by (some_or_none (link_of net.links x))
    where
      of_new : (u : Bool) → among x l ≡ u → among y (if u then l else []) ≡ true → link_of (net.links ++ l ∷ []) y ≡ (if u then l else [])
      of_new true s t = new_link y (among_in y l t)
      of_new false s t = cc

      by : (link_of net.links x ≡ []) ⊎ ((z : ℕ) × In z (link_of net.links x)) → link_of (net.links ++ l ∷ []) y ≡ link_of (net.links ++ l ∷ []) x
      by (inl e) =
          let is = link_new net.links l x e long in
          of_new (among x l) refl (ap (among y) (sym is) ∙ t) ∙ sym is
      by (inr z) =
          let kept = link_kept net.links l x z.0 z.1 in
          let on : among y (link_of net.links x) ≡ true = ap (among y) (sym kept) ∙ t in
          let same = valid.one_link x y on in
          link_kept net.links l y z.0 (subst (λ (m : List ℕ). In z.0 m) (sym same) z.1) ∙ same ∙ sym kept

  pub valid_link : IsValid (with_link net es)
  valid_link =
      record {
        few_nodes = valid.few_nodes;
        few_ends = valid.few_ends;
        few_links = let size = length-append net.links (l ∷ []) in let room = takes.room in omega arith;
        few_hops = valid.few_hops;
        placed = valid.placed;
        one_address = valid.one_address;
        linked = λ x i. ⊎_elim (λ (j : In x net.links). valid.linked x j) (λ (j : In x (l ∷ [])). ⊎_elim
            (λ (e : x ≡ l). let n = ap length e ∙ rising_length es in let some = takes.some in let few = takes.few in (omega arith, omega arith)) (λ (k : ⊥). absurd k) j)
            (in_append x net.links (l ∷ []) i);
        nodes_apart = λ x c d i j k same.
            ⊎_elim (λ (o : In x net.links). valid.nodes_apart x c d o j k same)
            (λ (o : In x (l ∷ [])). ⊎_elim (λ (e : x ≡ l). one_of_value (node_of net.ends) es takes.apart c d (rising_has c es (subst (λ (m : List ℕ). In c m) e j))
            (rising_has d es (subst (λ (m : List ℕ). In d m) e k)) same) (λ (n : ⊥). absurd n) o) (in_append x net.links (l ∷ []) i);
        ends_of_links = λ x y i j. ⊎_elim (λ (k : In x net.links). valid.ends_of_links x y k j)
            (λ (k : In x (l ∷ [])). ⊎_elim (λ (e : x ≡ l). takes.there y (rising_has y es (subst (λ (m : List ℕ). In y m) e j))) (λ (o : ⊥). absurd o) k) (in_append x net.links (l ∷ []) i);
        rising = λ x i. ⊎_elim (λ (j : In x net.links). valid.rising x j) (λ (j : In x (l ∷ [])). ⊎_elim
            (λ (e : x ≡ l). subst AreRising (sym e) (rising_rises es (once_before (node_of net.ends) es takes.apart))) (λ (k : ⊥). absurd k) j) (in_append x net.links (l ∷ []) i);
        apart = share_none;
        one_link = one_link;
        grown = λ g s. grown_over net (with_link net es) same_link s (tree net.hops g s) (λ n e. e) (valid.grown g s);
        loop_free = λ g. free_over net (with_link net es) same_link g refl (valid.grown g) (valid.loop_free g);
      }

-- ---- a hop
pub grown_push : (net : Net) (s : Addr) (before hs : List LinkHop) (h : LinkHop) → IsGrownFrom net s before hs → Grows net s (before ++ hs) h → IsGrownFrom net s before (hs ++ h ∷ [])
grown_push net s before [] h grown grows = (subst (λ (xs : List LinkHop). Grows net s xs h) (append_none before) grows, tt)
  where
    append_none : (xs : List LinkHop) → xs ++ [] ≡ xs
    append_none [] = refl
    append_none (x ∷ xs) = ap (λ (ys : List LinkHop). x ∷ ys) (append_none xs)
grown_push net s before (x ∷ xs) h grown grows = (
  grown.0,
  grown_push net s (before ++ x ∷ []) xs h grown.1
      (subst (λ (ys : List LinkHop). Grows net s ys h) (sym (append_assoc before (x ∷ []) xs)) grows),
)

tree_push : (hops : List TreeHop) (r : TreeHop) (g s : Addr) → tree (hops ++ r ∷ []) g s ≡ tree hops g s ++ (if of_tree g s r then r.hop ∷ [] else [])
tree_push [] r g s = by (of_tree g s r)
  where
    by : (b : Bool) → each (λ (q : TreeHop). q.hop) (if b then r ∷ [] else []) ≡ (if b then r.hop ∷ [] else [])
    by true = refl
    by false = refl
tree_push (q ∷ qs) r g s = by (of_tree g s q) (tree_push qs r g s)
  where
    by : (b : Bool) → tree (qs ++ r ∷ []) g s ≡ tree qs g s ++ (if of_tree g s r then r.hop ∷ [] else [])
        → each (λ (q : TreeHop). q.hop) (if b then q ∷ filter (of_tree g s) (qs ++ r ∷ []) else filter (of_tree g s) (qs ++ r ∷ []))
        ≡ each (λ (q : TreeHop). q.hop) (if b then q ∷ filter (of_tree g s) qs else filter (of_tree g s) qs) ++ (if of_tree g s r then r.hop ∷ [] else [])
    by true e = ap (λ (ys : List LinkHop). q.hop ∷ ys) e
    by false e = e

module _ (net : Net) (valid : IsValid net) (r : TreeHop) (room : length net.hops < 8192) (fits : Fits net r) (free : IsLoopFreeIn (with_hop net r) r.group) where
  abbrev more : Net
  more = with_hop net r

  same_hop_of : (h : LinkHop) → is_linked net.links h ≡ true → Same net more h
  same_hop_of h t = record { linked = t; from = refl; to = refl; link = refl }

  grows_more : (s : Addr) (hs : List LinkHop) (h : LinkHop) → Grows net s hs h → Grows more s hs h
  grows_more s hs h g = record { linked = g.linked; from_reached = g.from_reached; to_new = g.to_new; alone = g.alone }

  grown_more : (g s : Addr) → IsGrown more s (tree more.hops g s)
  grown_more g s =
      let old = grown_over net more same_hop_of s (tree net.hops g s) (λ n e. e) (valid.grown g s) in
      subst (λ (hs : List LinkHop). IsGrown more s hs) (sym (tree_push net.hops r g s)) (by (of_tree g s r) refl old)
    where
      none : (xs : List LinkHop) → xs ++ [] ≡ xs
      none [] = refl
      none (x ∷ xs) = ap (λ (ys : List LinkHop). x ∷ ys) (none xs)

      by : (b : Bool) → of_tree g s r ≡ b → IsGrown more s (tree net.hops g s) → IsGrown more s (tree net.hops g s ++ (if b then r.hop ∷ [] else []))
      by true t old =
          let both = and_both (of_group g r) (r.source.0 == s.0) t in
          let group = addr_same r.group g both.0 in
          let source = addr_same r.source s both.1 in
          let here : Grows net s (tree net.hops g s) r.hop = subst (λ (a : Addr). Grows net a (tree net.hops g a) r.hop) source
          (subst (λ (a : Addr). Grows net r.source (tree net.hops a r.source) r.hop) group fits) in
          grown_push more s [] (tree net.hops g s) r.hop old (grows_more s (tree net.hops g s) r.hop here)
      by false t old = subst (λ (hs : List LinkHop). IsGrown more s hs) (sym (none (tree net.hops g s))) old

  old_hop : (g : Addr) → (r.group ≡ g → ⊥) → (q : TreeHop) → In q more.hops → q.group ≡ g → In q net.hops
  old_hop g ne q i e =
      ⊎_elim (λ (j : In q net.hops). j) (λ (j : In q (r ∷ [])). ⊎_elim (λ (is : q ≡ r). absurd (ne (ap (λ (x : TreeHop). x.group) (sym is) ∙ e))) (λ (k : ⊥). absurd k) j)
      (in_append q net.hops (r ∷ []) i)

  old_group : (g : Addr) → (r.group ≡ g → ⊥) → (x : LinkHop) → In x (hops_of more.hops g) → In x (hops_of net.hops g)
  old_group g ne x i =
      let q = in_group more.hops g x i in
      let j = old_hop g ne q.0 q.1 q.2 in
      subst (λ (a : Addr). In x (hops_of net.hops a)) q.2 (subst (λ (y : LinkHop). In y (hops_of net.hops q.0.group)) q.3 (to_group net.hops q.0 j))

  old_tree : (g s : Addr) → (r.group ≡ g → ⊥) → (x : LinkHop) → In x (tree more.hops g s) → In x (tree net.hops g s)
  old_tree g s ne x i =
      let q = in_tree more.hops g s x i in
      let j = old_hop g ne q.0 q.1 q.2 in
      subst (λ (a : Addr). In x (tree net.hops a s)) q.2 (subst (λ (a : Addr). In x (tree net.hops q.0.group a)) q.3
      (subst (λ (y : LinkHop). In y (tree net.hops q.0.group q.0.source)) q.4 (to_tree net.hops q.0 j)))

  free_other : (g : Addr) → (r.group ≡ g → ⊥) → IsLoopFreeIn more g
  free_other g ne =
      free_map (followers more g) (followers net g) (hops_of more.hops g) (hops_of net.hops g) (old_group g ne)
      (λ x y i j. let f = follower_follows more g x y j in
      follows_follower net g x y (record { source = f.source; first = old_tree g f.source ne x f.first; second = old_tree g f.source ne y f.second; meet = f.meet })) (valid.loop_free g)

  free_more : IsLoopFree more
  free_more g =
      either (r.group.0 == g.0) (λ t. subst (λ (a : Addr). IsLoopFreeIn more a) (addr_same r.group g t) free)
      (λ f. free_other g (λ e. true_false _ (number_same r.group.0 g.0 (ap (λ (a : Addr). a.0) e)) f))

  pub valid_hop : IsValid more
  valid_hop =
      record {
        few_nodes = valid.few_nodes;
        few_ends = valid.few_ends;
        few_links = valid.few_links;
        few_hops = let size = length-append net.hops (r ∷ []) in omega arith;
        placed = valid.placed;
        one_address = valid.one_address;
        linked = valid.linked;
        nodes_apart = valid.nodes_apart;
        ends_of_links = valid.ends_of_links;
        rising = valid.rising;
        apart = valid.apart;
        one_link = valid.one_link;
        grown = grown_more;
        loop_free = free_more;
      }

-- ---- what is kept of hops
before_more : (ends : List End) (r : TreeHop) (ks : List Known) (new : Known) → comes_to ends r new ≡ false → vertex_before ends r (ks ++ new ∷ []) ≡ vertex_before ends r ks
before_more ends r [] new f = ap (λ (b : Bool). if b then Some new.vertex else None) f
before_more ends r (k ∷ ks) new f = ap (λ (o : Option ℕ). if comes_to ends r k then Some k.vertex else o) (before_more ends r ks new f)

before_kept : (ends : List End) (r : TreeHop) (ks : List Known) (new : Known) (x : Known) → In x ks → comes_to ends r x ≡ true → vertex_before ends r (ks ++ new ∷ []) ≡ vertex_before ends r ks
before_kept ends r [] new x i t = absurd i
before_kept ends r (k ∷ ks) new x i t = by (comes_to ends r k) refl (λ j. before_kept ends r ks new x j t)
  where
    by : (b : Bool) → comes_to ends r k ≡ b → (In x ks → vertex_before ends r (ks ++ new ∷ []) ≡ vertex_before ends r ks)
        → (if b then Some k.vertex else vertex_before ends r (ks ++ new ∷ [])) ≡ (if b then Some k.vertex else vertex_before ends r ks)
    by true e rest = refl
    by false e rest = rest (⊎_elim (λ (f : x ≡ k). absurd (true_false _ t (ap (comes_to ends r) f ∙ e))) (λ (j : In x ks). j) i)

module _ (nodes : ℕ) (ends : List End) (links : List Link) (ks : List Known) (valid : IsValid (net_of nodes ends links ks)) (known : AreKnown ends ks)
    (new : Known) (vertex : new.vertex ≡ vertex_at ks new.hop.group new.hop.hop) (before : new.before ≡ vertex_before ends new.hop ks) (fits : Fits (net_of nodes ends links ks) new.hop) where
  abbrev s : Addr
  s = new.hop.source

  abbrev grown_tree : List LinkHop
  grown_tree = tree (plain ks) new.hop.group s

  unreached : Leads ends s grown_tree (node_of ends new.hop.hop.to) → ⊥
  unreached l = true_false _ (reached_tested ends s grown_tree (node_of ends new.hop.hop.to) l) fits.to_new

  -- the new hop does not go into a node out of which a hop of its tree goes
  not_back : (k : Known) → In k ks → comes_to ends k.hop new ≡ false
  not_back k i = either (comes_to ends k.hop new) (λ t. absurd (by t)) (λ f. f)
    where
      by : comes_to ends k.hop new ≡ true → ⊥
      by t =
          let c = comes_told ends k.hop new t in
          let mine : In k.hop.hop grown_tree = subst (λ (a : Addr). In k.hop.hop (tree (plain ks) new.hop.group a)) (sym c.1)
          (subst (λ (a : Addr). In k.hop.hop (tree (plain ks) a k.hop.source)) (sym c.0) (known_tree ks k i)) in
          unreached (subst (λ (n : ℕ). Leads ends s grown_tree n) (sym c.2) (from_leads (net_of nodes ends links ks) s [] grown_tree (valid.grown new.hop.group s) k.hop.hop mine))

  not_itself : comes_to ends new.hop new ≡ false
  not_itself = either (comes_to ends new.hop new) (λ t. absurd (by t)) (λ f. f)
    where
      by : comes_to ends new.hop new ≡ true → ⊥
      by t =
          let c = comes_told ends new.hop new t in
          unreached (subst (λ (n : ℕ). Leads ends s grown_tree n) (sym c.2) (reached_told ends s grown_tree (node_of ends new.hop.hop.from) fits.from_reached))

  pub known_more : AreKnown ends (ks ++ new ∷ [])
  known_more k i =
      ⊎_elim
      (λ (j : In k ks).
      record {
        vertex = (known k j).vertex ∙ sym (place_kept (is_pair k.hop.group k.hop.hop) ks (new ∷ []) k j (pair_itself k));
        before = (known k j).before ∙ sym (before_more ends k.hop ks new (not_back k j));
      })
      (λ (j : In k (new ∷ [])). ⊎_elim (λ (e : k ≡ new). subst (λ (x : Known). IsKnown ends (ks ++ new ∷ []) x) (sym e) new_known) (λ (o : ⊥). absurd o) j)
      (in_append k ks (new ∷ []) i)
    where
      new_known : IsKnown ends (ks ++ new ∷ []) new
      new_known =
          record {
            vertex = vertex ∙ sym (place_new (is_pair new.hop.group new.hop.hop) ks new (pair_itself new));
            before = before ∙ sym (before_more ends new.hop ks new not_itself);
          }

-- what is kept with one more hop
pub net_push : (nodes : ℕ) (ends : List End) (links : List Link) (ks : List Known) (new : Known) → net_of nodes ends links (ks ++ new ∷ []) ≡ with_hop (net_of nodes ends links ks) new.hop
net_push nodes ends links ks new = λ i. record { nodes = nodes; ends = ends; links = each link_ends links; hops = map-append (λ (k : Known). k.hop) ks (new ∷ []) i }

pub link_push : (nodes : ℕ) (ends : List End) (links : List Link) (ks : List Known) (l : Link) (es : List ℕ) → link_ends l ≡ rising es
    → net_of nodes ends (links ++ l ∷ []) ks ≡ with_link (net_of nodes ends links ks) es
link_push nodes ends links ks l es e =
    let is : each link_ends (links ++ l ∷ []) ≡ each link_ends links ++ rising es ∷ [] = map-append link_ends links (l ∷ []) ∙ ap (λ (x : List ℕ). each link_ends links ++ x ∷ []) e in
    λ i. record { nodes = nodes; ends = ends; links = is i; hops = plain ks }

-- ---- how many ends there can be
count : ℕ → List End → ℕ
count n [] = 0
count n (x ∷ xs) = if x.node == n then suc (count n xs) else count n xs

but : ℕ → List End → List End
but n [] = []
but n (x ∷ xs) = if x.node == n then but n xs else x ∷ but n xs

counted : (number : ℕ) (xs : List End) (n : ℕ) → length (ends_from number xs n) ≡ count n xs
unfolding count
counted number [] n = refl
counted number (x ∷ xs) n = by (x.node == n) (counted (number + 1) xs n)
  where
    by : (b : Bool) → length (ends_from (number + 1) xs n) ≡ count n xs → length (if b then number ∷ ends_from (number + 1) xs n else ends_from (number + 1) xs n)
        ≡ (if b then suc (count n xs) else count n xs)
    by true e = ap suc e
    by false e = e

parted : (n : ℕ) (xs : List End) → length xs ≡ count n xs + length (but n xs)
unfolding count but
parted n [] = refl
parted n (x ∷ xs) = by (x.node == n) (parted n xs)
  where
    by : (b : Bool) → length xs ≡ count n xs + length (but n xs) → suc (length xs) ≡ (if b then suc (count n xs) else count n xs) + length (if b then but n xs else x ∷ but n xs)
    by true e = omega arith
    by false e = omega arith

fewer : (n m : ℕ) (xs : List End) → count m (but n xs) ≤ count m xs
unfolding count but
fewer n m [] = omega arith
fewer n m (x ∷ xs) = by (x.node == n) (fewer n m xs)
  where
    at : (b : Bool) (k l : ℕ) → k ≤ l → (if b then suc k else k) ≤ (if b then suc l else l)
    at true k l le = omega arith
    at false k l le = le

    up : (b : Bool) (k l : ℕ) → k ≤ l → k ≤ (if b then suc l else l)
    up true k l le = omega arith
    up false k l le = le

    by : (b : Bool) → count m (but n xs) ≤ count m xs → count m (if b then but n xs else x ∷ but n xs) ≤ (if x.node == m then suc (count m xs) else count m xs)
    by true le = up (x.node == m) (count m (but n xs)) (count m xs) le
    by false le = at (x.node == m) (count m (but n xs)) (count m xs) le

left_of : (n : ℕ) (xs : List End) (x : End) → In x (but n xs) → In x xs × (x.node ≡ n → ⊥)
unfolding but
left_of n [] x i = absurd i
left_of n (y ∷ ys) x i = by (y.node == n) refl i (left_of n ys x)
  where
    by : (b : Bool) → (y.node == n) ≡ b → In x (if b then but n ys else y ∷ but n ys) → (In x (but n ys) → In x ys × (x.node ≡ n → ⊥)) → In x (y ∷ ys) × (x.node ≡ n → ⊥)
    by true t i rest = let r = rest i in (inr r.0, r.1)
    by false t i rest =
        ⊎_elim (λ (e : x ≡ y). (inl e, λ (is : x.node ≡ n). true_false _ (number_same y.node n (ap (λ (z : End). z.node) (sym e) ∙ is)) t))
        (λ (j : In x (but n ys)). let r = rest j in (inr r.0, r.1)) i

few_by : (k : ℕ) (xs : List End) → ((x : End) → In x xs → x.node < k) → ((n : ℕ) → count n xs ≤ 16) → length xs ≤ 16 * k
few_by zero [] below few = omega arith
few_by zero (x ∷ xs) below few = let lt = below x (inl refl) in absurd (omega arith)
few_by (suc k) xs below few =
    let rest = few_by k (but k xs) (λ x i. let l = left_of k xs x i in let lt = below x l.0 in let ne = l.1 in less x.node lt ne) (λ n. let a = few n in let b = fewer k n xs in omega arith) in
    let whole = parted k xs in
    let own = few k in
    omega arith
  where
    less : (n : ℕ) → n < suc k → (n ≡ k → ⊥) → n < k
    less n lt ne = ⊎_elim (λ (e : n ≡ k). absurd (ne e)) (λ (l : n < k). l) (grind arith)

pub few_ends_in_all : (net : Net) → IsValid net → length net.ends ≤ 4096
few_ends_in_all net valid =
    let all = few_by net.nodes net.ends valid.placed (λ n. let c = counted 0 net.ends n in let f = valid.few_ends n in omega arith) in
    let nodes = valid.few_nodes in
    omega arith

-- ---- a new end says nothing of the hops that are kept
same_and : (a b c : Bool) → b ≡ c → (a && b) ≡ (a && c)
same_and a b c e = ap (λ (x : Bool). a && x) e

pub vertex_before_same : (ends next : List End) (r : TreeHop) (ks : List Known) → ((k : Known) → In k ks → comes_to next r k ≡ comes_to ends r k) → vertex_before next r ks ≡ vertex_before ends r ks
vertex_before_same ends next r [] same = refl
vertex_before_same ends next r (k ∷ ks) same =
    ap (λ (b : Bool). if b then Some k.vertex else vertex_before next r ks) (same k (inl refl))
    ∙ ap (λ (o : Option ℕ). if comes_to ends r k then Some k.vertex else o) (vertex_before_same ends next r ks (λ x i. same x (inr i)))

pub known_end : (nodes : ℕ) (ends : List End) (links : List Link) (ks : List Known) (e : End) → IsValid (net_of nodes ends links ks) → AreKnown ends ks → AreKnown (ends ++ e ∷ []) ks
known_end nodes ends links ks e valid known k i =
    record { vertex = (known k i).vertex; before = (known k i).before ∙ sym (vertex_before_same ends (ends ++ e ∷ []) k.hop ks same) }
  where
    linked : (x : Known) → In x ks → is_linked (each link_ends links) x.hop.hop ≡ true
    linked x j = linked_from (net_of nodes ends links ks) x.hop.source [] (tree (plain ks) x.hop.group x.hop.source) (valid.grown x.hop.group x.hop.source) x.hop.hop (known_tree ks x j)

    same : (x : Known) → In x ks → comes_to (ends ++ e ∷ []) k.hop x ≡ comes_to ends k.hop x
    same x j =
        let to : node_of (ends ++ e ∷ []) x.hop.hop.to ≡ node_of ends x.hop.hop.to = ap node_of_end
        (got_left ends (e ∷ []) x.hop.hop.to (to_inside (net_of nodes ends links ks) valid x.hop.hop (linked x j))) in
        let from : node_of (ends ++ e ∷ []) k.hop.hop.from ≡ node_of ends k.hop.hop.from =
        ap node_of_end (got_left ends (e ∷ []) k.hop.hop.from (from_inside (net_of nodes ends links ks) valid k.hop.hop (linked k i))) in
        same_and (of_tree k.hop.group k.hop.source x.hop) _ _ (ap (λ (m : ℕ). node_of (ends ++ e ∷ []) x.hop.hop.to == m) from ∙ ap (λ (m : ℕ). m == node_of ends k.hop.hop.from) to)

-- ---- the answer for a hop
pub hop_answer : (net : Net) (nodes : ℕ) (ends ends' : List End) (links : List Link) (ks ks' ks'' : List Known) (r : TreeHop) (new : Known) (res : Result (Unit {0}) HopErr)
    → net ≡ net_of nodes ends links ks → ends' ≡ ends → ks' ≡ ks → ks'' ≡ ks
    → new.hop ≡ r → new.vertex ≡ vertex_at ks' r.group r.hop → new.before ≡ vertex_before ends' r ks' → IsValid (net_of nodes ends links ks) → AreKnown ends ks → Fits net r → LoopAnswer ks'' new res
    → HopAnswer net r res
hop_answer net nodes ends ends' links ks ks' ks'' r new res is e k l h v b valid known fits a =
    let vertex = v ∙ ap (λ (x : List Known). vertex_at x r.group r.hop) k ∙ ap (λ (q : TreeHop). vertex_at ks q.group q.hop) (sym h) in
    let before = b ∙ ap (λ (x : List End). vertex_before x r ks') e ∙ ap (λ (x : List Known). vertex_before ends r x) k ∙ ap (λ (q : TreeHop). vertex_before ends q ks) (sym h) in
    let fits2 : Fits (net_of nodes ends links ks) new.hop = subst (λ (q : TreeHop). Fits (net_of nodes ends links ks) q) (sym h) (subst (λ (m : Net). Fits m r) is fits) in
    let answer = kept_answer nodes ends links ks new res valid known vertex before fits2 (subst (λ (x : List Known). LoopAnswer x new res) l a) in
    subst (λ (m : Net). HopAnswer m r res) (sym is) (subst (λ (q : TreeHop). HopAnswer (net_of nodes ends links ks) q res) h answer)

pub hop_kept : (net : Net) (nodes : ℕ) (ends ends' : List End) (links : List Link) (ks ks' : List Known) (r : TreeHop) (new : Known) → net ≡ net_of nodes ends links ks → ends' ≡ ends → ks' ≡ ks
    → new.hop ≡ r → new.vertex ≡ vertex_at ks' r.group r.hop → new.before ≡ vertex_before ends' r ks' → IsValid (net_of nodes ends links ks) → AreKnown ends ks → length net.hops < 8192
    → HopAnswer net r (Ok tt)
    → IsValid (net_of nodes ends links (ks ++ new ∷ [])) × AreKnown ends (ks ++ new ∷ [])
hop_kept net nodes ends ends' links ks ks' r new is e k h v b valid known room a =
    let vertex = v ∙ ap (λ (x : List Known). vertex_at x r.group r.hop) k ∙ ap (λ (q : TreeHop). vertex_at ks q.group q.hop) (sym h) in
    let before = b ∙ ap (λ (x : List End). vertex_before x r ks') e ∙ ap (λ (x : List Known). vertex_before ends r x) k ∙ ap (λ (q : TreeHop). vertex_before ends q ks) (sym h) in
    let here : HopAnswer (net_of nodes ends links ks) new.hop (Ok tt) = subst (λ (q : TreeHop). HopAnswer (net_of nodes ends links ks) q (Ok tt)) (sym h)
    (subst (λ (m : Net). HopAnswer m r (Ok tt)) is a) in
    let few : length (plain ks) < 8192 = subst (λ (m : Net). length m.hops < 8192) is room in (
      subst (λ (m : Net). IsValid m) (sym (net_push nodes ends links ks new)) (valid_hop (net_of nodes ends links ks) valid new.hop few here.0 here.1),
      known_more nodes ends links ks valid known new vertex before here.0,
    )

pub below_all : (ends : List End) (ks ks' : List Known) → AreKnown ends ks → ks' ≡ ks → (k : Known) → In k ks' → k.vertex < length ks'
below_all ends ks ks' known e k i = let lt = vertex_below ends ks known k (subst (λ (x : List Known). In k x) e i) in let size = ap length e in omega arith

pub vertex_most : (ks ks' ks'' : List Known) (n : ℕ) (g : Addr) (h : LinkHop) → n ≡ vertex_at ks' g h → ks' ≡ ks → ks'' ≡ ks → n ≤ length ks''
vertex_most ks ks' ks'' n g h is e f =
    let le = place_most (is_pair g h) ks in
    let at : n ≡ vertex_at ks g h = is ∙ ap (λ (x : List Known). vertex_at x g h) e in
    let size = ap length f in
    omega arith
