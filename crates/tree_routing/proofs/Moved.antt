-- The hops of all trees in order, and the trees that have a hop, with a tree in the place of another.
use Rattle.std.specs.Prelude.{◌≡◌, ◌⊎◌, Bool, true, false, not, cond, List, [], ◌∷◌, ◌++◌, map as each, is_some, refl}
use Rattle.std.specs.List.{filter}
use Rattle.std.specs.FinMap.Entries.{is_sorted, below_all}
use Rattle.std.specs.Ordering.{is_eq, is_le, is_lt, ordering_reverse, ordering_then}
use Rattle.std.specs.declared.cmp.Ordering.{Ordering}
use Rattle.std.specs.declared.cmp.Ordering.TheVariants.{Less, Equal, Greater}
use Rattle.std.proofs.Common.{T, sym, ap, subst, ◌∙◌, inl, inr, ⊎_elim}
use Rattle.rsvp_base.specs.Keys.{numbers, pairs}
use Rattle.rsvp_base.specs.Members.{In}
use Rattle.rsvp_base.specs.Sets.{Set, set_of}
use Rattle.rsvp_base.specs.Table.{passes, both, first, second}
use Rattle.rsvp_base.specs.declared.addr.Addr.{Addr}
use Rattle.rsvp_base.proofs.Counts.{in_found, found_in, in_set_of, set_of_in}
use Rattle.rsvp_base.proofs.Members.{in_left, in_right, in_append, in_each, to_each, in_filter, to_filter}
use Rattle.rsvp_base.proofs.SetLaws.{same_set}
use Rattle.tree_model.specs.declared.hops.LinkHop.{LinkHop}
use Rattle.tree_model.specs.declared.hops.TreeHop.{TreeHop}
use Rattle.tree_model.specs.Trees.{key_of, of_tree, tree_keys}
use Rattle.tree_model.proofs.TreeLaws.{true_false}
use Rattle.tree_routing.specs.Reroutes.{moved, tree_hop}
use Rattle.tree_routing.specs.Routes.{against_tree, hop_keys, hop_row, AreInOrder}
use Rattle.tree_routing.proofs.HopLaws.{alike, some_nothing, order_up, from_order, to_order}
use Rattle.tree_routing.proofs.Together.{tied_is_of_tree}

-- ---- answers of an order
less : (o : Ordering) → is_lt o ≡ true → o ≡ Less
less Less e = refl
less Equal e = cc
less Greater e = cc

greater : (o : Ordering) → not (is_le o) ≡ true → o ≡ Greater
greater Less e = cc
greater Equal e = cc
greater Greater e = refl

is_less : (o : Ordering) → T (is_lt o) → o ≡ Less
is_less Less t = refl
is_less Equal t = absurd t
is_less Greater t = absurd t

one_of : (o : Ordering) → (is_lt o ≡ true) ⊎ ((is_eq o ≡ true) ⊎ (not (is_le o) ≡ true))
one_of Less = inl refl
one_of Equal = inr (inl refl)
one_of Greater = inr (inr refl)

-- ---- lists in order
abbrev Up : List TreeHop → Type 0
Up xs = T (is_sorted hop_keys.cmp (each hop_row xs))

abbrev Above : TreeHop → List TreeHop → Type 0
Above x xs = T (below_all hop_keys.cmp x (each hop_row xs))

above_all : (x : TreeHop) (xs : List TreeHop) → ((y : TreeHop) → In y xs → hop_keys.cmp x y ≡ Less) → Above x xs
above_all x [] all = tt
above_all x (y ∷ ys) all = both _ _ (subst (λ (o : Ordering). T (is_lt o)) (sym (all y (inl refl))) tt) (above_all x ys (λ z i. all z (inr i)))

above_each : (x : TreeHop) (xs : List TreeHop) → Above x xs → (y : TreeHop) → In y xs → hop_keys.cmp x y ≡ Less
above_each x [] h y i = absurd i
above_each x (z ∷ zs) h y i =
    ⊎_elim (λ (e : y ≡ z). ap (hop_keys.cmp x) e ∙ is_less _ (first (is_lt (hop_keys.cmp x z)) (below_all hop_keys.cmp x (each hop_row zs)) h))
    (λ (j : In y zs). above_each x zs (second (is_lt (hop_keys.cmp x z)) (below_all hop_keys.cmp x (each hop_row zs)) h) y j) i

up_filter : (p : TreeHop → Bool) (xs : List TreeHop) → Up xs → Up (filter p xs)
up_filter p [] up = tt
up_filter p (x ∷ xs) up = by (p x) (up_filter p xs (second (below_all hop_keys.cmp x (each hop_row xs)) _ up))
  where
    by : (b : Bool) → Up (filter p xs) → Up (cond b (x ∷ filter p xs) (filter p xs))
    by true rest =
        both (below_all hop_keys.cmp x (each hop_row (filter p xs))) (is_sorted hop_keys.cmp (each hop_row (filter p xs)))
        (above_all x (filter p xs) (λ y i. above_each x xs (first (below_all hop_keys.cmp x (each hop_row xs)) (is_sorted hop_keys.cmp (each hop_row xs)) up) y (in_filter p y xs i).0)) rest
    by false rest = rest

up_append : (xs ys : List TreeHop) → Up xs → Up ys → ((x y : TreeHop) → In x xs → In y ys → hop_keys.cmp x y ≡ Less) → Up (xs ++ ys)
up_append [] ys a b le = b
up_append (x ∷ xs) ys a b le =
    both (below_all hop_keys.cmp x (each hop_row (xs ++ ys))) (is_sorted hop_keys.cmp (each hop_row (xs ++ ys)))
    (above_all x (xs ++ ys) (λ y i.
    ⊎_elim (λ (j : In y xs). above_each x xs (first (below_all hop_keys.cmp x (each hop_row xs)) (is_sorted hop_keys.cmp (each hop_row xs)) a) y j)
    (λ (j : In y ys). le x y (inl refl) j) (in_append y xs ys i)))
    (up_append xs ys (second (below_all hop_keys.cmp x (each hop_row xs)) (is_sorted hop_keys.cmp (each hop_row xs)) a) b (λ z y i j. le z y (inr i) j))

below_by_tree : (a b : TreeHop) → tree_keys.cmp (key_of a) (key_of b) ≡ Less → hop_keys.cmp a b ≡ Less
below_by_tree a b e = ap (λ (w : Ordering). ordering_then w ((pairs numbers numbers).cmp (a.hop.from, a.hop.to) (b.hop.from, b.hop.to))) e

-- ---- the hops of a tree between those of other trees
module _ (g s : Addr) where
  abbrev before : TreeHop → Bool
  before r = is_lt (against_tree g s r)

  abbrev behind : TreeHop → Bool
  behind r = not (is_le (against_tree g s r))

  -- a hop behind those of the tree
  later : (c : TreeHop) → behind c ≡ true → tree_keys.cmp (g, s) (key_of c) ≡ Less
  later c t = tree_keys.total.antisymm (g, s) (key_of c) ∙ ap ordering_reverse (greater (against_tree g s c) t)

  before_mine : (a b : TreeHop) → before a ≡ true → key_of b ≡ (g, s) → hop_keys.cmp a b ≡ Less
  before_mine a b t e = below_by_tree a b (ap (tree_keys.cmp (key_of a)) e ∙ less (against_tree g s a) t)

  mine_behind : (b c : TreeHop) → key_of b ≡ (g, s) → behind c ≡ true → hop_keys.cmp b c ≡ Less
  mine_behind b c e t = below_by_tree b c (ap (λ (k : Addr × Addr). tree_keys.cmp k (key_of c)) e ∙ later c t)

  before_behind : (a c : TreeHop) → before a ≡ true → behind c ≡ true → hop_keys.cmp a c ≡ Less
  before_behind a c t u = below_by_tree a c (tree_keys.total.trans (key_of a) (g, s) (key_of c) (less (against_tree g s a) t) (later c u))

  not_tied : (r : TreeHop) → (is_eq (against_tree g s r) ≡ false) → not (of_tree g s r) ≡ true
  not_tied r e = ap not (sym (tied_is_of_tree g s r) ∙ e)

  before_other : (r : TreeHop) → before r ≡ true → not (of_tree g s r) ≡ true
  before_other r t = not_tied r (ap is_eq (less (against_tree g s r) t))

  behind_other : (r : TreeHop) → behind r ≡ true → not (of_tree g s r) ≡ true
  behind_other r t = not_tied r (ap is_eq (greater (against_tree g s r) t))

  module _ (hs : List LinkHop) (hops sorted mine : List TreeHop) (order : AreInOrder hops sorted) (own : AreInOrder (each (tree_hop g s) hs) mine) where
    abbrev front : List TreeHop
    front = filter before sorted

    abbrev back : List TreeHop
    back = filter behind sorted

    abbrev all : List TreeHop
    all = (front ++ mine) ++ back

    abbrev then : List TreeHop
    then = moved g s hs hops

    of_mine : (b : TreeHop) → In b mine → In b (each (tree_hop g s) hs) × (key_of b ≡ (g, s))
    of_mine b i =
        let j = from_order (each (tree_hop g s) hs) mine own b i in
        let h = in_each (tree_hop g s) b hs j in
        (j, ap key_of h.2)

    of_front : (a : TreeHop) → In a front → In a sorted × (before a ≡ true)
    of_front a i = in_filter before a sorted i

    of_back : (a : TreeHop) → In a back → In a sorted × (behind a ≡ true)
    of_back a i = in_filter behind a sorted i

    up : Up all
    up =
        let s_up : Up sorted = passes _ (order_up hops sorted order) in
        let m_up : Up mine = passes _ (order_up (each (tree_hop g s) hs) mine own) in
        up_append (front ++ mine) back
        (up_append front mine (up_filter before sorted s_up) m_up (λ a b i j. before_mine a b (of_front a i).1 (of_mine b j).1)) (up_filter behind sorted s_up)
        (λ a c i j.
        ⊎_elim (λ (k : In a front). before_behind a c (of_front a k).1 (of_back c j).1) (λ (k : In a mine). mine_behind a c (of_mine a k).1 (of_back c j).1)
        (in_append a front mine i))

    old_then : (q : TreeHop) → In q sorted → not (of_tree g s q) ≡ true → In q then
    old_then q i t =
        in_left q (filter (λ r. not (of_tree g s r)) hops) (each (tree_hop g s) hs) (to_filter (λ (r : TreeHop). not (of_tree g s r)) q hops (from_order hops sorted order q i) t)

    told : (q : TreeHop) → In q all → In q then
    told q i =
        ⊎_elim (λ (j : In q (front ++ mine)).
        ⊎_elim (λ (k : In q front). let f = of_front q k in old_then q f.0 (before_other q f.1))
        (λ (k : In q mine). in_right q (filter (λ r. not (of_tree g s r)) hops) (each (tree_hop g s) hs) (of_mine q k).0) (in_append q front mine j))
        (λ (j : In q back). let f = of_back q j in old_then q f.0 (behind_other q f.1)) (in_append q (front ++ mine) back i)

    put_back : (q : TreeHop) → In q sorted → not (of_tree g s q) ≡ true → In q all
    put_back q i t =
        ⊎_elim (λ (e : is_lt (against_tree g s q) ≡ true). in_left q (front ++ mine) back (in_left q front mine (to_filter before q sorted i e)))
        (λ (o : (is_eq (against_tree g s q) ≡ true) ⊎ (not (is_le (against_tree g s q)) ≡ true)).
        ⊎_elim (λ (e : is_eq (against_tree g s q) ≡ true). absurd (true_false _ t (ap not (sym (tied_is_of_tree g s q) ∙ e))))
        (λ (e : not (is_le (against_tree g s q)) ≡ true). in_right q (front ++ mine) back (to_filter behind q sorted i e)) o)
        (one_of (against_tree g s q))

    made : (q : TreeHop) → In q then → In q all
    made q i =
        ⊎_elim (λ (j : In q (filter (λ r. not (of_tree g s r)) hops)).
        let f = in_filter (λ (r : TreeHop). not (of_tree g s r)) q hops j in put_back q (to_order hops sorted order q f.0) f.1)
        (λ (j : In q (each (tree_hop g s) hs)). in_left q (front ++ mine) back (in_right q front mine (to_order (each (tree_hop g s) hs) mine own q j)))
        (in_append q (filter (λ r. not (of_tree g s r)) hops) (each (tree_hop g s) hs) i)

    pub moved_order : AreInOrder then all
    moved_order =
        let table : Set hop_keys = record { rows = each hop_row all; sorted = up } in
        ap (λ (m : Set hop_keys). m.rows) (same_set hop_keys table (set_of {o = hop_keys} then) (λ q.
        alike _ _
        (λ e.
        let x = in_each hop_row (hop_row q) all (found_in hop_keys table q tt (some_nothing _ e)) in
        in_set_of hop_keys then q (told q (subst (λ (y : TreeHop). In y all) (sym (ap (λ (r : TreeHop × Unit {0}). r.0) x.2)) x.1)))
        (λ e. ap is_some (in_found hop_keys table q tt (to_each hop_row q all (made q (set_of_in hop_keys then q e)))))))

  -- of lists that are these
  pub moved_order_of : (hs : List LinkHop) (hops sorted mine whole : List TreeHop) → AreInOrder hops sorted → AreInOrder (each (tree_hop g s) hs) mine
      → whole ≡ (filter before sorted ++ mine) ++ filter behind sorted → AreInOrder (moved g s hs hops) whole
  moved_order_of hs hops sorted mine whole order own is = subst (AreInOrder (moved g s hs hops)) (sym is) (moved_order hs hops sorted mine order own)
