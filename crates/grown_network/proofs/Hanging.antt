-- Each node can be hung on the one above it.
use Rattle.std.proofs.Common.{◌≡◌, ℕ, ◌+◌, ◌*◌, ◌-◌, ◌<◌, ◌≤◌, zero, suc, Bool, true, false, List, [], ◌∷◌, ◌++◌, length, None, refl, sym, ap, subst, ◌∙◌, inl, inr, ⊎_elim, arith, append_assoc}
use Rattle.std.specs.Prelude.{map as each, ◌==◌, nat_le, if◌then◌else◌}
use Rattle.std.specs.List.{flat_map, list_all, range_with_len}
use Rattle.std.proofs.lemmas.Bool.{leb-true}
use Rattle.std.proofs.lemmas.List.FromFn.{length-map-range_with_len, map-range_with_len_more}
use Rattle.rsvp_base.specs.declared.addr.Addr.{Addr}
use Rattle.rsvp_base.specs.Members.{In}
use Rattle.rsvp_base.proofs.Members.{in_append, in_flat_map}
use Rattle.tree_model.specs.declared.hops.End.{End}
use Rattle.tree_model.specs.Networks.{Net, ends_from, ends_of, link_of, node_of, owner}
use Rattle.tree_model.specs.Valid.{IsValid}
use Rattle.tree_routing.specs.Answers.{TakesEnd, TakesLink, rising, with_end, with_link}
use Rattle.tree_routing.proofs.ValidMore.{valid_end, valid_link}
use Rattle.script_words.specs.Addresses.{of_bytes}
use Rattle.grown_network.specs.Growing.{hung_up_to}
use Rattle.grown_network.specs.Nodes.{above, down_end, end_of, ends_of_link, ends_up_to, links_up_to, up_end}
use Rattle.grown_network.proofs.Links.{IsOf, node_down, node_up, number_other, other_down, other_up}
use Rattle.grown_network.proofs.Ranges.{at_each, in_range, range_more}

pub flat_append : {A B : Type 0} (f : A → List B) (xs ys : List A) → flat_map f (xs ++ ys) ≡ flat_map f xs ++ flat_map f ys
flat_append f [] ys = refl
flat_append f (x ∷ xs) ys = ap (λ zs. f x ++ zs) (flat_append f xs ys) ∙ sym (append_assoc (f x) (flat_map f xs) (flat_map f ys))

-- ---- one link more
pub ends_more : (n : ℕ) → ends_up_to (n + 1) ≡ (ends_up_to n ++ end_of (above (n + 1)) (of_bytes 10 1 (n + 1) 1) ∷ []) ++ end_of (n + 1) (of_bytes 10 1 (n + 1) 2) ∷ []
unfolding ends_up_to
ends_more n =
    let swap : 1 + n ≡ n + 1 = omega arith in
    ap (flat_map ends_of_link) (range_more 1 n) ∙ flat_append ends_of_link (range_with_len 1 n) ((1 + n) ∷ []) ∙ ap (λ (k : ℕ). flat_map ends_of_link (range_with_len 1 n) ++ ends_of_link k) swap
    ∙ sym (append_assoc (flat_map ends_of_link (range_with_len 1 n)) (end_of (above (n + 1)) (of_bytes 10 1 (n + 1) 1) ∷ []) (end_of (n + 1) (of_bytes 10 1 (n + 1) 2) ∷ []))

pub links_more : (n : ℕ) → links_up_to (n + 1) ≡ links_up_to n ++ (down_end (n + 1) ∷ up_end (n + 1) ∷ []) ∷ []
unfolding links_up_to
links_more n = map-range_with_len_more (λ k. down_end k ∷ up_end k ∷ []) 1 n (n + 1) (omega arith)

pub length_ends : (n : ℕ) → length (ends_up_to n) ≡ 2 * n
unfolding ends_up_to
length_ends n = count 1 n
  where
    count : (a n : ℕ) → length (flat_map ends_of_link (range_with_len a n)) ≡ 2 * n
    count a zero = refl
    count a (suc n) = let rest = count (a + 1) n in omega (arith, rest)

pub length_links : (n : ℕ) → length (links_up_to n) ≡ n
unfolding links_up_to
length_links n = length-map-range_with_len (λ k. down_end k ∷ up_end k ∷ []) 1 n

-- ---- a node has three ends at most
few_tested : list_all (λ m. nat_le (length (ends_of (ends_up_to 63) m)) 3) (range_with_len 0 64) ≡ true
unfolding ends_up_to
few_tested = refl

fewer_before : (xs ys : List End) (number m : ℕ) → length (ends_from number xs m) ≤ length (ends_from number (xs ++ ys) m)
fewer_before [] ys number m = omega arith
fewer_before (x ∷ xs) ys number m = by (x.node == m) (fewer_before xs ys (number + 1) m)
  where
    by : (b : Bool) → length (ends_from (number + 1) xs m) ≤ length (ends_from (number + 1) (xs ++ ys) m)
        → length (if b then number ∷ ends_from (number + 1) xs m else ends_from (number + 1) xs m) ≤ length
        (if b then number ∷ ends_from (number + 1) (xs ++ ys) m else ends_from (number + 1) (xs ++ ys) m)
    by true le = omega (arith, le)
    by false le = le

pub few_up_to : (left n m : ℕ) → n + left ≡ 63 → m < 64 → length (ends_of (ends_up_to n) m) ≤ 3
few_up_to zero n m all lt =
    let e : 63 ≡ n = omega arith in
    subst (λ (k : ℕ). length (ends_of (ends_up_to k) m) ≤ 3) e (leb-true (length (ends_of (ends_up_to 63) m)) 3
    (at_each (λ m. nat_le (length (ends_of (ends_up_to 63) m)) 3) 0 64 m few_tested (omega arith) (omega arith)))
few_up_to (suc left) n m all lt =
    let next = few_up_to left (n + 1) m (omega arith) lt in
    let d : End = end_of (above (n + 1)) (of_bytes 10 1 (n + 1) 1) in
    let u : End = end_of (n + 1) (of_bytes 10 1 (n + 1) 2) in
    let one = fewer_before (ends_up_to n) (d ∷ []) 0 m in
    let two = fewer_before (ends_up_to n ++ d ∷ []) (u ∷ []) 0 m in
    let is = ap (λ (es : List End). length (ends_of es m)) (ends_more n) in
    omega (arith, next, one, two, is)

-- ---- no end has its address
owner_none : (xs : List End) (a : Addr) → ((e : End) → In e xs → e.iface.addr.0 < a.0) → owner xs a ≡ None
owner_none [] a low = refl
owner_none (x ∷ xs) a low =
    let less = low x (inl refl) in
    let ne : (x.iface.addr.0 == a.0) ≡ false = number_other x.iface.addr.0 a.0 (λ same. omega arith) in
    rw ne (owner_none xs a (λ e i. low e (inr i)))

addresses_below : (n : ℕ) (e : End) → In e (ends_up_to n) → e.iface.addr.0 ≤ (of_bytes 10 1 n 2).0
unfolding ends_up_to
addresses_below n e i =
    let k = in_flat_map ends_of_link e (range_with_len 1 n) i in
    let within = in_range 1 n k.0 k.1 in
    let hi = within.1 in
    ⊎_elim (λ (is : e ≡ end_of (above k.0) (of_bytes 10 1 k.0 1)). let a = ap (λ (x : End). x.iface.addr.0) is in omega (arith, hi, a))
    (λ (j : In e (end_of k.0 (of_bytes 10 1 k.0 2) ∷ [])). ⊎_elim (λ (is : e ≡ end_of k.0 (of_bytes 10 1 k.0 2)). let a = ap (λ (x : End). x.iface.addr.0) is in omega (arith, hi, a))
    (λ (none : ⊥). absurd none) j) k.2

-- ---- node n + 1 is hung
module _ (n : ℕ) (lt : n < 63) where
  abbrev d : End
  d = end_of (above (n + 1)) (of_bytes 10 1 (n + 1) 1)

  abbrev u : End
  u = end_of (n + 1) (of_bytes 10 1 (n + 1) 2)

  abbrev es : List ℕ
  es = down_end (n + 1) ∷ up_end (n + 1) ∷ []

  abbrev half : Net
  half = with_end (hung_up_to n) d

  abbrev whole : Net
  whole = with_end half u

  pub takes_down : TakesEnd (hung_up_to n) d
  takes_down = record {
    node = omega arith;
    room = let few = few_up_to (63 - n) n (above (n + 1)) (omega arith) (omega arith) in omega (arith, few);
    address = owner_none (ends_up_to n) (of_bytes 10 1 (n + 1) 1) (λ e i. let le = addresses_below n e i in omega (arith, le));
  }

  pub takes_up : TakesEnd half u
  takes_up = record {
    node = omega arith;
    room =
        let few = few_up_to (63 - n) n (n + 1) (omega arith) (omega arith) in
        let more = few_up_to (62 - n) (n + 1) (n + 1) (omega arith) (omega arith) in
        let is = ap (λ (xs : List End). length (ends_of xs (n + 1))) (ends_more n) in
        let le = fewer_before (ends_up_to n ++ d ∷ []) (u ∷ []) 0 (n + 1) in
        omega (arith, more, is, le);
    address = owner_none (ends_up_to n ++ d ∷ []) (of_bytes 10 1 (n + 1) 2)
        (λ e i.
        ⊎_elim (λ (j : In e (ends_up_to n)). let le = addresses_below n e j in omega (arith, le))
        (λ (j : In e (d ∷ [])). ⊎_elim (λ (is : e ≡ d). let a = ap (λ (x : End). x.iface.addr.0) is in omega (arith, a)) (λ (none : ⊥). absurd none) j) (in_append e (ends_up_to n) (d ∷ []) i));
  }

  link_none : (a m k e : ℕ) → 1 ≤ a → a + m ≤ k → IsOf k e → link_of (each (λ j. down_end j ∷ up_end j ∷ []) (range_with_len a m)) e ≡ []
  link_none a zero k e one le is = refl
  link_none a (suc m) k e one le is =
      let d = other_down a k e one (omega arith) is (λ same. omega arith) in
      let u = other_up a k e one (omega arith) is (λ same. omega arith) in
      rw (d, u) (link_none (a + 1) m k e (omega arith) (omega arith) is)

  free : (e : ℕ) → In e es → link_of (links_up_to n) e ≡ []
  unfolding links_up_to
  free e (inl is) = link_none 1 n (n + 1) e (omega arith) (omega arith) (inl is)
  free e (inr (inl is)) = link_none 1 n (n + 1) e (omega arith) (omega arith) (inr is)
  free e (inr (inr none)) = absurd none

  down_node : node_of whole.ends (down_end (n + 1)) ≡ above (n + 1)
  down_node = ap (λ (xs : List End). node_of xs (down_end (n + 1))) (sym (ends_more n)) ∙ node_down (n + 1) (n + 1) (omega arith) (omega arith)

  up_node : node_of whole.ends (up_end (n + 1)) ≡ n + 1
  up_node = ap (λ (xs : List End). node_of xs (up_end (n + 1))) (sym (ends_more n)) ∙ node_up (n + 1) (n + 1) (omega arith) (omega arith)

  pub takes_link : TakesLink whole es
  takes_link = record {
    some = omega arith;
    few = omega arith;
    there = λ e i.
        let size = ap length (sym (ends_more n)) ∙ length_ends (n + 1) in
        ⊎_elim (λ (is : e ≡ down_end (n + 1)). omega (arith, is, size)) (λ (j : In e (up_end (n + 1) ∷ [])). ⊎_elim (λ (is : e ≡ up_end (n + 1)). omega (arith, is, size))
        (λ (none : ⊥). absurd none) j) i;
    free = free;
    apart = (
      λ i. ⊎_elim (λ (same : node_of whole.ends (down_end (n + 1)) ≡ node_of whole.ends (up_end (n + 1))). let e = sym down_node ∙ same ∙ up_node in omega (arith, e))
          (λ (none : ⊥). absurd none) i,
      (λ i. i, tt),
    );
    room = let size = length_links n in omega (arith, size);
  }

  in_order : rising es ≡ es
  in_order = let ne : nat_le (up_end (n + 1)) (down_end (n + 1)) ≡ false = grind arith in rw ne refl

  pub hung_more : with_link whole es ≡ hung_up_to (n + 1)
  hung_more = λ i. record {
    nodes = 64;
    ends = (sym (ends_more n)) i;
    links = (ap (λ (l : List ℕ). links_up_to n ++ l ∷ []) in_order ∙ sym (links_more n)) i;
    hops = [];
  }

  pub valid_more : IsValid (hung_up_to n) → IsValid (hung_up_to (n + 1))
  valid_more valid = subst IsValid hung_more (valid_link whole (valid_end half (valid_end (hung_up_to n) valid d takes_down) u takes_up) es takes_link)

-- ---- the same of node k
module _ (k : ℕ) (some : 1 ≤ k) (few : k < 64) where
  abbrev pub dk : End
  dk = end_of (above k) (of_bytes 10 1 k 1)

  abbrev pub uk : End
  uk = end_of k (of_bytes 10 1 k 2)

  next : k - 1 + 1 ≡ k
  next = omega arith

  pub takes_down_end : TakesEnd (hung_up_to (k - 1)) dk
  takes_down_end = subst (λ (m : ℕ). TakesEnd (hung_up_to (k - 1)) (end_of (above m) (of_bytes 10 1 m 1))) next (takes_down (k - 1) (omega arith))

  pub takes_up_end : TakesEnd (with_end (hung_up_to (k - 1)) dk) uk
  takes_up_end = subst (λ (m : ℕ). TakesEnd (with_end (hung_up_to (k - 1)) (end_of (above m) (of_bytes 10 1 m 1))) (end_of m (of_bytes 10 1 m 2))) next (takes_up (k - 1) (omega arith))

  pub takes_its_link : TakesLink (with_end (with_end (hung_up_to (k - 1)) dk) uk) (down_end k ∷ up_end k ∷ [])
  takes_its_link =
      subst (λ (m : ℕ). TakesLink (with_end (with_end (hung_up_to (k - 1)) (end_of (above m) (of_bytes 10 1 m 1))) (end_of m (of_bytes 10 1 m 2))) (down_end m ∷ up_end m ∷ [])) next
      (takes_link (k - 1) (omega arith))

  pub hung_is : with_link (with_end (with_end (hung_up_to (k - 1)) dk) uk) (down_end k ∷ up_end k ∷ []) ≡ hung_up_to k
  hung_is =
      subst (λ (m : ℕ). with_link (with_end (with_end (hung_up_to (k - 1)) (end_of (above m) (of_bytes 10 1 m 1))) (end_of m (of_bytes 10 1 m 2))) (down_end m ∷ up_end m ∷ []) ≡ hung_up_to m) next
      (hung_more (k - 1) (omega arith))
