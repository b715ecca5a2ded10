-- Where the ends of a grown network stand, and which link each is in.
use Rattle.std.proofs.Common.{◌≡◌, ◌⊎◌, ℕ, ◌+◌, ◌<◌, ◌≤◌, zero, suc, Bool, true, false, List, [], ◌∷◌, Option, None, Some, refl, sym, ap, ◌∙◌, inl, inr, ⊎_elim, arith}
use Rattle.std.specs.Prelude.{map as each, not, ◌==◌, ◌||◌}
use Rattle.std.specs.List.{filter, list_all, range_with_len}
use Rattle.std.proofs.lemmas.Bool.{cases_lt}
use Rattle.rsvp_base.proofs.SetLaws.{or_right}
use Rattle.tree_model.specs.declared.hops.LinkHop.{LinkHop}
use Rattle.tree_model.specs.Networks.{among, link_of, node_of, node_of_end, owner}
use Rattle.tree_model.specs.Trees.{is_linked, is_node, sends_alone}
use Rattle.tree_model.proofs.Following.{same_number, number_same}
use Rattle.script_words.specs.Addresses.{of_bytes}
use Rattle.grown_network.specs.Hops.{hop_down, hop_up}
use Rattle.grown_network.specs.Nodes.{above, down_end, end_of, ends_up_to, home, links_up_to, up_end}
use Rattle.grown_network.proofs.Ranges.{IsPair, at_each, pair_at}

-- ---- ends
ends_at : (n k : ℕ) → 1 ≤ k → k ≤ n → IsPair (ends_up_to n) (down_end k) (end_of (above k) (of_bytes 10 1 k 1)) (end_of k (of_bytes 10 1 k 2))
unfolding ends_up_to
ends_at n k lo hi = pair_at (λ j. end_of (above j) (of_bytes 10 1 j 1)) (λ j. end_of j (of_bytes 10 1 j 2)) 1 n k lo (omega arith)

pub node_down : (n k : ℕ) → 1 ≤ k → k ≤ n → node_of (ends_up_to n) (down_end k) ≡ above k
node_down n k lo hi = ap node_of_end (ends_at n k lo hi).one

pub node_up : (n k : ℕ) → 1 ≤ k → k ≤ n → node_of (ends_up_to n) (up_end k) ≡ k
node_up n k lo hi =
    let next : up_end k ≡ suc (down_end k) = omega arith in
    ap (node_of (ends_up_to n)) next ∙ ap node_of_end (ends_at n k lo hi).other

-- ---- links
-- the end is in the link of node k
abbrev pub IsOf : ℕ → ℕ → Type 0
IsOf k e = (e ≡ down_end k) ⊎ (e ≡ up_end k)

pub number_other : (a b : ℕ) → (a ≡ b → ⊥) → (a == b) ≡ false
number_other a b ne = by (a == b) refl
  where
    by : (t : Bool) → (a == b) ≡ t → (a == b) ≡ false
    by true e = absurd (ne (same_number a b e))
    by false e = e

-- ends of two links are two
pub other_down : (j k e : ℕ) → 1 ≤ j → 1 ≤ k → IsOf k e → (j ≡ k → ⊥) → (down_end j == e) ≡ false
other_down j k e a b is ne = number_other (down_end j) e (λ same. ne (⊎_elim (λ (x : e ≡ down_end k). omega arith) (λ (x : e ≡ up_end k). omega arith) is))

pub other_up : (j k e : ℕ) → 1 ≤ j → 1 ≤ k → IsOf k e → (j ≡ k → ⊥) → (up_end j == e) ≡ false
other_up j k e a b is ne = number_other (up_end j) e (λ same. ne (⊎_elim (λ (x : e ≡ down_end k). omega arith) (λ (x : e ≡ up_end k). omega arith) is))

link_from : (a n k e : ℕ) → 1 ≤ a → a ≤ k → k < a + n → IsOf k e → link_of (each (λ j. down_end j ∷ up_end j ∷ []) (range_with_len a n)) e ≡ down_end k ∷ up_end k ∷ []
link_from a zero k e one lo hi is = absurd (omega arith)
link_from a (suc n) k e one lo hi is =
    ⊎_elim
    (λ (h : a < k).
    let d = other_down a k e one (omega arith) is (λ same. omega arith) in
    let u = other_up a k e one (omega arith) is (λ same. omega arith) in
    rw (d, u) (link_from (a + 1) n k e (omega arith) (omega arith) (omega arith) is))
    (λ (h : k ≤ a).
    let same : a ≡ k = omega arith in
    let here : (down_end a == e || (up_end a == e || false)) ≡ true =
    ⊎_elim (λ (x : e ≡ down_end k). ap (λ b. b || (up_end a == e || false)) (number_same (down_end a) e (ap down_end same ∙ sym x)))
    (λ (x : e ≡ up_end k). or_right (down_end a == e) (up_end a == e || false) (ap (λ b. b || false) (number_same (up_end a) e (ap up_end same ∙ sym x)))) is in
    rw here (ap (λ j. down_end j ∷ up_end j ∷ []) same))
    (cases_lt a k)

pub link_at : (k e : ℕ) → 1 ≤ k → k < 64 → IsOf k e → link_of (links_up_to 63) e ≡ down_end k ∷ up_end k ∷ []
unfolding links_up_to
link_at k e lo hi is = link_from 1 63 k e (omega arith) lo hi is

among_first : (a b : ℕ) → (a == b) ≡ false → among a (filter (λ x. not (x == b)) (a ∷ b ∷ [])) ≡ true
among_first a b ne = rw (ne, number_same b b refl, number_same a a refl) refl

among_second : (a b : ℕ) → (b == a) ≡ false → among b (filter (λ x. not (x == a)) (a ∷ b ∷ [])) ≡ true
among_second a b ne = rw (number_same a a refl, ne, number_same b b refl) refl

pub linked_up : (k : ℕ) → 1 ≤ k → k < 64 → is_linked (links_up_to 63) (hop_up k) ≡ true
linked_up k lo hi =
    let ne = number_other (down_end k) (up_end k) (λ same. omega arith) in
    ap (λ (l : List ℕ). among (down_end k) (filter (λ x. not (x == up_end k)) l)) (link_at k (up_end k) lo hi (inr refl)) ∙ among_first (down_end k) (up_end k) ne

pub linked_down : (k : ℕ) → 1 ≤ k → k < 64 → is_linked (links_up_to 63) (hop_down k) ≡ true
linked_down k lo hi =
    let ne = number_other (up_end k) (down_end k) (λ same. omega arith) in
    ap (λ (l : List ℕ). among (up_end k) (filter (λ x. not (x == down_end k)) l)) (link_at k (down_end k) lo hi (inl refl)) ∙ among_second (down_end k) (up_end k) ne

-- a hop out of an end of another link leaves this link alone
pub alone_other : (j k e : ℕ) (x : LinkHop) → 1 ≤ j → 1 ≤ k → k < 64 → (k ≡ j → ⊥) → IsOf k e → IsOf j x.from → sends_alone (links_up_to 63) e x ≡ true
alone_other j k e x a b c ne is from =
    let d = other_down k j x.from b a from ne in
    let u = other_up k j x.from b a from ne in
    ap (λ (l : List ℕ). not (among x.from l) || (x.from == e)) (link_at k e b c is) ∙ rw (d, u) refl

-- ---- addresses
owner_tested : list_all (λ r. is_node r (owner (ends_up_to 63) (home r))) (range_with_len 0 64) ≡ true
unfolding ends_up_to
owner_tested = refl

pub owner_of_home : (r : ℕ) → r < 64 → owner (ends_up_to 63) (home r) ≡ Some r
owner_of_home r lt = told (owner (ends_up_to 63) (home r)) (at_each (λ r. is_node r (owner (ends_up_to 63) (home r))) 0 64 r owner_tested (omega arith) (omega arith))
  where
    told : (o : Option ℕ) → is_node r o ≡ true → o ≡ Some r
    told None e = absurd (cc)
    told (Some m) e = ap Some (same_number m r e)

pub one_home : (m n : ℕ) → m < 64 → n < 64 → home m ≡ home n → m ≡ n
one_home m n a b e = let same : Some m ≡ Some n = sym (owner_of_home m a) ∙ ap (owner (ends_up_to 63)) e ∙ owner_of_home n b in cc
