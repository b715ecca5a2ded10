-- The way up from a node to node 0.
use Rattle.std.proofs.Common.{◌≡◌, ◌⊎◌, ℕ, ◌-◌, ◌<◌, ◌≤◌, zero, suc, Bool, true, false, List, [], ◌∷◌, refl, sym, ap, ◌∙◌, inl, inr, ⊎_elim, arith, ◌++◌, append_assoc}
use Rattle.std.specs.Prelude.{◌==◌, ◌||◌, ◌&&◌, nat_le, nat_lt}
use Rattle.std.specs.List.{list_all, list_any, range_with_len}
use Rattle.std.proofs.lemmas.Bool.{ltb-true, leb-true}
use Rattle.rsvp_base.specs.Members.{In}
use Rattle.rsvp_base.proofs.Members.{all_in, in_any}
use Rattle.rsvp_base.proofs.SetLaws.{and_both, or_either}
use Rattle.tree_model.specs.Networks.{among}
use Rattle.tree_model.proofs.Following.{same_number}
use Rattle.tree_model.proofs.Links.{among_in}
use Rattle.grown_network.specs.Hops.{climb, way_up}
use Rattle.grown_network.specs.Nodes.{above}
use Rattle.grown_network.proofs.Links.{number_other}
use Rattle.grown_network.proofs.Ranges.{at_each}

-- node j of the way up from r: it is r or the node above another of them; it is one of the 64 nodes and not node 0; and the node
-- above it is node 0 or one of them
abbrev is_step : ℕ → ℕ → Bool
is_step r j =
    (nat_le 1 j && nat_lt j 64) && (((j == r) || list_any (λ i. above i == j) (way_up r)) && ((above j == 0) || among (above j) (way_up r)))

-- it begins with r and ends below node 0
abbrev is_way : ℕ → Bool
is_way r = list_all (is_step r) (way_up r) && ((r == 0) || (among r (way_up r) && list_any (λ i. above i == 0) (way_up r)))

ways_tested : list_all is_way (range_with_len 0 64) ≡ true
unfolding way_up
ways_tested = refl

module _ (r : ℕ) (lt : r < 64) where
  way : (list_all (is_step r) (way_up r) ≡ true) × (((r == 0) || (among r (way_up r) && list_any (λ i. above i == 0) (way_up r))) ≡ true)
  way = and_both (list_all (is_step r) (way_up r)) ((r == 0) || (among r (way_up r) && list_any (λ i. above i == 0) (way_up r))) (at_each is_way 0 64 r ways_tested (omega arith) (omega arith))

  step : (j : ℕ) → In j (way_up r) → ((nat_le 1 j && nat_lt j 64) ≡ true) × ((((j == r) || list_any (λ i. above i == j) (way_up r)) && ((above j == 0) || among (above j) (way_up r))) ≡ true)
  step j i = and_both (nat_le 1 j && nat_lt j 64) (((j == r) || list_any (λ i. above i == j) (way_up r)) && ((above j == 0) || among (above j) (way_up r))) (all_in (is_step r) (way_up r) way.0 j i)

  pub way_within : (j : ℕ) → In j (way_up r) → (1 ≤ j) × (j < 64)
  way_within j i = let both = and_both (nat_le 1 j) (nat_lt j 64) (step j i).0 in (leb-true 1 j both.0, ltb-true j 64 both.1)

  pub way_below : (j : ℕ) → In j (way_up r) → (j ≡ r) ⊎ ((i : ℕ) × In i (way_up r) × (above i ≡ j))
  way_below j i =
      ⊎_elim (λ (e : (j == r) ≡ true). inl (same_number j r e))
      (λ (e : list_any (λ i. above i == j) (way_up r) ≡ true). let k = in_any (λ i. above i == j) (way_up r) e in inr (k.0, k.1, same_number (above k.0) j k.2))
      (or_either (j == r) (list_any (λ i. above i == j) (way_up r)) (and_both ((j == r) || list_any (λ i. above i == j) (way_up r)) ((above j == 0) || among (above j) (way_up r)) (step j i).1).0)

  pub way_above : (j : ℕ) → In j (way_up r) → (above j ≡ 0) ⊎ In (above j) (way_up r)
  way_above j i =
      ⊎_elim (λ (e : (above j == 0) ≡ true). inl (same_number (above j) 0 e)) (λ (e : among (above j) (way_up r) ≡ true). inr (among_in (above j) (way_up r) e))
      (or_either (above j == 0) (among (above j) (way_up r)) (and_both ((j == r) || list_any (λ i. above i == j) (way_up r)) ((above j == 0) || among (above j) (way_up r)) (step j i).1).1)

  pub way_ends : (r ≡ 0) ⊎ (In r (way_up r) × ((i : ℕ) × In i (way_up r) × (above i ≡ 0)))
  way_ends =
      ⊎_elim (λ (e : (r == 0) ≡ true). inl (same_number r 0 e))
      (λ (e : (among r (way_up r) && list_any (λ i. above i == 0) (way_up r)) ≡ true).
      let both = and_both (among r (way_up r)) (list_any (λ i. above i == 0) (way_up r)) e in
      let k = in_any (λ i. above i == 0) (way_up r) both.1 in
      inr (among_in r (way_up r) both.0, (k.0, k.1, same_number (above k.0) 0 k.2)))
      (or_either (r == 0) (among r (way_up r) && list_any (λ i. above i == 0) (way_up r)) way.1)

-- ---- step by step
pub climb_more : (n k : ℕ) → 1 ≤ k → climb (suc n) k ≡ k ∷ climb n (above k)
climb_more n k some = let ne : (k == 0) ≡ false = number_other k 0 (λ same. omega arith) in rw ne refl

pub climb_end : (n : ℕ) → climb n 0 ≡ []
climb_end zero = refl
climb_end (suc n) = refl

-- the nodes so far, and what the rest of the way adds to them
pub way_pushed : (way next all : List ℕ) (n k m : ℕ) → next ≡ way ++ k ∷ [] → m ≡ above k → 1 ≤ k → way ++ climb (suc n) k ≡ all → next ++ climb n m ≡ all
way_pushed way next all n k m pushed moved some is =
    ap (λ (xs : List ℕ). xs ++ climb n m) pushed ∙ append_assoc way (k ∷ []) (climb n m) ∙ ap (λ j. way ++ k ∷ climb n j) moved ∙ ap (λ (xs : List ℕ). way ++ xs) (sym (climb_more n k some)) ∙ is

pub way_ended : (way next all : List ℕ) (n k m : ℕ) → next ≡ way → m ≡ k → k ≡ 0 → way ++ climb (suc n) k ≡ all → next ++ climb n m ≡ all
way_ended way next all n k m same still end is =
    ap (λ (xs : List ℕ). xs ++ climb n m) same ∙ ap (λ j. way ++ climb n j) (still ∙ end) ∙ ap (λ (xs : List ℕ). way ++ xs) (climb_end n) ∙ ap (λ j. way ++ climb (suc n) j) (sym end) ∙ is

pub way_done : (way all : List ℕ) (level k : ℕ) → 6 ≤ level → way ++ climb (6 - level) k ≡ all → way ≡ all
way_done way all level k past is = let none : 6 - level ≡ 0 = omega arith in sym (append_none way) ∙ ap (λ n. way ++ climb n k) (sym none) ∙ is
  where
    append_none : (xs : List ℕ) → xs ++ [] ≡ xs
    append_none [] = refl
    append_none (x ∷ xs) = ap (λ (ys : List ℕ). x ∷ ys) (append_none xs)
