-- Each link of a grown network has two ends.
use Rattle.std.proofs.Common.{◌≡◌, ℕ, ◌≤◌, true, List, [], ◌∷◌, length, refl, sym, ◌∙◌, ⊎_elim, arith}
use Rattle.std.specs.Prelude.{nat_le}
use Rattle.std.specs.List.{list_all, range_with_len}
use Rattle.std.proofs.lemmas.Bool.{leb-true}
use Rattle.rsvp_base.specs.Members.{In}
use Rattle.tree_model.specs.Networks.{peers}
use Rattle.tree_model.proofs.Links.{peers_both}
use Rattle.laws_network.proofs.Standing.{peer_there}
use Rattle.grown_network.specs.Grown.{grown_net}
use Rattle.grown_network.specs.Nodes.{links_up_to}
use Rattle.grown_network.proofs.Hanging.{length_ends}
use Rattle.grown_network.proofs.Ranges.{at_each}
use Rattle.grown_network.proofs.Valid.{valid_grown}

peers_tested : list_all (λ a. nat_le (length (peers (links_up_to 63) a)) 1) (range_with_len 0 126) ≡ true
unfolding links_up_to
peers_tested = refl

one_of : {A : Type 0} (xs : List A) → length xs ≤ 1 → (b c : A) → In b xs → In c xs → b ≡ c
one_of [] few b c i j = absurd i
one_of (x ∷ []) few b c i j = ⊎_elim (λ (p : b ≡ x). ⊎_elim (λ (r : c ≡ x). p ∙ sym r) (λ (none : ⊥). absurd none) j) (λ (none : ⊥). absurd none) i
one_of (x ∷ y ∷ xs) few b c i j = absurd (omega (arith, few))

pub grown_wired : (seed a b c : ℕ) → In b (peers (grown_net seed).links a) → In c (peers (grown_net seed).links a) → b ≡ c
grown_wired seed a b c i j =
    let back = peers_both (grown_net seed) (valid_grown seed) a b i in
    let lt = peer_there (grown_net seed) (valid_grown seed) b a back in
    let size = length_ends 63 in
    let few = leb-true (length (peers (links_up_to 63) a)) 1 (at_each (λ a. nat_le (length (peers (links_up_to 63) a)) 1) 0 126 a peers_tested (omega arith) (omega (arith, lt, size))) in
    one_of (peers (links_up_to 63) a) few b c i j
