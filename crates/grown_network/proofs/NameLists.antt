-- The names of ends.
use Rattle.std.proofs.Common.{◌≡◌, ℕ, ◌+◌, ◌<◌, Bool, true, List, [], ◌∷◌, ◌++◌, refl, sym, ap, ◌∙◌, arith}
use Rattle.std.specs.Fmt.{decimal, digits}
use Rattle.std.specs.List.{flat_map, list_all, range_with_len}
use Rattle.std.specs.Prelude.{codes, ◌&&◌}
use Rattle.rsvp_base.proofs.SetLaws.{and_both}
use Rattle.rsvp_base.specs.EndNames.{is_name}
use Rattle.grown_network.specs.Nodes.{names_of_link, names_up_to}
use Rattle.grown_network.proofs.Hanging.{flat_append}
use Rattle.grown_network.proofs.Ranges.{at_each, range_more}

abbrev are_names : ℕ → Bool
are_names k = is_name (codes "d" ++ decimal k) && is_name (codes "u" ++ decimal k)

names_tested : list_all are_names (range_with_len 0 64) ≡ true
unfolding digits
names_tested = refl

pub names_are : (k : ℕ) → k < 64 → (is_name (codes "d" ++ decimal k) ≡ true) × (is_name (codes "u" ++ decimal k) ≡ true)
names_are k lt = and_both (is_name (codes "d" ++ decimal k)) (is_name (codes "u" ++ decimal k)) (at_each are_names 0 64 k names_tested (omega arith) (omega arith))

pub names_none : (names : List (List ℕ)) → names ≡ [] → names ≡ names_up_to 0
unfolding names_up_to
names_none names is = is

pub names_more : (names next : List (List ℕ)) (n k m : ℕ) → k ≡ n + 1 → m ≡ k → names ≡ names_up_to n → next ≡ names ++ names_of_link k → next ≡ names_up_to m
unfolding names_up_to
names_more names next n k m e at is pushed =
    let swap : 1 + n ≡ k = omega arith in
    let all : n + 1 ≡ m = omega arith in
    pushed ∙ ap (λ (xs : List (List ℕ)). xs ++ names_of_link k) is ∙ ap (λ (xs : List (List ℕ)). flat_map names_of_link (range_with_len 1 n) ++ xs)
    (sym (append_none (names_of_link k)) ∙ ap (λ j. flat_map names_of_link (j ∷ [])) (sym swap))
    ∙ sym (flat_append names_of_link (range_with_len 1 n) ((1 + n) ∷ [])) ∙ ap (flat_map names_of_link) (sym (range_more 1 n)) ∙ ap (λ j. flat_map names_of_link (range_with_len 1 j)) all
  where
    append_none : {A : Type 0} (xs : List A) → xs ++ [] ≡ xs
    append_none [] = refl
    append_none {A} (x ∷ xs) = ap (λ (ys : List A). x ∷ ys) (append_none xs)
