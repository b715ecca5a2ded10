-- What words say, by how many they are.
use Rattle.std.proofs.Common.{◌≡◌, ℕ, List, [], ◌∷◌, None, ap, ◌∙◌}
use Rattle.load_policer.specs.Grammar.{pair_line, said_by}

pub one_word : (ws vs : List (List ℕ)) (a : List ℕ) → ws ≡ a ∷ vs → vs ≡ [] → said_by ws ≡ None
one_word ws vs a e f = ap said_by (e ∙ ap (λ (x : List (List ℕ)). a ∷ x) f)

pub pair_of_words : (ws vs us : List (List ℕ)) (a b : List ℕ) → ws ≡ a ∷ vs → vs ≡ b ∷ us → us ≡ [] → said_by ws ≡ pair_line a b
pair_of_words ws vs us a b e f g = ap said_by (e ∙ ap (λ (x : List (List ℕ)). a ∷ x) (f ∙ ap (λ (x : List (List ℕ)). b ∷ x) g))

pub many_words : (ws vs us xs : List (List ℕ)) (a b c : List ℕ) → ws ≡ a ∷ vs → vs ≡ b ∷ us → us ≡ c ∷ xs → said_by ws ≡ None
many_words ws vs us xs a b c e f g = ap said_by (e ∙ ap (λ (x : List (List ℕ)). a ∷ x) (f ∙ ap (λ (x : List (List ℕ)). b ∷ x) g))
