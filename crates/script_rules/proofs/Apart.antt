-- Ends are of different nodes where the first is apart from the others, and so are these.
use Rattle.std.proofs.Common.{◌≡◌, ◌≤◌, ◌-◌, ℕ, List, [], ◌∷◌, not, ◌&&◌, take, drop, get_or, length, ap, sym, subst, ◌∙◌, arith}
use Rattle.std.specs.List.{list_any}
use Rattle.std.proofs.Math.Seq.{take-length}
use Rattle.script_grammar.specs.Draft.{Draft}
use Rattle.script_rules.specs.LinkEnds.{are_apart, is_at, node_at}

abbrev pub others : List (List ℕ) → List (List ℕ)
others names = take (length names - 1) (drop 1 names)

pub first_apart : (d : Draft) (names : List (List ℕ)) (first : List ℕ) → 1 ≤ length names → first ≡ get_or names 0 first
    → are_apart d names ≡ (not (list_any (is_at d (node_at d first)) (others names)) && are_apart d (others names))
first_apart d [] first some is = absurd (omega (arith, some))
first_apart d (x ∷ xs) first some is =
    let count : length xs ≡ length (x ∷ xs) - 1 = omega arith in
    let all : others (x ∷ xs) ≡ xs = subst (λ (k : ℕ). take k xs ≡ xs) count (take-length xs) in
    ap (λ (word : List ℕ). not (list_any (is_at d (node_at d word)) xs) && are_apart d xs) (sym is)
    ∙ ap (λ (words : List (List ℕ)). not (list_any (is_at d (node_at d first)) words) && are_apart d words) (sym all)
