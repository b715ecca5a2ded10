-- The first word that is out of range is out of the range of its field.
use Rattle.std.proofs.Common.{◌≡◌, ℕ, suc, ◌+◌, List, [], ◌∷◌, Some, inl, inr, sym, subst, arith}
use Rattle.script_grammar.specs.Fields.{IsInRange}
use Rattle.script_grammar.specs.FirstWords.{IsOutFrom}
use Rattle.script_grammar.specs.Kinds.{field_at}
use Rattle.script_grammar.specs.declared.kind.Kind.{Kind}
use Rattle.script_grammar.specs.Breaks.{word_behind}

out_from : (period : ℕ) (kind : Kind) (start : ℕ) (words : List (List ℕ)) (place : ℕ) → IsOutFrom period kind start words (Some place)
    → (i : ℕ) × (place ≡ start + i) × (IsInRange period (field_at kind place) (word_behind words i) → ⊥)
out_from period kind start [] place out = absurd (cc)
out_from period kind start (word ∷ words) place (inl (inside, out)) =
    let (i, at, wrong) = out_from period kind (start + 1) words place out in
    (suc i, omega (arith, at), wrong)
out_from period kind start (word ∷ words) place (inr (wrong, at)) =
    let same : place ≡ start = cc in
    (0, omega (arith, same), subst (λ (p : ℕ). IsInRange period (field_at kind p) word → ⊥) (sym same) wrong)

pub out_at : (period : ℕ) (kind : Kind) (words : List (List ℕ)) (place : ℕ) → IsOutFrom period kind 0 words (Some place)
    → IsInRange period (field_at kind place) (word_behind words place) → ⊥
out_at period kind words place out =
    let (i, at, wrong) = out_from period kind 0 words place out in
    let same : i ≡ place = omega (arith, at) in
    subst (λ (p : ℕ). IsInRange period (field_at kind place) (word_behind words p) → ⊥) same wrong
