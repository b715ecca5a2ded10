-- How the text of findings begins, and how that of a demand ends.
use Rattle.std.specs.Prelude.{◌≡◌, ◌⊎◌, ℕ, List, [], ◌∷◌, ◌++◌, length, codes, drop, refl}
use Rattle.std.specs.List.{flat_map}
use Rattle.std.proofs.Common.{suc, sym, ap, subst, ◌∙◌, inl, inr, ⊎_elim, append_assoc, get_or, length-append, arith}
use Rattle.script_demand.specs.Laws.{SaysAMisfit}

pub says_on : (text more : List ℕ) → SaysAMisfit text → SaysAMisfit (text ++ more)
says_on text more s = (s.0 ++ more, ap (λ xs. xs ++ more) s.1 ∙ append_assoc (codes "misfit: ") s.0 more)

-- ---- strays
-- a text is empty, or begins with a stray
abbrev pub IsStrays : List ℕ → Type 0
IsStrays text = (text ≡ []) ⊎ ((rest : List ℕ) × (text ≡ codes "stray: " ++ rest))

pub strays_on : (text more : List ℕ) → IsStrays text → IsStrays more → IsStrays (text ++ more)
strays_on text more first then =
    ⊎_elim
    (λ (e : text ≡ []). ⊎_elim (λ (f : more ≡ []). inl (ap (λ xs. xs ++ more) e ∙ f)) (λ (f : (rest : List ℕ) × (more ≡ codes "stray: " ++ rest)). inr (f.0, ap (λ xs. xs ++ more) e ∙ f.1)) then)
    (λ (e : (rest : List ℕ) × (text ≡ codes "stray: " ++ rest)). inr (e.0 ++ more, ap (λ xs. xs ++ more) e.1 ∙ append_assoc (codes "stray: ") e.0 more)) first

pub all_strays : {A : Type 0} (f : A → List ℕ) (xs : List A) → ((x : A) → IsStrays (f x)) → IsStrays (flat_map f xs)
all_strays f [] each = inl refl
all_strays f (x ∷ xs) each = strays_on (f x) (flat_map f xs) (each x) (all_strays f xs each)

-- a text is empty, or begins with how much room there is
abbrev pub IsRoom : List ℕ → Type 0
IsRoom text = (text ≡ []) ⊎ ((rest : List ℕ) × (text ≡ codes "room: " ++ rest))

room_says_nothing : (text : List ℕ) → IsRoom text → SaysAMisfit text → ⊥
room_says_nothing text is s =
    ⊎_elim
    (λ (e : text ≡ []). let z : 0 ≡ 109 = ap (λ xs. get_or xs 0 0) (sym e ∙ s.1) in absurd (omega (arith, z)))
    (λ (e : (rest : List ℕ) × (text ≡ codes "room: " ++ rest)). let z : 114 ≡ 109 = ap (λ xs. get_or xs 0 0) (sym e.1 ∙ s.1) in absurd (omega (arith, z))) is

pub strays_say_nothing : (text more : List ℕ) → IsStrays text → IsRoom more → SaysAMisfit (text ++ more) → ⊥
strays_say_nothing text more is room s =
    ⊎_elim
    (λ (e : text ≡ []). room_says_nothing more room (subst SaysAMisfit (ap (λ xs. xs ++ more) e) s))
    (λ (e : (rest : List ℕ) × (text ≡ codes "stray: " ++ rest)).
    let z : 115 ≡ 109 = ap (λ xs. get_or xs 0 0) (sym (ap (λ xs. xs ++ more) e.1) ∙ s.1) in absurd (omega (arith, z))) is

-- ---- endings
-- of two texts that are one the bytes before the last are one
pub one_before_last : (xs ys : List ℕ) (a b c d : ℕ) → xs ++ a ∷ b ∷ [] ≡ ys ++ c ∷ d ∷ [] → a ≡ c
one_before_last [] [] a b c d e = ap (λ zs. get_or zs 0 0) e
one_before_last [] (y ∷ ys) a b c d e =
    let n : 2 ≡ suc (length (ys ++ c ∷ d ∷ [])) = ap length e in
    let m = length-append ys (c ∷ d ∷ []) in
    absurd (omega (arith, n, m))
one_before_last (x ∷ xs) [] a b c d e =
    let n : suc (length (xs ++ a ∷ b ∷ [])) ≡ 2 = ap length e in
    let m = length-append xs (a ∷ b ∷ []) in
    absurd (omega (arith, n, m))
one_before_last (x ∷ xs) (y ∷ ys) a b c d e = one_before_last xs ys a b c d (ap (drop 1) e)
