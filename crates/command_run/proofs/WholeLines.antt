-- The lines that stand whole in a front of some bytes are first lines of all.
use Rattle.std.proofs.Common.{◌≡◌, ℕ, ◌<◌, List, [], ◌∷◌, ◌++◌, ◌==◌, Bool, true, false, cond, length, refl, ap, ◌∙◌, arith}
use Rattle.std.specs.List.{onto_first}
use Rattle.std.proofs.lemmas.List.Splits.{length-slice_split}
use Rattle.script_words.specs.Lines.{text_lines, without_empty_last}
use Rattle.script_words.specs.Parts.{parts_of}
use Rattle.byte_streams.specs.Lines.{whole_lines, without_last}

-- some parts are all but the last of others, and at least one more
abbrev GoOn : List (List ℕ) → List (List ℕ) → Type 0
GoOn firsts all = (part : List ℕ) × (more : List (List ℕ)) × (all ≡ without_last firsts ++ part ∷ more)

on_feed : (firsts all : List (List ℕ)) → 0 < length firsts → GoOn firsts all → GoOn ([] ∷ firsts) ([] ∷ all)
on_feed [] all some h = absurd (omega arith)
on_feed (p ∷ ps) all some h = (h.0, h.1, ap (λ (z : List (List ℕ)). [] ∷ z) h.2)

on_byte : (x : ℕ) (firsts all : List (List ℕ)) → 0 < length firsts → GoOn firsts all → GoOn (onto_first x firsts) (onto_first x all)
on_byte x [] all some h = absurd (omega arith)
on_byte x (p ∷ []) all some h = (x ∷ h.0, h.1, ap (onto_first x) h.2)
on_byte x (p ∷ next ∷ ps) all some h = (h.0, h.1, ap (onto_first x) h.2)

some_part : (parts : List (List ℕ)) → 0 < length parts → (part : List ℕ) × (more : List (List ℕ)) × (parts ≡ part ∷ more)
some_part [] some = absurd (omega arith)
some_part (p ∷ ps) some = (p, ps, refl)

go_on : (xs ys : List ℕ) → GoOn (parts_of 10 xs) (parts_of 10 (xs ++ ys))
go_on [] ys = some_part (parts_of 10 ys) (omega (arith, length-slice_split (λ c. c == 10) ys))
go_on (x ∷ xs) ys = by (x == 10) (omega (arith, length-slice_split (λ c. c == 10) xs)) (go_on xs ys)
  where
    by : (b : Bool) → 0 < length (parts_of 10 xs) → GoOn (parts_of 10 xs) (parts_of 10 (xs ++ ys))
        → GoOn (cond b ([] ∷ parts_of 10 xs) (onto_first x (parts_of 10 xs))) (cond b ([] ∷ parts_of 10 (xs ++ ys)) (onto_first x (parts_of 10 (xs ++ ys))))
    by true some h = on_feed (parts_of 10 xs) (parts_of 10 (xs ++ ys)) some h
    by false some h = on_byte x (parts_of 10 xs) (parts_of 10 (xs ++ ys)) some h

last_stays : (firsts : List (List ℕ)) (part : List ℕ) (more : List (List ℕ)) → without_empty_last (firsts ++ part ∷ more) ≡ firsts ++ without_empty_last (part ∷ more)
last_stays [] part more = refl
last_stays (a ∷ []) part more = refl
last_stays (a ∷ b ∷ firsts) part more = ap (λ (z : List (List ℕ)). a ∷ z) (last_stays (b ∷ firsts) part more)

pub whole_first : (xs ys : List ℕ) → (after : List (List ℕ)) × (text_lines (xs ++ ys) ≡ whole_lines xs ++ after)
whole_first xs ys =
    let h = go_on xs ys in
    (without_empty_last (h.0 ∷ h.1), ap without_empty_last h.2 ∙ last_stays (whole_lines xs) h.0 h.1)
