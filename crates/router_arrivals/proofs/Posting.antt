-- Messages posted one after another.
use Rattle.std.specs.Prelude.{◌≡◌, ℕ, ◌+◌, ◌<◌, List, [], ◌∷◌, ◌++◌, map as each, fold, length, take}
use Rattle.std.proofs.Common.{sym, ap, ◌∙◌, get_or}
use Rattle.std.proofs.lemmas.List.{map-append, take_more}
use Rattle.std.proofs.lemmas.List.Sums.{fold-append}

pub posted_more : {A B C : Type 0} (posted : B → C → B) (say : A → C) (start out : B) (xs : List A) (i : ℕ) (x : A) → i < length xs → x ≡ get_or xs i x → out ≡ fold posted start (each say (take i xs))
    → posted out (say x) ≡ fold posted start (each say (take (i + 1) xs))
posted_more posted say start out xs i x lt is so_far =
    ap (λ b. posted b (say x)) so_far ∙ sym (fold-append posted start (each say (take i xs)) (say x ∷ []))
    ∙ ap (fold posted start) (sym (ap (each say) (take_more xs i x lt ∙ ap (λ z. take i xs ++ z ∷ []) (sym is)) ∙ map-append say (take i xs) (x ∷ [])))
