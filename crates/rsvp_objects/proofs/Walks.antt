-- Reading fragments, word by word.
use Rattle.std.proofs.Common.{◌≡◌, ℕ, zero, suc, ◌+◌, ◌-◌, ◌<◌, ◌≤◌, Bool, true, false, List, [], ◌∷◌, ◌++◌, length, length-append, append_assoc, Option, Some, None, refl, ap, ◌∙◌, arith}
use Rattle.std.specs.Prelude.{◌&&◌, ◌==◌, nat_le, is_some}
use Rattle.std.proofs.lemmas.Bool.{ne_eqb, lt-leb, le-leb}
use Rattle.std.proofs.lemmas.List.{append-nil}
use Rattle.rsvp_objects.specs.Fragment.{service, is_broken, behind_in, counted, heads, missing, others, loads, none_general, is_one_load, is_one_more, are_more, more_in}

and_false : (a : Bool) → (a && false) ≡ false
and_false true = refl
and_false false = refl

second_false : (a c d : Bool) → (a && false && c && d) ≡ false
second_false true c d = refl
second_false false c d = refl

third_false : (a b d : Bool) → (a && b && false && d) ≡ false
third_false true true d = refl
third_false true false d = refl
third_false false b d = refl

refused : (due : ℕ) (load : Option Bool) (kept ws : List ℕ) → are_more due load kept ws ≡ false → more_in due load kept ws ≡ None
unfolding more_in
refused due load kept ws e = rw e refl

-- ---- no words with this one are fragments

pub no_room : (due : ℕ) (load : Option Bool) (kept ws : List ℕ) → 24 < length kept + length (others due ws) → more_in due load kept ws ≡ None
no_room due load kept ws h =
    let long : 24 < length (kept ++ others due ws) = let e = length-append kept (others due ws) in omega arith in
    refused due load kept ws (rw (lt-leb (length (kept ++ others due ws)) 24 long) (and_false _))

pub general_again : (load : Option Bool) (kept : List ℕ) (w : ℕ) (ws : List ℕ) → service w ≡ 1 → more_in 0 load kept (w ∷ ws) ≡ None
general_again load kept w ws h =
    let g : none_general (heads 0 (w ∷ ws)) ≡ false = rw h refl in
    refused 0 load kept (w ∷ ws) (ap (λ (b : Bool). missing 0 (w ∷ ws) == 0 && b && is_one_more load (loads (heads 0 (w ∷ ws))) && nat_le (length (kept ++ others 0 (w ∷ ws))) 24) g
    ∙ second_false (missing 0 (w ∷ ws) == 0) (is_one_more load (loads (heads 0 (w ∷ ws)))) (nat_le (length (kept ++ others 0 (w ∷ ws))) 24))

pub follow_full : (due : ℕ) (load : Option Bool) (kept : List ℕ) (w : ℕ) (ws : List ℕ) → 0 < due → length kept ≡ 24 → more_in due load kept (w ∷ ws) ≡ None
follow_full zero load kept w ws h full = absurd (omega arith)
follow_full (suc due) load kept w ws h full = no_room (suc due) load kept (w ∷ ws) (omega arith)

pub other_full : (load : Option Bool) (kept : List ℕ) (w : ℕ) (ws : List ℕ) → (service w ≡ 5 → ⊥) → length kept ≡ 24 → more_in 0 load kept (w ∷ ws) ≡ None
other_full load kept w ws five full =
    let e : others 0 (w ∷ ws) ≡ w ∷ others (counted w) ws = rw (ne_eqb (service w) 5 five) refl in
    let n : length (others 0 (w ∷ ws)) ≡ length (others (counted w) ws) + 1 = ap length e ∙ omega arith in
    no_room 0 load kept (w ∷ ws) (omega arith)

pub second_load : (broken : Bool) (kept : List ℕ) (w : ℕ) (ws : List ℕ) → service w ≡ 5 → more_in 0 (Some broken) kept (w ∷ ws) ≡ None
second_load broken kept w ws h =
    let l : loads (heads 0 (w ∷ ws)) ≡ w ∷ loads (heads (counted w) ws) = rw h refl in
    refused 0 (Some broken) kept (w ∷ ws) (ap (λ (b : Bool). missing 0 (w ∷ ws) == 0 && none_general (heads 0 (w ∷ ws)) && b && nat_le (length (kept ++ others 0 (w ∷ ws))) 24)
    (ap (is_one_more (Some broken)) l) ∙ third_false (missing 0 (w ∷ ws) == 0) (none_general (heads 0 (w ∷ ws))) (nat_le (length (kept ++ others 0 (w ∷ ws))) 24))

pub any_load : (load : Option Bool) (kept : List ℕ) (w : ℕ) (ws : List ℕ) → is_some load ≡ true → service w ≡ 5 → more_in 0 load kept (w ∷ ws) ≡ None
any_load None kept w ws some h = absurd cc
any_load (Some broken) kept w ws some h = second_load broken kept w ws h

pub no_load : (load : Option Bool) → is_some load ≡ false → load ≡ None
no_load None e = refl
no_load (Some broken) e = absurd cc

one_false : (w : ℕ) (ws : List ℕ) → 0 < counted w → is_one_load (w ∷ ws) ≡ false
one_false w [] h = ne_eqb (counted w) 0 (λ e. omega arith)
one_false w (x ∷ xs) h = refl

pub load_with_words : (kept : List ℕ) (w : ℕ) (ws : List ℕ) → service w ≡ 5 → 0 < counted w → more_in 0 None kept (w ∷ ws) ≡ None
load_with_words kept w ws h some =
    let l : loads (heads 0 (w ∷ ws)) ≡ w ∷ loads (heads (counted w) ws) = rw h refl in
    refused 0 None kept (w ∷ ws) (ap (λ (b : Bool). missing 0 (w ∷ ws) == 0 && none_general (heads 0 (w ∷ ws)) && b && nat_le (length (kept ++ others 0 (w ∷ ws))) 24)
    (ap is_one_load l ∙ one_false w (loads (heads (counted w) ws)) some) ∙ third_false (missing 0 (w ∷ ws) == 0) (none_general (heads 0 (w ∷ ws))) (nat_le (length (kept ++ others 0 (w ∷ ws))) 24))

-- ---- a word more

pub follow : (due : ℕ) (load : Option Bool) (kept : List ℕ) (w : ℕ) (ws : List ℕ) → 0 < due → more_in due load kept (w ∷ ws) ≡ more_in (due - 1) load (kept ++ w ∷ []) ws
unfolding more_in
follow zero load kept w ws h = absurd (omega arith)
follow (suc due) load kept w ws h = let e : suc due - 1 ≡ due = omega arith in rw (e, append_assoc kept (w ∷ []) (others due ws)) refl

one_more : (w : ℕ) (ws : List ℕ) → counted w ≡ 0 → is_one_load (w ∷ ws) ≡ is_one_more (Some (is_broken w)) ws
one_more w [] h = rw h refl
one_more w (x ∷ xs) h = refl

pub begin_load : (kept : List ℕ) (w : ℕ) (ws : List ℕ) → service w ≡ 5 → counted w ≡ 0 → more_in 0 None kept (w ∷ ws) ≡ more_in 0 (Some (is_broken w)) kept ws
unfolding more_in
begin_load kept w ws five e = rw (five, one_more w (loads (heads (counted w) ws)) e, e) refl

pub begin_other : (load : Option Bool) (kept : List ℕ) (w : ℕ) (ws : List ℕ) → (service w ≡ 1 → ⊥) → (service w ≡ 5 → ⊥) → more_in 0 load kept (w ∷ ws) ≡ more_in (counted w) load (kept ++ w ∷ []) ws
unfolding more_in
begin_other load kept w ws one five = rw (ne_eqb (service w) 1 one, ne_eqb (service w) 5 five, append_assoc kept (w ∷ []) (others (counted w) ws)) refl

-- ---- the start, and the end

pub from_start : (ws : List ℕ) → more_in 0 None [] ws ≡ behind_in ws
unfolding more_in behind_in
from_start ws = refl

pub not_whole : (due : ℕ) (load : Option Bool) (kept : List ℕ) → 0 < due → more_in due load kept [] ≡ None
not_whole due load kept h = refused due load kept [] (rw (ne_eqb due 0 (λ e. omega arith)) refl)

pub at_end : (load : Option Bool) (kept : List ℕ) → length kept ≤ 24 → more_in 0 load kept [] ≡ Some (load, kept)
unfolding more_in
at_end None kept h = rw (append-nil kept, le-leb (length kept) 24 h) refl
at_end (Some broken) kept h = rw (append-nil kept, le-leb (length kept) 24 h) refl
