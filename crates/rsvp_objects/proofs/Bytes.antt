-- The bytes of words, and of an object.
use Rattle.std.proofs.Common.{◌≡◌, ℕ, ◌+◌, ◌*◌, List, [], ◌∷◌, ◌++◌, length, refl, sym, ap, ◌∙◌, arith}
use Rattle.std.specs.List.{flat_map}
use Rattle.std.proofs.lemmas.Grind.{flat_map-append}
use Rattle.std.proofs.lemmas.List.Concat.{flat_map-cons}
use Rattle.std.proofs.lemmas.List.{append-nil}
use Rattle.rsvp_objects.specs.Fields.{half, word}
use Rattle.rsvp_objects.specs.declared.adspec.Adspec.{Adspec}
use Rattle.rsvp_objects.specs.AdspecSpelling.{load_words, behind, general_bytes, adspec_bytes, object_bytes}

-- four bytes each
pub fours : (ws : List ℕ) → length (flat_map word ws) ≡ 4 * length ws
fours [] = refl
fours (w ∷ ws) = ap length (flat_map-cons word w ws) ∙ (let e = fours ws in omega arith)

pub one_word : (w : ℕ) → flat_map word (w ∷ []) ≡ word w
one_word w = flat_map-cons word w [] ∙ append-nil (word w)

pub body_size : (a : Adspec) → length (adspec_bytes a) ≡ 40 + 4 * length (behind a)
unfolding adspec_bytes
body_size a = let e = fours (behind a) in omega arith

pub object_is : (a : Adspec) (n : ℕ) → n ≡ length (behind a) → ((half (44 + 4 * n) ++ 13 ∷ 2 ∷ general_bytes a) ++ flat_map word (load_words a.load)) ++ flat_map word a.others ≡ object_bytes a
unfolding adspec_bytes
object_is a n e =
    let x = flat_map word (load_words a.load) in
    let y = flat_map word a.others in
    let size : 44 + 4 * n ≡ 4 + length (adspec_bytes a) = let s = body_size a in omega arith in
    let split : flat_map word (load_words a.load ++ a.others) ≡ x ++ y = rw flat_map-append refl in
    ap (λ (m : ℕ). ((half m ++ 13 ∷ 2 ∷ general_bytes a) ++ x) ++ y) size
    ∙ ap (λ (t : List ℕ). half (4 + length (adspec_bytes a)) ++ 13 ∷ 2 ∷ (general_bytes a ++ t)) (sym split)
