-- The addresses in the contents of a SCOPE, from the front.
use Rattle.std.proofs.Common.{◌≡◌, ℕ, ◌+◌, ◌*◌, ◌≤◌, ◌<◌, List, [], ◌∷◌, ◌++◌, length, take, drop, get_or, refl, ap, ◌∙◌, arith}
use Rattle.std.specs.List.{flat_map}
use Rattle.std.proofs.lemmas.List.{append-nil, take_more, take_all}
use Rattle.std.proofs.lemmas.Grind.{flat_map-append}
use Rattle.std.proofs.lemmas.List.Concat.{flat_map-cons}
use Rattle.rsvp_base.specs.declared.session.Sender.{Sender}
use Rattle.rsvp_base.specs.Orders.{Names}
use Rattle.rsvp_base.specs.Table.{keys, size}
use Rattle.rsvp_base.proofs.Lists.{size_keys}
use Rattle.rsvp_objects.specs.Fields.{word_at}
use Rattle.rsvp_objects.specs.Contents.{source, sources_in, source_bytes}
use Rattle.rsvp_objects.specs.declared.object.Object.TheVariants as object
use Rattle.rsvp_objects.specs.Spelling.{spelling}

pub sources_cons : (r : List ℕ) → 4 ≤ length r → sources_in r ≡ source (word_at 0 r) ∷ sources_in (drop 4 r)
sources_cons [] h = absurd (omega arith)
sources_cons (a ∷ []) h = absurd (omega arith)
sources_cons (a ∷ b ∷ []) h = absurd (omega arith)
sources_cons (a ∷ b ∷ c ∷ []) h = absurd (omega arith)
sources_cons (a ∷ b ∷ c ∷ d ∷ r) h = refl

pub sources_nil : (r : List ℕ) → length r < 4 → sources_in r ≡ []
sources_nil [] h = refl
sources_nil (a ∷ []) h = refl
sources_nil (a ∷ b ∷ []) h = refl
sources_nil (a ∷ b ∷ c ∷ []) h = refl
sources_nil (a ∷ b ∷ c ∷ d ∷ r) h = absurd (omega arith)

-- ---- their text

-- four bytes each
pub fours : (xs : List Sender) → length (flat_map source_bytes xs) ≡ 4 * length xs
fours [] = refl
fours (x ∷ xs) = ap length (flat_map-cons source_bytes x xs) ∙ (let e = fours xs in omega arith)

-- one more
pub text_more : (xs : List Sender) (k : ℕ) (d : Sender) → k < length xs → flat_map source_bytes (take (k + 1) xs) ≡ flat_map source_bytes (take k xs) ++ source_bytes (get_or xs k d)
text_more xs k d h = rw (take_more xs k d h, flat_map-append) (ap (λ (t : List ℕ). flat_map source_bytes (take k xs) ++ t) (flat_map-cons source_bytes (get_or xs k d) [] ∙ append-nil _))

-- all
pub text_whole : (xs : List Sender) (k : ℕ) → length xs ≤ k → flat_map source_bytes (take k xs) ≡ flat_map source_bytes xs
text_whole xs k h = ap (flat_map source_bytes) (take_all k xs h)

-- the size of a SCOPE
pub scope_size : (names : Names) → length (spelling (object.Scope names)) ≡ 4 + 4 * size names
unfolding spelling
scope_size names = let e = fours (keys names) in let n = size_keys names in omega arith
