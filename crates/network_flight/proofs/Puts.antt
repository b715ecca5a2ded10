-- What is put behind what is in flight, as far as there is room.
use Rattle.std.proofs.Common.{◌≡◌, ℕ, ◌+◌, ◌<◌, ◌≤◌, List, ◌∷◌, ◌++◌, Bool, true, length, take, drop, get_or, refl, sym, ap, subst, ◌∙◌, arith, append_assoc, length-append}
use Rattle.std.specs.Prelude.{map as each}
use Rattle.std.specs.List.{filter}
use Rattle.std.proofs.lemmas.List.{map-append, take_all, take-append-le, take-append-drop, drop_more}
use Rattle.std.proofs.lemmas.List.Elements.{filter-append}
use Rattle.network_flight.specs.Parcels.{Parcel}

-- all were put
pub all_put : (a b xs : List Parcel) → b ≡ a ++ xs → length b ≤ 8192 → b ≡ take 8192 (a ++ xs)
all_put a b xs e le = e ∙ sym (take_all 8192 (a ++ xs) (subst (λ (l : List Parcel). length l ≤ 8192) e le))

pub fits : (a b xs : List Parcel) → b ≡ a ++ xs → length b ≤ 8192 → 8192 < length (a ++ xs) → ⊥
fits a b xs e le lt = let few = subst (λ (l : List Parcel). length l ≤ 8192) e le in absurd (omega (arith, few, lt))

-- there is no room for the next one
module _ (a b xs : List Parcel) (y : Parcel) (ys : List Parcel) (is : b ≡ a ++ xs) (full : 8192 ≤ length b) where
  longer : a ++ (xs ++ y ∷ ys) ≡ b ++ y ∷ ys
  longer = sym (append_assoc a xs (y ∷ ys)) ∙ ap (λ (l : List Parcel). l ++ y ∷ ys) (sym is)

  pub stops_at : (zs : List Parcel) → zs ≡ xs ++ y ∷ ys → length b ≤ 8192 → b ≡ take 8192 (a ++ zs)
  stops_at zs e le =
      sym (ap (λ (l : List Parcel). take 8192 (a ++ l)) e ∙ ap (take 8192) longer ∙ take-append-le 8192 b (y ∷ ys) full ∙ take_all 8192 b le)

  pub stops_over : (zs : List Parcel) → zs ≡ xs ++ y ∷ ys → 8192 < length (a ++ zs)
  stops_over zs e =
      let same : length (a ++ zs) ≡ length (b ++ y ∷ ys) = ap (λ (l : List Parcel). length (a ++ l)) e ∙ ap (λ (l : List Parcel). length l) longer in
      omega (arith, full, same, length-append b (y ∷ ys))

-- ---- a list up to a place, the one there, and those behind
split_at : {A : Type 0} (es : List A) (i : ℕ) (d : A) → i < length es → es ≡ take i es ++ get_or es i d ∷ drop (i + 1) es
split_at es i d lt = sym (take-append-drop i es) ∙ ap (λ xs. take i es ++ xs) (drop_more es i d lt)

pub each_split : {A : Type 0} (f : A → Parcel) (es : List A) (i : ℕ) (d : A) → i < length es → each f es ≡ each f (take i es) ++ f (get_or es i d) ∷ each f (drop (i + 1) es)
each_split f es i d lt = ap (each f) (split_at es i d lt) ∙ map-append f (take i es) (get_or es i d ∷ drop (i + 1) es)

pub filter_split : {A : Type 0} (f : A → Parcel) (p : A → Bool) (es : List A) (i : ℕ) (d : A) → i < length es → p (get_or es i d) ≡ true
    → each f (filter p es) ≡ each f (filter p (take i es)) ++ f (get_or es i d) ∷ each f (filter p (drop (i + 1) es))
filter_split f p es i d lt t =
    let e = get_or es i d in
    let kept : filter p (e ∷ drop (i + 1) es) ≡ e ∷ filter p (drop (i + 1) es) = rw t refl in
    ap (λ xs. each f (filter p xs)) (split_at es i d lt) ∙ ap (each f) (filter-append p (take i es) (e ∷ drop (i + 1) es) ∙ ap (λ xs. filter p (take i es) ++ xs) kept)
    ∙ map-append f (filter p (take i es)) (e ∷ filter p (drop (i + 1) es))
