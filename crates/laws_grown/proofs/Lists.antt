-- Lists made of lists, and those of their members that pass a test.
use Rattle.std.proofs.Common.{◌≡◌, Bool, true, false, cond, List, [], ◌∷◌, ◌++◌, refl, ap, ◌∙◌, inl, inr}
use Rattle.std.specs.Prelude.{map as each}
use Rattle.std.specs.List.{filter, flat_map}
use Rattle.rsvp_base.specs.Members.{In}
use Rattle.grown_network.proofs.Hanging.{flat_append}
use Rattle.grown_network.proofs.Senders.{each_append}

pub flat_flat : {A B C : Type 0} (f : A → List B) (g : B → List C) (xs : List A) → flat_map g (flat_map f xs) ≡ flat_map (λ x. flat_map g (f x)) xs
flat_flat f g [] = refl
flat_flat {A} {B} {C} f g (x ∷ xs) = flat_append g (f x) (flat_map f xs) ∙ ap (λ (zs : List C). flat_map g (f x) ++ zs) (flat_flat f g xs)

pub each_flat : {A B C : Type 0} (f : A → List B) (g : B → C) (xs : List A) → each g (flat_map f xs) ≡ flat_map (λ x. each g (f x)) xs
each_flat f g [] = refl
each_flat {A} {B} {C} f g (x ∷ xs) = each_append g (f x) (flat_map f xs) ∙ ap (λ (zs : List C). each g (f x) ++ zs) (each_flat f g xs)

pub flat_same : {A B : Type 0} (f g : A → List B) (xs : List A) → ((x : A) → In x xs → f x ≡ g x) → flat_map f xs ≡ flat_map g xs
flat_same f g [] same = refl
flat_same f g (x ∷ xs) same =
    let here = same x (inl refl) in
    let rest = flat_same f g xs (λ y i. same y (inr i)) in
    λ i. here i ++ rest i

module _ {A : Type 0} (p : A → Bool) where
  pub all_kept : (xs : List A) → ((x : A) → In x xs → p x ≡ true) → filter p xs ≡ xs
  all_kept [] all = refl
  all_kept (x ∷ xs) all = ap (λ (b : Bool). cond b (x ∷ filter p xs) (filter p xs)) (all x (inl refl)) ∙ ap (λ (zs : List A). x ∷ zs) (all_kept xs (λ y i. all y (inr i)))

  pub none_kept : (xs : List A) → ((x : A) → In x xs → p x ≡ false) → filter p xs ≡ []
  none_kept [] none = refl
  none_kept (x ∷ xs) none = ap (λ (b : Bool). cond b (x ∷ filter p xs) (filter p xs)) (none x (inl refl)) ∙ none_kept xs (λ y i. none y (inr i))
