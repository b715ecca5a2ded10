-- Members and places of lists.
use Rattle.std.proofs.Common.{ℕ, zero, suc, List, [], ◌∷◌, inr, ⊎_elim, take, drop}
use Rattle.std.specs.List.{remove}
use Rattle.rsvp_base.proofs.Fronts.{in_front}
use Rattle.rsvp_base.specs.Members.{In}
use Rattle.rsvp_base.proofs.Members.{in_append}

pub in_drop : {A : Type 0} (x : A) (k : ℕ) (xs : List A) → In x (drop k xs) → In x xs
in_drop x zero xs i = i
in_drop x (suc k) [] i = absurd i
in_drop x (suc k) (y ∷ ys) i = inr (in_drop x k ys i)

pub in_remove : {A : Type 0} (x : A) (k : ℕ) (xs : List A) → In x (remove xs k) → In x xs
in_remove x k xs i = ⊎_elim (λ (j : In x (take k xs)). in_front x k xs j) (λ (j : In x (drop (suc k) xs)). in_drop x (suc k) xs j) (in_append x (take k xs) (drop (suc k) xs) i)
