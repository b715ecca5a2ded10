-- What holds of each element of a list holds of what is in it, and the other way round.
use Rattle.std.specs.Prelude.{List, [], ◌∷◌, refl}
use Rattle.std.specs.List.{All}
use Rattle.std.proofs.Common.{zero, suc, sym, subst, inl, inr, arith}
use Rattle.rsvp_base.specs.Members.{In}

pub all_in_of : {X : Type 0} (P : X → Type 0) (xs : List X) → All P xs → (x : X) → In x xs → P x
all_in_of P [] all x i = absurd i
all_in_of P (y ∷ ys) all x (inl e) = subst P (sym e) (all 0 x (omega arith))
all_in_of P (y ∷ ys) all x (inr i) = all_in_of P ys (λ k d lt. all (suc k) d (omega arith)) x i

pub in_all_of : {X : Type 0} (P : X → Type 0) (xs : List X) → ((x : X) → In x xs → P x) → All P xs
in_all_of P [] f k d lt = absurd (omega arith)
in_all_of P (y ∷ ys) f zero d lt = f y (inl refl)
in_all_of P (y ∷ ys) f (suc k) d lt = in_all_of P ys (λ x i. f x (inr i)) k d (omega arith)
