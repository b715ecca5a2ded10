-- Texts put together from three.
use Rattle.std.specs.Prelude.{◌≡◌, ℕ, List, ◌++◌, Result, Ok, Err, OnOk}
use Rattle.std.proofs.Common.{sym, ap, ◌∙◌, append_assoc}

pub then_ok : {E : Type 0} (r : Result (Unit {0}) E) {P Q : Type 0} → (P → Q) → OnOk r P → OnOk r Q
then_ok (Ok u) f p = f p
then_ok (Err e) f p = tt

pub joined : (old a b c : List ℕ) → ((old ++ a) ++ b) ++ c ≡ old ++ ((a ++ b) ++ c)
joined old a b c = ap (λ (x : List ℕ). x ++ c) (append_assoc old a b) ∙ append_assoc old (a ++ b) c
