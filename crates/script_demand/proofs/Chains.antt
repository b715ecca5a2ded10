-- Texts that are appended one behind the other.
use Rattle.std.specs.Prelude.{◌≡◌, ℕ, List, ◌++◌, Result, Ok, Err, OnOk}
use Rattle.std.proofs.Common.{ap, ◌∙◌, append_assoc}
use Rattle.rsvp_base.specs.declared.room.NoMemory.{NoMemory}

pub more : (old mid new t u : List ℕ) → mid ≡ old ++ t → new ≡ mid ++ u → new ≡ old ++ (t ++ u)
more old mid new t u first then = then ∙ ap (λ xs. xs ++ u) first ∙ append_assoc old t u

pub last : (r : Result (Unit {0}) NoMemory) (old mid new t u : List ℕ) → mid ≡ old ++ t → OnOk r (new ≡ mid ++ u) → OnOk r (new ≡ old ++ (t ++ u))
last (Ok x) old mid new t u first then = more old mid new t u first then
last (Err e) old mid new t u first then = tt
