-- Chains: lists in which each is followed by the next; of any things, by what may follow each.
use Rattle.std.specs.Prelude.{ℕ, List, [], ◌∷◌, map as each, max}
use Rattle.std.proofs.Common.{zero, suc}
use Rattle.rsvp_base.specs.Members.{In}

abbrev pub last_of : {A : Type 0} → A → List A → A
last_of x [] = x
last_of x (y ∷ ys) = last_of y ys

abbrev pub largest : List ℕ → ℕ
largest [] = 0
largest (x ∷ xs) = max x (largest xs)

abbrev pub NoRepeats : {A : Type 0} → List A → Type 0
NoRepeats [] = Unit {0}
NoRepeats (x ∷ xs) = (In x xs → ⊥) × NoRepeats xs

module _ {A : Type 0} (follow : A → List A) (all : List A) where
  abbrev pub Chain : List A → Type 0
  Chain [] = Unit {0}
  Chain (h ∷ []) = In h all
  Chain (h ∷ h' ∷ hs) = In h all × In h' (follow h) × Chain (h' ∷ hs)

  -- a chain whose last is followed by its first
  abbrev pub Closed : A → List A → Type 0
  Closed h c = Chain (h ∷ c) × In h (follow (last_of h c))

  -- no chain is closed
  abbrev pub HasNoLoop : Type 0
  HasNoLoop = (h : A) (c : List A) → Closed h c → ⊥

  -- one that stands on a closed chain
  pub record StandsOnLoop (x : A) : Type 0 where
    pub head : A
    pub rest : List A
    pub closed : Closed head rest
    pub there : In x (head ∷ rest)

-- how long a chain from here is, of at most so many
abbrev pub height : {A : Type 0} → (A → List A) → ℕ → A → ℕ
height follow zero h = 0
height follow (suc n) h = suc (largest (each (λ h'. height follow n h') (follow h)))
