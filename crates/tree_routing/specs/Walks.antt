-- Walks: of any things, by which step may follow; and along the edges of a topology's graph.
use Rattle.std.specs.Prelude.{◌≡◌, ℕ, List, [], ◌∷◌, Some}
use Rattle.rsvp_base.specs.Members.{In}
use Rattle.tree_model.specs.Chains.{last_of}
use Rattle.tree_routing.specs.declared.known.Known.{Known}

-- each is a step from the one before
abbrev pub Steps : {A : Type 0} → (A → A → Type 0) → A → List A → Type 0
Steps S a [] = Unit {0}
Steps S a (b ∷ bs) = S a b × Steps S b bs

-- steps lead from the one to the other
pub record Walk {A : Type 0} (S : A → A → Type 0) (a b : A) : Type 0 where
  pub path : List A
  pub steps : Steps S a path
  pub ends : last_of a path ≡ b

-- the vertex b stands for a hop that comes behind that of the vertex a in a tree
pub record Edge (ks : List Known) (a b : ℕ) : Type 0 where
  pub known : Known
  pub among : In known ks
  pub before : known.before ≡ Some a
  pub vertex : known.vertex ≡ b

-- a walk from vertex to vertex
abbrev pub Leads : List Known → ℕ → ℕ → Type 0
Leads ks a b = Walk (Edge ks) a b
