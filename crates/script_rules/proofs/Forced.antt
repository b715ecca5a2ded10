-- The routing in force.
use Rattle.std.specs.Prelude.{◌≡◌, ℕ, ◌++◌, ◌∷◌, [], List, map as each, Option, None, Some, Result, Ok, Err, IsNone, OnErr, OnOk}
use Rattle.std.specs.Option.{ForSome}
use Rattle.std.proofs.Common.{ap, refl}
use Rattle.tree_model.specs.declared.hops.TreeHop.{TreeHop}
use Rattle.tree_model.specs.Networks.{Net}
use Rattle.tree_routing.specs.Answers.{with_link}
use Rattle.script_rules.specs.Forcing.{hops_in_force}

-- ---- before anything happened
pub nothing_forced : {A : Type 0} (P : A → Type 0) (o : Option A) → IsNone o → ForSome o P
nothing_forced P None none x is = absurd (let no : None ≡ Some x = is in cc)
nothing_forced P (Some y) none x is = absurd (cc)

-- ---- something happened
pub some_happened : {A B : Type 0} (f : A → B) (xs : List A) (x : A) → each f (xs ++ x ∷ []) ≡ [] → ⊥
some_happened f [] x e = cc
some_happened f (y ∷ ys) x e = cc

-- ---- a hop more
pub forced_hops : (o : Option Net) → IsNone o → (hops : List TreeHop) (h : TreeHop) → hops_in_force o (hops ++ h ∷ []) ≡ hops_in_force o hops ++ h ∷ []
forced_hops None none hops h = refl
forced_hops (Some routing) none hops h = absurd (cc)

-- ---- a link more, or none
pub ends_kept : {A E : Type 0} (r : Result A E) (old new : Net) (es : List ℕ) → OnOk r (new ≡ with_link old es) → OnErr r (new ≡ old) → new.ends ≡ old.ends
ends_kept (Ok a) old new es ok err = ap (λ (net : Net). net.ends) ok
ends_kept (Err x) old new es ok err = ap (λ (net : Net). net.ends) err
