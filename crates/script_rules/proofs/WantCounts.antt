-- The wants of a session at a node, taken for themselves: a line changes them as it changes them among all others.
use Rattle.std.specs.Prelude.{◌≡◌, ℕ, ◌++◌, ◌∷◌, [], List, Bool, true, false, cond, not}
use Rattle.std.specs.List.{filter}
use Rattle.std.proofs.Common.{ap, sym, refl, ◌∙◌}
use Rattle.std.proofs.lemmas.List.Elements.{filter-append}
use Rattle.rsvp_base.specs.declared.session.Session.{Session}
use Rattle.tree_model.specs.declared.locals.LocalWant.{LocalWant}
use Rattle.script_grammar.specs.Adds.{is_in_place_of, is_want_at, wants_at, with_want, with_wants}

-- ---- one passes a test, or does not
module _ {A : Type 0} where
  passes : (p : A → Bool) (x : A) (xs : List A) → p x ≡ true → filter p (x ∷ xs) ≡ x ∷ filter p xs
  passes p x xs e = ap (λ (b : Bool). cond b (x ∷ filter p xs) (filter p xs)) e

  fails : (p : A → Bool) (x : A) (xs : List A) → p x ≡ false → filter p (x ∷ xs) ≡ filter p xs
  fails p x xs e = ap (λ (b : Bool). cond b (x ∷ filter p xs) (filter p xs)) e

  -- ---- a test twice, and two tests in either order
  filter_twice : (p : A → Bool) (xs : List A) → filter p (filter p xs) ≡ filter p xs
  filter_twice p [] = refl
  filter_twice p (x ∷ xs) = by (p x) refl (filter_twice p xs)
    where
      by : (b : Bool) → p x ≡ b → filter p (filter p xs) ≡ filter p xs → filter p (cond b (x ∷ filter p xs) (filter p xs)) ≡ cond b (x ∷ filter p xs) (filter p xs)
      by true e rest = passes p x (filter p xs) e ∙ ap (λ (ys : List A). x ∷ ys) rest
      by false e rest = rest

  filter_swap : (p q : A → Bool) (xs : List A) → filter p (filter q xs) ≡ filter q (filter p xs)
  filter_swap p q [] = refl
  filter_swap p q (x ∷ xs) = by (p x) (q x) refl refl (filter_swap p q xs)
    where
      by : (a b : Bool) → p x ≡ a → q x ≡ b → filter p (filter q xs) ≡ filter q (filter p xs)
          → filter p (cond b (x ∷ filter q xs) (filter q xs)) ≡ filter q (cond a (x ∷ filter p xs) (filter p xs))
      by true true e f rest = passes p x (filter q xs) e ∙ ap (λ (ys : List A). x ∷ ys) rest ∙ sym (passes q x (filter p xs) f)
      by true false e f rest = rest ∙ sym (fails q x (filter p xs) f)
      by false true e f rest = fails p x (filter q xs) e ∙ rest
      by false false e f rest = rest

-- ---- wants of the session at the node
module _ (node : ℕ) (s : Session) where
  with_same : (new : LocalWant) (a b : List LocalWant) → wants_at a node s ≡ wants_at b node s → wants_at (with_want a new) node s ≡ wants_at (with_want b new) node s
  with_same new a b same =
      let at : LocalWant → Bool = is_want_at node s in
      let stays : LocalWant → Bool = λ w. not (is_in_place_of new w) in
      let kept = filter_swap at stays a ∙ ap (filter stays) same ∙ sym (filter_swap at stays b) in
      filter-append at (filter stays a) (new ∷ []) ∙ ap (λ (ws : List LocalWant). ws ++ filter at (new ∷ [])) kept ∙ sym (filter-append at (filter stays b) (new ∷ []))

  all_same : (news a b : List LocalWant) → wants_at a node s ≡ wants_at b node s → wants_at (with_wants a news) node s ≡ wants_at (with_wants b news) node s
  all_same [] a b same = same
  all_same (new ∷ news) a b same = all_same news (with_want a new) (with_want b new) (with_same new a b same)

  pub same_apart : (news ws : List LocalWant) → wants_at (with_wants (wants_at ws node s) news) node s ≡ wants_at (with_wants ws news) node s
  same_apart news ws = all_same news (wants_at ws node s) ws (filter_twice (is_want_at node s) ws)
