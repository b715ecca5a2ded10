-- One pass delivers all that is in flight, in order.
use Rattle.std.proofs.Common.{◌≡◌, ℕ, List, [], ◌∷◌, ◌++◌, length, Bool, Some, sym, refl, ◌∙◌, ap, append_assoc, append-nil}
use Rattle.std.specs.Prelude.{slice_get, map as each}
use Rattle.std.specs.List.{remove, repeat}
use Rattle.calm_rounds.specs.Machine.{run, all_sent, all_arrived, items_of}
use Rattle.network_model.specs.Events.{pass}
use Rattle.network_model.specs.Steps.{Step, Deliver, sent, step, machine}
use Rattle.network_model.specs.Worlds.{Item, World}

abbrev pub items : List (Item × Bool) → List Item
items xs = each (λ x. x.0) xs

items-append : (xs ys : List (Item × Bool)) → items (xs ++ ys) ≡ items xs ++ items ys
items-append [] ys = refl
items-append (x ∷ xs) ys = ap (λ zs. x.0 ∷ zs) (items-append xs ys)

module _ (q : ℕ) where
  abbrev pub deliveries : ℕ → List Step
  deliveries n = repeat n (Deliver 0 ∷ [])

  -- all that stands in front is delivered, in order, and what is sent stands behind the rest
  pass_all : (xs ys : List Item) (w : World) → w.flight ≡ xs ++ ys
      → (all_arrived (machine q) (deliveries (length xs)) w ≡ xs) × ((run (machine q) (deliveries (length xs)) w).flight ≡ ys ++ items (all_sent (machine q) (deliveries (length xs)) w))
  pass_all [] ys w e = (refl, e ∙ sym (append-nil ys))
  pass_all (x ∷ xs) ys w e =
      let s : List Item = items (sent q (Deliver 0) w) in
      let now : List (Item × Bool) = sent q (Deliver 0) w in
      let later : List (Item × Bool) = all_sent (machine q) (deliveries (length xs)) (step q (Deliver 0) w) in
      let front : remove w.flight 0 ≡ xs ++ ys = ap (λ zs. remove zs 0) e in
      let one : slice_get w.flight 0 ≡ Some x = ap (λ zs. slice_get zs 0) e in
      let next = pass_all xs (ys ++ s) (step q (Deliver 0) w) (ap (λ zs. zs ++ s) front ∙ append_assoc xs ys s) in (
        ap (λ o. items_of o ++ all_arrived (machine q) (deliveries (length xs)) (step q (Deliver 0) w)) one ∙ ap (λ zs. x ∷ zs) next.0,
        next.1 ∙ append_assoc ys s (items later) ∙ ap (λ zs. ys ++ zs) (sym (items-append now later)),
      )

  -- one pass delivers all that was in flight, in order, and what is in flight after it was sent in it
  pub pass_arrives : (w : World) → all_arrived (machine q) (pass q w) w ≡ w.flight
  pass_arrives w = (pass_all w.flight [] w (sym (append-nil w.flight))).0

  pub pass_leaves : (w : World) → (run (machine q) (pass q w) w).flight ≡ items (all_sent (machine q) (pass q w) w)
  pass_leaves w = (pass_all w.flight [] w (sym (append-nil w.flight))).1
