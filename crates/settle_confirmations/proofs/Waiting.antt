-- Something happens within so many passes where an item is on its way to it: each pass takes one off what it has to come.
use Rattle.std.proofs.Common.{◌≡◌, ℕ, zero, suc, List, [], ◌∷◌, ◌++◌, length, Bool, Some, ◌⊎◌, inl, inr, ⊎_elim, sym, refl, ap, subst, ◌∙◌}
use Rattle.std.specs.Prelude.{slice_get, take, map as each}
use Rattle.std.specs.List.{remove, repeat}
use Rattle.rsvp_base.specs.Members.{In}
use Rattle.rsvp_base.proofs.Members.{in_left}
use Rattle.calm_rounds.specs.Machine.{Happens, run}
use Rattle.network_model.specs.Events.{pass, passes}
use Rattle.network_model.specs.Steps.{Deliver, Step, machine, rest, sent, step}
use Rattle.network_model.specs.Worlds.{Item, World}
use Rattle.settle_passes.proofs.Deliveries.{now_or_later}
use Rattle.settle_passes.proofs.Spreading.{in_take}

-- ---- lists
all_taken : {A : Type 0} (xs : List A) (x : A) → In x xs → In x (take (length xs) xs)
all_taken [] x i = absurd i
all_taken (y ∷ ys) x i = ⊎_elim (λ (e : x ≡ y). inl e) (λ (j : In x ys). inr (all_taken ys x j)) i

module _ (q : ℕ) (F : Step → World → Type 0) where
  pub happens_first : (ss ts : List Step) (w : World) → Happens (machine q) F ss w → Happens (machine q) F (ss ++ ts) w
  happens_first [] ts w h = absurd h
  happens_first (s ∷ ss) ts w h = ⊎_elim (λ (now : F s w). inl now) (λ (later : Happens (machine q) F ss (step q s w)). inr (happens_first ss ts (step q s w) later)) h

  pub happens_then : (ss ts : List Step) (w : World) → Happens (machine q) F ts (run (machine q) ss w) → Happens (machine q) F (ss ++ ts) w
  happens_then [] ts w h = h
  happens_then (s ∷ ss) ts w h = inr (happens_then ss ts (step q s w) h)

pub happens_so : (q : ℕ) (F G : Step → World → Type 0) → ((t : Step) (w : World) → F t w → G t w) → (ss : List Step) (w : World) → Happens (machine q) F ss w → Happens (machine q) G ss w
happens_so q F G so [] w h = absurd h
happens_so q F G so (s ∷ ss) w h = ⊎_elim (λ (now : F s w). inl (so s w now)) (λ (later : Happens (machine q) F ss (step q s w)). inr (happens_so q F G so ss (step q s w) later)) h

-- ---- an item with so many passes to come at most, in worlds of which something holds that deliveries keep: when it is delivered it happens,
-- or something is in flight that has one less to come
module _ (q : ℕ) (F : Step → World → Type 0) (Holds : World → Type 0) (keeps : (u : World) → Holds u → Holds (step q (Deliver 0) u)) (IsUnder : ℕ → World → Item → Type 0)
    (not_over : (u : World) → Holds u → (y : Item) → IsUnder 0 u y → ⊥) (less : (k : ℕ) (u : World) (y : Item) → IsUnder k u y → IsUnder (suc k) u y)
    (stays_under : (u : World) → Holds u → (k : ℕ) (y : Item) → IsUnder k u y → IsUnder k (step q (Deliver 0) u) y)
    (moves : (u : World) → Holds u → (k : ℕ) (y : Item) → slice_get u.flight 0 ≡ Some y → IsUnder (suc k) u y
    → F (Deliver 0) u ⊎ ((z : Item) × In z (step q (Deliver 0) u).flight × IsUnder k (step q (Deliver 0) u) z)) where
  abbrev deliveries : ℕ → List Step
  deliveries m = repeat m (Deliver 0 ∷ [])

  abbrev After : ℕ → World → World
  After m u = run (machine q) (deliveries m) u

  abbrev IsOnItsWay : ℕ → World → Type 0
  IsOnItsWay k u = (y : Item) × In y u.flight × IsUnder k u y

  delivery : (u : World) → Holds u → (k : ℕ) → IsOnItsWay k u → F (Deliver 0) u ⊎ IsOnItsWay k (step q (Deliver 0) u)
  delivery u h k z =
      ⊎_elim (λ (now : slice_get u.flight 0 ≡ Some z.0). by k z.2 now)
      (λ (later : In z.0 (remove u.flight 0)).
      inr (z.0, in_left z.0 (rest (Deliver 0) u) (each (λ (w : Item × Bool). w.0) (sent q (Deliver 0) u)) later, stays_under u h k z.0 z.2))
      (now_or_later z.0 0 u.flight z.1)
    where
      by : (k : ℕ) → IsUnder k u z.0 → slice_get u.flight 0 ≡ Some z.0 → F (Deliver 0) u ⊎ IsOnItsWay k (step q (Deliver 0) u)
      by zero under now = absurd (not_over u h z.0 under)
      by (suc k) under now =
          ⊎_elim (λ (t : F (Deliver 0) u). inl t) (λ (t : IsOnItsWay k (step q (Deliver 0) u)). inr (t.0, t.1, less k (step q (Deliver 0) u) t.0 t.2)) (moves u h k z.0 now under)

  holds_on : (m : ℕ) (u : World) → Holds u → Holds (After m u)
  holds_on zero u h = h
  holds_on (suc m) u h = holds_on m (step q (Deliver 0) u) (keeps u h)

  way_on : (m k : ℕ) (u : World) → Holds u → IsOnItsWay k u → Happens (machine q) F (deliveries m) u ⊎ IsOnItsWay k (After m u)
  way_on zero k u h z = inr z
  way_on (suc m) k u h z =
      ⊎_elim (λ (t : F (Deliver 0) u). inl (inl t))
      (λ (t : IsOnItsWay k (step q (Deliver 0) u)).
      ⊎_elim (λ (o : Happens (machine q) F (deliveries m) (step q (Deliver 0) u)). inl (inr o)) (λ (w : IsOnItsWay k (After m (step q (Deliver 0) u))). inr w)
      (way_on m k (step q (Deliver 0) u) (keeps u h) t))
      (delivery u h k z)

  -- what is among the first so many has a pass less to come when these are delivered
  front_on : (m k : ℕ) (u : World) → Holds u → (y : Item) → In y (take m u.flight) → IsUnder (suc k) u y → Happens (machine q) F (deliveries m) u ⊎ IsOnItsWay k (After m u)
  front_on zero k u h y i z = absurd i
  front_on (suc m) k u h y i z = by u.flight refl i (λ j. front_on m k (step q (Deliver 0) u) (keeps u h) y j (stays_under u h (suc k) y z))
    where
      by : (ys : List Item) → u.flight ≡ ys → In y (take (suc m) ys)
          → (In y (take m (step q (Deliver 0) u).flight) → Happens (machine q) F (deliveries m) (step q (Deliver 0) u) ⊎ IsOnItsWay k (After m (step q (Deliver 0) u)))
          → Happens (machine q) F (deliveries (suc m)) u ⊎ IsOnItsWay k (After (suc m) u)
      by [] is j more = absurd j
      by (w ∷ ys) is j more =
          ⊎_elim
          (λ (now : y ≡ w).
          let at : slice_get u.flight 0 ≡ Some y = ap (λ (zs : List Item). slice_get zs 0) is ∙ ap Some (sym now) in
          ⊎_elim (λ (t : F (Deliver 0) u). inl (inl t))
          (λ (t : IsOnItsWay k (step q (Deliver 0) u)).
          ⊎_elim (λ (p : Happens (machine q) F (deliveries m) (step q (Deliver 0) u)). inl (inr p)) (λ (o : IsOnItsWay k (After m (step q (Deliver 0) u))). inr o)
          (way_on m k (step q (Deliver 0) u) (keeps u h) t))
          (moves u h k y at z))
          (λ (later : In y (take m ys)).
          let new : List Item = each (λ (o : Item × Bool). o.0) (sent q (Deliver 0) u) in
          let flight : ys ++ new ≡ (step q (Deliver 0) u).flight = ap (λ (zs : List Item). remove zs 0 ++ new) (sym is) in
          ⊎_elim (λ (p : Happens (machine q) F (deliveries m) (step q (Deliver 0) u)). inl (inr p)) (λ (o : IsOnItsWay k (After m (step q (Deliver 0) u))). inr o)
          (more (subst (λ (zs : List Item). In y (take m zs)) flight (in_take y m ys new later)))) j

  pub happens_in : (k : ℕ) (u : World) → Holds u → IsOnItsWay k u → Happens (machine q) F (passes q k u) u
  happens_in zero u h z = absurd (not_over u h z.0 z.2)
  happens_in (suc k) u h z =
      let m : ℕ = length u.flight in
      ⊎_elim (λ (p : Happens (machine q) F (pass q u) u). happens_first q F (pass q u) (passes q k (After m u)) u p)
      (λ (o : IsOnItsWay k (After m u)). happens_then q F (pass q u) (passes q k (After m u)) u (happens_in k (After m u) (holds_on m u h) o))
      (front_on m k u h z.0 (all_taken u.flight z.0 z.1) z.2)
