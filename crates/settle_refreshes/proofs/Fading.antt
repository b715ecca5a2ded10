-- What has fewer steps to go with each round is gone in time.
use Rattle.std.proofs.Common.{◌≡◌, ℕ, zero, suc, ◌+◌, ◌≤◌, List, Bool, true, ◌⊎◌, inl, inr, ⊎_elim, arith, subst}
use Rattle.rsvp_base.specs.Members.{In}
use Rattle.calm_rounds.specs.Hold.{Hold}
use Rattle.calm_rounds.specs.Machine.{Fresh}
use Rattle.calm_rounds.specs.Rounds.{Rounds}
use Rattle.calm_rounds.proofs.Holding.{hold_both, hold_flush, hold_keep, hold_later, hold_map, hold_stack, hold_start}
use Rattle.network_model.specs.Bounds.{AreBounds}
use Rattle.network_model.specs.Steps.{Step, is_quiet, machine, sent, step}
use Rattle.network_model.specs.Worlds.{Item, World}
use Rattle.network_model.proofs.Machines.{in_flight_after, items_are_numbered, quiet_of}

module _ (q : ℕ) (A : World → Type 0) (L : ℕ → Item → Type 0) where
  -- each item in flight that step b or a later one sent has j steps to go at most
  abbrev pub Are : ℕ → ℕ → World → Type 0
  Are j b u = (y : Item) → In y u.flight → b ≤ y.born → L j y

  -- what a quiet step sends, from a world of A to one, has fewer to go than anything in flight
  abbrev pub GoFewer : Type 0
  GoFewer = (j : ℕ) (s : Step) (u : World) → is_quiet s ≡ true → A u → A (step q s u) → Are (suc j) 0 u → (y : Item) (b : Bool) → In (y, b) (sent q s u) → L j y

  module _ (bounds : (u : World) → A u → AreBounds q u) (top : ℕ) (first : (u : World) → A u → Are top 0 u) (fewer : GoFewer) where
    kept : (j b : ℕ) (s : Step) (u : World) → is_quiet s ≡ true → A u → A (step q s u) → Are (suc j) 0 u → Are j b u → Are j b (step q s u)
    kept j b s u quiet a a' low k y i born =
        ⊎_elim (λ (old : In y u.flight). k y old born) (λ (new : (mark : Bool) × In (y, mark) (sent q s u)). fewer j s u quiet a a' low y new.0 new.1) (in_flight_after q s u y quiet i)

    one_round : (j : ℕ) (rs : List (List Step)) (w : World) → Rounds (machine q) rs w → Hold (machine q) 0 rs w (λ u. A u × Are (suc j) 0 u) → Hold (machine q) 1 rs w (Are j 0)
    one_round j rs w calm both =
        hold_map (machine q) (λ u. Are j w.made u × Fresh (machine q) w.made u) (Are j 0) (λ u h y i born. h.0 y i (h.1 y i)) 1 rs w
        (hold_both (machine q) (Are j w.made) (Fresh (machine q) w.made) 1 rs w
        (hold_later (machine q) (Are j w.made) 0 1 rs w (omega arith)
        (hold_keep (machine q) (λ u. A u × Are (suc j) 0 u) (Are j w.made) (λ s u quiet a a' k. kept j w.made s u (quiet_of q s quiet) a.0 a'.0 a.1 k) rs w calm both
        (λ y i born. let old = ((bounds w (hold_start (machine q) (λ u. A u × Are (suc j) 0 u) rs w both).0).flight y i).born in absurd (omega arith))))
        (hold_flush (machine q) (items_are_numbered q) rs w calm))

    pub fades : (d j : ℕ) → d + j ≡ top → (rs : List (List Step)) (w : World) → Rounds (machine q) rs w → Hold (machine q) 0 rs w A → Hold (machine q) d rs w (Are j 0)
    fades zero j e rs w calm a = let same : top ≡ j = omega (arith, e) in hold_map (machine q) A (Are j 0) (λ u h. subst (λ (z : ℕ). Are z 0 u) same (first u h)) 0 rs w a
    fades (suc d) j e rs w calm a =
        let n : d + 1 ≡ suc d = omega arith in
        rw (← n)
        (hold_stack (machine q) (λ u. A u × Are (suc j) 0 u) (Are j 0) 1 (one_round j) d rs w calm
        (hold_both (machine q) A (Are (suc j) 0) d rs w (hold_later (machine q) A 0 d rs w (omega arith) a) (fades d (suc j) (omega (arith, e)) rs w calm a)))

-- ---- what each step sends is so, so in a round all that is in flight is
module _ (q : ℕ) (A : World → Type 0) (G : Item → Type 0) (bounds : (u : World) → A u → AreBounds q u)
    (sends : (s : Step) (u : World) → is_quiet s ≡ true → A u → A (step q s u) → (y : Item) (b : Bool) → In (y, b) (sent q s u) → G y) where
  abbrev IsNot : ℕ → Item → Type 0
  IsNot j y = (1 ≤ j) ⊎ G y

  pub all_in_a_round : (rs : List (List Step)) (w : World) → Rounds (machine q) rs w → Hold (machine q) 0 rs w A → Hold (machine q) 1 rs w (λ u. (y : Item) → In y u.flight → G y)
  all_in_a_round rs w calm a =
      hold_map (machine q) (Are q A IsNot 0 0) (λ u. (y : Item) → In y u.flight → G y)
      (λ u h y i. ⊎_elim (λ (no : 1 ≤ 0). absurd (omega (arith, no))) (λ (g : G y). g) (h y i (omega arith))) 1 rs w
      (fades q A IsNot bounds 1 (λ u h y i born. inl (omega arith)) (λ j s u quiet x x' low y b i. inr (sends s u quiet x x' y b i)) 1 0 (omega arith) rs w calm a)
