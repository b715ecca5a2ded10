-- Four calm rounds make a window.
use Rattle.std.proofs.Common.{◌≡◌, ◌+◌, List, [], ◌∷◌, ◌++◌, arith, sym, refl, ◌∙◌, subst}
use Rattle.calm_rounds.specs.Machine.{Machine, run, waits, Fresh, IsStamped}
use Rattle.calm_rounds.specs.Rounds.{Rounds}
use Rattle.calm_rounds.proofs.Holding.{hold_start, hold_flush}
use Rattle.calm_rounds.specs.Windows.{four_by_four, Windows}
use Rattle.calm_rounds.proofs.Windows.{quiet_append}

module _ {W S I K : Type 0} (m : Machine W S I K) where
  run_append : (fs bs : List S) (w : W) → run m (fs ++ bs) w ≡ run m bs (run m fs w)
  run_append [] bs w = refl
  run_append (f ∷ fs) bs w = run_append fs bs (m.step f w)

  waits_append : (fs bs : List S) → waits m (fs ++ bs) ≡ waits m fs + waits m bs
  waits_append [] bs = omega arith
  waits_append (f ∷ fs) bs = let later = waits_append fs bs in omega (arith, later)

  pub rounds_make_windows : IsStamped m → (rs : List (List S)) (w : W) → Rounds m rs w → Windows m (four_by_four rs) w
  rounds_make_windows stamps [] w calm = tt
  rounds_make_windows stamps (a ∷ []) w calm = tt
  rounds_make_windows stamps (a ∷ b ∷ []) w calm = tt
  rounds_make_windows stamps (a ∷ b ∷ c ∷ []) w calm = tt
  rounds_make_windows stamps (a ∷ b ∷ c ∷ d ∷ rs) w calm =
      let end : W = run m d (run m c (run m b (run m a w))) in
      let same : run m (a ++ (b ++ (c ++ d))) w ≡ end = run_append a (b ++ (c ++ d)) w ∙ run_append b (c ++ d) (run m a w) ∙ run_append c d (run m b (run m a w)) in
      let fresh = hold_start m (Fresh m (m.made w)) rs end (hold_flush m stamps (a ∷ b ∷ c ∷ d ∷ rs) w calm).1.1.1 in
      let ab = waits_append a (b ++ (c ++ d)) in
      let bc = waits_append b (c ++ d) in
      let cd = waits_append c d in (
        record {
          silent = quiet_append m a (b ++ (c ++ d)) calm.0.silent (quiet_append m b (c ++ d) calm.1.0.silent (quiet_append m c d calm.1.1.0.silent calm.1.1.1.0.silent));
          long = omega (arith, ab, bc, cd, calm.0.long, calm.1.0.long, calm.1.1.0.long, calm.1.1.1.0.long);
          flushed = subst (Fresh m (m.made w)) (sym same) fresh;
        },
        subst (Windows m (four_by_four rs)) (sym same) (rounds_make_windows stamps rs end calm.1.1.1.1),
      )
