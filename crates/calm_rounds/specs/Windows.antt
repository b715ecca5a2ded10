-- Windows: stretches of quiet steps as long as state lives, 5.25 refresh periods or longer. However long they are, and whatever is
-- lost in them.
use Rattle.std.specs.Prelude.{◌*◌, ◌≤◌, List, [], ◌∷◌, ◌++◌}
use Rattle.calm_rounds.specs.Machine.{Machine, run, waits, Fresh}
use Rattle.calm_rounds.specs.Rounds.{AreQuiet}

-- the steps of all windows, in order
abbrev pub joined : {S : Type 0} → List (List S) → List S
joined [] = []
joined (r ∷ rs) = r ++ joined rs

-- rounds, joined four by four; up to three at the end are left out
abbrev pub four_by_four : {S : Type 0} → List (List S) → List (List S)
four_by_four [] = []
four_by_four (a ∷ []) = []
four_by_four (a ∷ b ∷ []) = []
four_by_four (a ∷ b ∷ c ∷ []) = []
four_by_four (a ∷ b ∷ c ∷ d ∷ rs) = (a ++ (b ++ (c ++ d))) ∷ four_by_four rs

module _ {W S I K : Type 0} (m : Machine W S I K) where
  -- a window waits 5.25 refresh periods at least, and leaves nothing in flight that is older than itself
  pub record Window (ss : List S) (w : W) : Type 0 where
    pub silent : AreQuiet m ss
    pub long : 21 * m.quarter ≤ waits m ss
    pub flushed : Fresh m (m.made w) (run m ss w)

  -- windows, one after another
  abbrev pub Windows : List (List S) → W → Type 0
  Windows [] w = Unit {0}
  Windows (r ∷ rs) w = Window r w × Windows rs (run m r w)
