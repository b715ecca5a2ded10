-- Calm rounds: stretches of quiet steps in which a refresh comes due and crosses each track that serves something.
use Rattle.std.specs.Prelude.{◌≡◌, ◌*◌, ◌≤◌, List, [], ◌∷◌, true, Some}
use Rattle.rsvp_base.specs.Members.{In}
use Rattle.calm_rounds.specs.Machine.{Machine, run, waits, all_sent, all_arrived, Fresh}

module _ {W S I K : Type 0} (m : Machine W S I K) where
  abbrev pub AreQuiet : List S → Type 0
  AreQuiet [] = Unit {0}
  AreQuiet (s ∷ ss) = (m.quiet s ≡ true) × AreQuiet ss

  -- on each track that serves something and on which a refresh is sent, a refresh that is sent arrives
  abbrev pub Crossed : List S → W → Type 0
  Crossed ss w =
      (x : I) (t : K) → In (x, true) (all_sent m ss w) → m.track x ≡ Some t → m.serves w t ≡ true
      → (y : I) × In (y, true) (all_sent m ss w) × (m.track y ≡ m.track x) × In y (all_arrived m ss w)

  -- a calm round waits 1.5 to 2.5 refresh periods, and leaves nothing in flight that is older than itself
  pub record Calm (ss : List S) (w : W) : Type 0 where
    pub silent : AreQuiet ss
    pub long : 6 * m.quarter ≤ waits m ss
    pub short : waits m ss ≤ 10 * m.quarter
    pub flushed : Fresh m (m.made w) (run m ss w)
    pub crossed : Crossed ss w

  -- calm rounds, one after another
  abbrev pub Rounds : List (List S) → W → Type 0
  Rounds [] w = Unit {0}
  Rounds (r ∷ rs) w = Calm r w × Rounds rs (run m r w)

  -- the world after the rounds
  abbrev pub run_rounds : List (List S) → W → W
  run_rounds [] w = w
  run_rounds (r ∷ rs) w = run_rounds rs (run m r w)
