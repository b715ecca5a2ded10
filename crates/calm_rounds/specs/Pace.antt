-- How fast refreshes follow one another, and soft state that lives until the third of them.
use Rattle.std.specs.Prelude.{◌≡◌, ℕ, ◌+◌, ◌*◌, ◌≤◌, true, Some, ◌⊎◌}
use Rattle.calm_rounds.specs.Machine.{Machine}
use Rattle.calm_rounds.specs.SoftStates.{SoftState}

module _ {W S I K V : Type 0} (m : Machine W S I K) (l : SoftState W S I K V) where
  -- by quiet steps between sane worlds: the moment of the next refresh stays; or the sending node refreshes once it is reached, and
  -- the refresh behind it is due within 6 quarters of a period of it
  pub record PaceLaws : Type 0 where
    pub pace : (s : S) (u : W) (t t' : ℕ) → m.quiet s ≡ true → l.sane u → l.sane (m.step s u) → l.due u ≡ Some t → l.due (m.step s u) ≡ Some t'
        → (t' ≡ t) ⊎ (l.fires s u × (t ≤ m.clock (m.step s u)) × (t' ≤ t + 6 * m.quarter))

  -- the value is kept, and lives until the third refresh from now on may arrive: at most two times 1.5 periods after the next one is
  -- due, and 0.75 periods later
  pub record Lasts (v : V) (u : W) : Type 0 where
    pub dies : ℕ
    pub kept : l.kept u ≡ Some (v, dies)
    pub moment : ℕ
    pub due : l.due u ≡ Some moment
    pub long : moment + 15 * m.quarter ≤ dies
