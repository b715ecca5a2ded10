-- Soft state: one key at one hop. What is kept under it, which items speak of it, and when its next refresh is due.
use Rattle.std.specs.Prelude.{◌≡◌, ℕ, ◌+◌, ◌*◌, ◌≤◌, ◌<◌, Bool, true, false, Option, Some, ◌⊎◌}
use Rattle.rsvp_base.specs.Members.{In}
use Rattle.calm_rounds.specs.Machine.{Machine}

-- what is read of soft state whose values are V
pub record SoftState (W S I K V : Type 0) : Type 1 where
  -- what is known of each world
  pub sane : W → Type 0
  -- the value that is kept, and the moment at which it dies
  pub kept : W → Option (V × ℕ)
  -- the item sets this value where it arrives
  pub says : I → V → Type 0
  -- the item can touch what is kept
  pub letter : I → Bool
  -- how long the value lives that the item sets, in milliseconds
  pub life : I → ℕ
  -- the first value is a cut of the second
  pub below : V → V → Type 0
  -- the moment at which the sending node refreshes next
  pub due : W → Option ℕ
  -- the step makes the sending node refresh
  pub fires : S → W → Type 0
  pub track : Option K

-- each cut of a value with P has P
abbrev pub IsClosed : {V : Type 0} → (V → V → Type 0) → (V → Type 0) → Type 0
IsClosed {V} below P = (v v0 : V) → below v v0 → P v0 → P v

module _ {W S I K V : Type 0} (m : Machine W S I K) (l : SoftState W S I K V) where
  -- how what is kept comes and goes, by quiet steps between sane worlds
  pub record KeepLaws : Type 0 where
    -- what is kept is a cut of what was kept and dies when that would, or is a cut of what an item says that arrives
    pub set : (s : S) (u : W) (v : V) (d : ℕ) → m.quiet s ≡ true → l.sane u → l.sane (m.step s u) → l.kept (m.step s u) ≡ Some (v, d)
        → ((v0 : V) × (l.kept u ≡ Some (v0, d)) × l.below v v0)
        ⊎ ((x : I) × (v0 : V) × (m.arrived s u ≡ Some x) × l.says x v0 × l.below v v0)
    -- what is kept lives, for 21 quarters of a period at most
    pub room : (u : W) (v : V) (d : ℕ) → l.sane u → l.kept u ≡ Some (v, d) → (m.clock u < d) × (d ≤ m.clock u + 21 * m.quarter)

  -- when the sending node refreshes, by quiet steps between sane worlds
  pub record DueLaws : Type 0 where
    -- the moment of the next refresh moves only by a refresh
    pub moved : (s : S) (u : W) (t t' : ℕ) → m.quiet s ≡ true → l.sane u → l.sane (m.step s u) → l.due u ≡ Some t → l.due (m.step s u) ≡ Some t' → (t' ≡ t) ⊎ l.fires s u
    -- the next refresh is due within 6 quarters of a period
    pub due_room : (u : W) (t : ℕ) → l.sane u → l.due u ≡ Some t → (m.clock u < t) × (t ≤ m.clock u + 6 * m.quarter)

  -- each item in flight that was sent from step n on says only what has P
  abbrev pub SaysOnly : (V → Type 0) → ℕ → W → Type 0
  SaysOnly P n u = (x : I) (v : V) → In x (m.flight u) → n ≤ m.born x → l.says x v → P v

  -- what is kept has P
  abbrev pub KeepsOnly : (V → Type 0) → W → Type 0
  KeepsOnly P u = (v : V) (d : ℕ) → l.kept u ≡ Some (v, d) → P v

  -- the value is kept
  abbrev pub Stands : V → W → Type 0
  Stands v u = (d : ℕ) × (l.kept u ≡ Some (v, d))

  -- the world is good for the value, with what was sent from step n on
  pub record Good (v : V) (n : ℕ) (u : W) : Type 0 where
    pub sane : l.sane u
    -- all letters say the value, for a full lifetime; none takes it away
    pub letters : (x : I) → In x (m.flight u) → n ≤ m.born x → l.letter x ≡ true → l.says x v × (l.life x ≡ 21 * m.quarter)
    -- what says the value and arrives is taken, whole
    pub takes : (s : S) (x : I) → m.quiet s ≡ true → m.arrived s u ≡ Some x → l.says x v → l.life x ≡ 21 * m.quarter → l.kept (m.step s u) ≡ Some (v, m.clock u + 21 * m.quarter)
    -- the sending node has a moment for its next refresh
    pub counts : (t : ℕ) × (l.due u ≡ Some t)
    -- and the track serves something
    pub serves : (k : K) × (l.track ≡ Some k) × (m.serves u k ≡ true)

  -- how quiet steps go between worlds that are good for the value
  pub record Moves (v : V) (n : ℕ) : Type 0 where
    -- where no letter arrives and the value is not due to die, it stays
    pub rests : (s : S) (u : W) (d : ℕ) → m.quiet s ≡ true → Good v n u → Good v n (m.step s u)
        → ((x : I) → m.arrived s u ≡ Some x → l.letter x ≡ false) → l.kept u ≡ Some (v, d) → m.clock (m.step s u) < d → l.kept (m.step s u) ≡ Some (v, d)
    -- where the sending node refreshes, it sends a refresh on the track
    pub calls : (s : S) (u : W) → m.quiet s ≡ true → Good v n u → Good v n (m.step s u) → l.fires s u → (x : I) × In (x, true) (m.sent s u) × (m.track x ≡ l.track)
    -- a refresh that is sent on the track is a letter
    pub tracks : (s : S) (u : W) (x : I) → m.quiet s ≡ true → Good v n u → Good v n (m.step s u) → In (x, true) (m.sent s u) → m.track x ≡ l.track → l.letter x ≡ true
