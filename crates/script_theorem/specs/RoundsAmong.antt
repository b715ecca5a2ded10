-- Rounds among lines that only write: they count together.
use Rattle.std.specs.Prelude.{◌≡◌, ℕ, ◌+◌, List, [], ◌∷◌, ◌++◌, length}
use Rattle.calm_rounds.specs.Rounds.{Rounds as CalmRounds}
use Rattle.network_model.specs.Bounds.{all_of}
use Rattle.network_model.specs.Events.{Event, Reports, ReportsFlags, Rounds, Traces, all_steps, ReportsAdverts}
use Rattle.network_model.specs.Steps.{Step, machine}
use Rattle.network_model.specs.Worlds.{World}
use Rattle.script_theorem.specs.Writing.{OnlyWrite}

-- each event is `rounds n`, or only writes: a report, of a book, of flags or of what paths offer, or a trace switch
abbrev pub AreRoundsAndWriting : List Event → Type 0
AreRoundsAndWriting [] = Unit {0}
AreRoundsAndWriting (Rounds n ∷ es) = AreRoundsAndWriting es
AreRoundsAndWriting (Reports e ∷ es) = AreRoundsAndWriting es
AreRoundsAndWriting (ReportsFlags ∷ es) = AreRoundsAndWriting es
AreRoundsAndWriting (ReportsAdverts ∷ es) = AreRoundsAndWriting es
AreRoundsAndWriting (Traces on ∷ es) = AreRoundsAndWriting es
AreRoundsAndWriting (_ ∷ es) = ⊥

-- how many rounds these events are together
abbrev pub rounds_among : List Event → ℕ
rounds_among [] = 0
rounds_among (Rounds n ∷ es) = n + rounds_among es
rounds_among (_ ∷ es) = rounds_among es

-- the steps are so many calm rounds, one after the other, and then steps that only write
pub record AreRoundsThenWriting (q : ℕ) (w : World) (ss : List Step) (n : ℕ) : Type 0 where
  pub rounds : List (List Step)
  pub still : List Step
  pub parts : ss ≡ all_of rounds ++ still
  pub calm : CalmRounds (machine q) rounds w
  pub number : length rounds ≡ n
  pub writes : OnlyWrite still

-- rounds among lines that only write are as many calm rounds: what is written between two of them counts as the beginning of the
-- second
abbrev pub RoundsAmongWritingCount : Type 0
RoundsAmongWritingCount = (q : ℕ) (es : List Event) (w : World) → AreRoundsAndWriting es → AreRoundsThenWriting q w (all_steps q es w) (rounds_among es)
