-- What a run over lines took and wrote. `Leads` says where lines lead, and `Says` what was written where a run stands there.
use Rattle.std.specs.Prelude.{◌≡◌, ◌⊎◌, ℕ, ◌≤◌, List, [], ◌∷◌, ◌++◌, length, take, Option}
use Rattle.std.specs.Io.KnownBytes.{Appends, Consumes}
use Rattle.script_words.specs.Lines.{line_number, text_lines}
use Rattle.byte_streams.specs.Lines.{IsNear, all_bytes}

-- these lines were run, and wrote this
pub record HasRun {D : Type 0} (Leads : List (List ℕ) → D → Type 0) (Says : D → List ℕ → Type 0) (lines : List (List ℕ)) (text : List ℕ) : Type 0 where
  pub draft : D
  pub leads : Leads lines draft
  pub run : Says draft text

-- C holds of a line behind lines that were run and wrote this
pub record IsFirst {D : Type 0} (Leads : List (List ℕ) → D → Type 0) (Says : D → List ℕ → Type 0) (C : D → List ℕ → Type 0) (bytes text : List ℕ) : Type 0 where
  pub before : List (List ℕ)
  pub line : List ℕ
  pub after : List (List ℕ)
  pub parts : text_lines bytes ≡ before ++ line ∷ after
  pub ran : HasRun Leads Says before text
  pub holds : C ran.draft line

-- the line of this number has this fault
pub record IsFirstBad {D F : Type 0} (Leads : List (List ℕ) → D → Type 0) (Says : D → List ℕ → Type 0) (Faulty : D → List ℕ → F → Type 0) (number : ℕ) (why : F) (bytes text : List ℕ) : Type 0 where
  pub at : IsFirst Leads Says (λ draft line. Faulty draft line why) bytes text
  pub counted : number ≡ line_number (length at.before)

-- ---- where a sink failed
-- what the lines before wrote was written, and a prefix of what the line itself wrote
pub record EndedWriting {D : Type 0} (Leads : List (List ℕ) → D → Type 0) (Says : D → List ℕ → Type 0) (bytes taken text : List ℕ) : Type 0 where
  pub before : List (List ℕ)
  pub line : List ℕ
  pub after : List (List ℕ)
  pub parts : text_lines bytes ≡ before ++ line ∷ after
  pub near : IsNear taken before
  pub said : List ℕ
  pub own : List ℕ
  pub ran : HasRun Leads Says before said
  pub ran_with : HasRun Leads Says (before ++ line ∷ []) (said ++ own)
  pub count : ℕ
  pub front : count ≤ length own
  pub text_is : text ≡ said ++ take count own

-- a prefix of what some first lines of those taken wrote was written
pub record EndedShort {D : Type 0} (Leads : List (List ℕ) → D → Type 0) (Says : D → List ℕ → Type 0) (taken text : List ℕ) : Type 0 where
  pub before : List (List ℕ)
  pub after : List (List ℕ)
  pub parts : text_lines taken ≡ before ++ after
  pub said : List ℕ
  pub ran : HasRun Leads Says before said
  pub count : ℕ
  pub text_is : text ≡ take count said

-- where memory ran out: C holds of the line behind those that were run
abbrev pub HoldsOfNext : {D : Type 0} → (D → List ℕ → Type 0) → D → List (List ℕ) → Type 0
HoldsOfNext C draft [] = ⊥
HoldsOfNext C draft (line ∷ lines) = C draft line

-- what some first lines wrote was written, and the line behind them asked for memory; or nothing was taken yet
pub record EndedEarly {D : Type 0} (Leads : List (List ℕ) → D → Type 0) (Says : D → List ℕ → Type 0) (Asks : D → List ℕ → Type 0) (bytes taken text : List ℕ) : Type 0 where
  pub before : List (List ℕ)
  pub after : List (List ℕ)
  pub parts : text_lines bytes ≡ before ++ after
  pub ran : HasRun Leads Says before text
  pub asked : (taken ≡ []) ⊎ HoldsOfNext Asks ran.draft after

-- all lines were run, and this holds of where they lead and of the whole text
pub record EndedDone {D : Type 0} (Leads : List (List ℕ) → D → Type 0) (Says : D → List ℕ → Type 0) (Ends : D → Type 0) (bytes taken text : List ℕ) : Type 0 where
  pub all : taken ≡ bytes
  pub ran : HasRun Leads Says (text_lines bytes) text
  pub stands_there : Ends ran.draft

-- ---- the whole of a run
-- bytes were taken of a source and a text was written to a sink, so many bytes may be taken where it ends so, and it ended so
pub record IsRun {E : Type 0} (CanTake : E → ℕ → Type 0) (EndedSo : E → List ℕ → List ℕ → List ℕ → Type 0) (ending : E) (old new before after : Option (List ℕ)) : Type 0 where
  pub taken : List ℕ
  pub took : Consumes old new taken
  pub text : List ℕ
  pub wrote : Appends before after text
  pub counted : CanTake ending (length taken)
  pub ended : EndedSo ending (all_bytes taken new) taken text
