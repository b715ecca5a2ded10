-- The demand of a script: what was taken of the source, and what was written.
use Rattle.std.specs.Prelude.{◌≡◌, ◌⊎◌, ℕ, ◌≤◌, ◌<◌, List, ◌∷◌, ◌++◌, length, Option}
use Rattle.byte_streams.specs.Reading.{most_bytes}
use Rattle.network_model.specs.DemandTexts.{IsDemandText}
use Rattle.network_model.specs.Runs.{Plan}
use Rattle.script_run.specs.declared.ending.Ending.{Ending}
use Rattle.script_run.specs.declared.ending.Ending.TheVariants.{Done, BadLine, NoMemory, TooLong}
use Rattle.script_grammar.specs.Asking.{AsksToBeTaken}
use Rattle.script_grammar.specs.Draft.{Draft, nothing, routing}
use Rattle.script_grammar.specs.Grammar.{IsBadLine, IsScript, Leads}
use Rattle.script_words.specs.Lines.{text_lines}
use Rattle.script_demand.specs.Answering.{IsAnswering, IsAnsweringOf}

-- the bytes are the lines of a script, and the text is the demand behind the last of them: of who sends and who wants what by then,
-- on the routing in force there
pub record IsDemandOf (bytes text : List ℕ) : Type 0 where
  pub lines : Draft
  pub leads : Leads nothing (text_lines bytes) lines
  pub says : IsDemandText lines.names (routing lines) lines.locals text

-- of these bytes these first ones were taken, and their demand was written to a sink, or not, as it ended
abbrev pub IsDemandingOf : Ending → List ℕ → List ℕ → Option (List ℕ) → Option (List ℕ) → Type 0
IsDemandingOf ending bytes taken before after = IsAnsweringOf IsDemandOf IsBadLine ending bytes taken before after

-- and the bytes were taken of a source
abbrev pub IsDemanding : Ending → Option (List ℕ) → Option (List ℕ) → Option (List ℕ) → Option (List ℕ) → Type 0
IsDemanding ending old new before after = IsAnswering IsDemandOf IsBadLine ending old new before after

-- what it comes to, unless a fault of a device ends it, or memory runs out
abbrev pub DemandsTo : Ending → List ℕ → Type 0
DemandsTo Done bytes = (length bytes ≤ most_bytes) × ((p : Plan) × IsScript bytes p)
DemandsTo (BadLine number why) bytes = (length bytes ≤ most_bytes) × IsBadLine bytes number why
DemandsTo TooLong bytes = most_bytes < length bytes
DemandsTo _ bytes = ⊥

-- ---- where memory is asked for, once all of the input was read
-- a line of these bytes asks for memory to be taken behind those before, which are right
pub record HasAskingLine (bytes : List ℕ) : Type 0 where
  pub before : List (List ℕ)
  pub text : List ℕ
  pub after : List (List ℕ)
  pub parts : text_lines bytes ≡ before ++ text ∷ after
  pub lines : Draft
  pub leads : Leads nothing before lines
  pub asks : AsksToBeTaken lines text

-- or all lines are right, and their demand is put together
abbrev pub AsksForMemory : List ℕ → Type 0
AsksForMemory bytes = HasAskingLine bytes ⊎ ((d : Draft) × Leads nothing (text_lines bytes) d)

-- ---- on the way
-- why a line of these bytes was not taken
abbrev pub StopsAt : List ℕ → Ending → Type 0
StopsAt bytes (BadLine number why) = IsBadLine bytes number why
StopsAt bytes NoMemory = Unit {0}
StopsAt bytes _ = ⊥
