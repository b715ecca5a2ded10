-- What a replay ran, however it ended: the first lines of its file, in one run, which is safe at each step and whose settled reports are
-- the demand.
use Rattle.std.specs.Prelude.{◌≡◌, ℕ, false, List, Option, None, Some, take}
use Rattle.network_replay.specs.Agreeing.{Agrees, NetworkState}
use Rattle.network_replay.specs.Following.{Seen}
use Rattle.network_model.specs.Runs.{Plan, is_crowded_run}
use Rattle.network_model.specs.Worlds.{World}
use Rattle.script_run.specs.Endings.{EndedSo}
use Rattle.script_run.specs.declared.ending.Ending.{Ending}
use Rattle.script_run.specs.declared.ending.Ending.TheVariants.{Done, BadLine, ReadFault, WriteFault, NoMemory, Crowded, TooLong}
use Rattle.script_grammar.specs.Draft.{Draft, nothing, plan_of}
use Rattle.script_grammar.specs.Grammar.{Leads}
use Rattle.script_words.specs.Lines.{text_lines}
use Rattle.laws_grown.specs.ScriptTheorem.Fronts.{HasHealedReports, IsFront}
use Rattle.laws_grown.specs.ScriptTheorem.Theorem.{IsSafe, IsWorldOf}

-- ---- whatever is in a file
-- of these bytes, a script or not: whatever its first n lines are, if they may begin a script, each step of their run is safe
abbrev pub IsSafeFile : List ℕ → Type 0
IsSafeFile bytes = (n : ℕ) (d : Draft) → Leads nothing (take n (text_lines bytes)) d → IsSafe (plan_of d)

-- ---- which lines were run
-- what they say: after a fault of the sink with the line that was being written, and in a crowded run without the line that crowds it
module _ (stands : Draft → Type 0) where
  abbrev pub lines_run : (e : Ending) (bytes taken text : List ℕ) → EndedSo stands e bytes taken text → Draft
  lines_run Done bytes taken text ended = ended.ran.draft
  lines_run (BadLine number why) bytes taken text ended = ended.0.at.ran.draft
  lines_run ReadFault bytes taken text ended = ended.draft
  lines_run WriteFault bytes taken text ended = ended.ran_with.draft
  lines_run NoMemory bytes taken text ended = ended.ran.draft
  lines_run Crowded bytes taken text ended = ended.0.ran.draft
  lines_run TooLong bytes taken text ended = ended.draft

-- ---- how they were run, and in what they ended
module _ {R : Type 0} (see : Seen R) where
  -- the routers of the network that is left, if one is, are a world of this run: no book of theirs passes its capacity
  abbrev pub IsLeftIn : Option (NetworkState R) → Plan → Type 0
  IsLeftIn None p = Unit {0}
  IsLeftIn (Some v) p = (w : World) × Agrees see p.quarter v w × IsWorldOf p w

  -- of a file of these bytes the first lines, which say this, were run and wrote this text, and this network is left
  pub record HasRunFirstLines (bytes text : List ℕ) (last : Option (NetworkState R)) (d : Draft) : Type 0 where
    pub count : ℕ
    pub leads : Leads nothing (take count (text_lines bytes)) d
    -- their run is not crowded, and the text is its text, or a front of it
    pub roomy : is_crowded_run (plan_of d) ≡ false
    pub front : IsFront (plan_of d) text
    -- each of its steps is safe, and it ended in one of its worlds
    pub safe : IsSafe (plan_of d)
    pub left : IsLeftIn last (plan_of d)
    -- each report that was written whole is the demand at a settled moment, where that fits, and at a purged one lists nothing stale
    pub healed : HasHealedReports (plan_of d) text
