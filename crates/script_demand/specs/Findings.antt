-- The findings of a script: what was taken of the source, and what was written.
use Rattle.std.specs.Prelude.{◌≡◌, ◌≢◌, ◌↔◌, ◌⊎◌, ◌<◌, ◌++◌, ℕ, List, [], Option, Bool, IsTrue}
use Rattle.network_demand.specs.Findings.{AreFindings}
use Rattle.network_demand.specs.Misfits.{AreNone}
use Rattle.network_demand.specs.declared.findings.Findings.{Findings}
use Rattle.network_demand.specs.declared.late.Begun.{Begun}
use Rattle.network_demand.specs.Overhead.{overhead}
use Rattle.script_demand.specs.Answering.{IsAnswering, IsAnsweringOf}
use Rattle.script_grammar.specs.Draft.{Draft, nothing, routing}
use Rattle.script_grammar.specs.Grammar.{IsBadLine, Leads}
use Rattle.script_run.specs.declared.ending.Ending.{Ending}
use Rattle.script_words.specs.Lines.{text_lines}
use Rattle.tree_model.specs.Goals.{DemandsFit}
use Rattle.tree_model.specs.Networks.{Net}
use Rattle.tree_model.specs.Wants.{Locals}
use Rattle.script_demand.specs.Begun.{begun_by}
use Rattle.script_demand.specs.Texts.{findings_text, room_text}

-- what is found in what hosts ask of a network, with these names of nodes and of ends; those who ask stand in the order in which they
-- began. Where their demands fit, the network's refresh overhead is said behind it
pub record IsFindingsText (nodes names : List (List ℕ)) (net : Net) (l : Locals) (begun : List Begun) (text : List ℕ) : Type 0 where
  pub found : Findings
  pub are : AreFindings net l begun found
  pub none : AreNone found.misfits ↔ DemandsFit net l
  pub fits : Bool
  pub told : IsTrue fits ↔ DemandsFit net l
  pub text_is : text ≡ findings_text nodes names net.ends l found ++ room_text fits (overhead net l)

-- something is found, or what fits may have more in flight than there is room for
abbrev pub IsNoted : List (List ℕ) → List (List ℕ) → Net → Locals → Findings → Type 0
IsNoted nodes names net l found = (findings_text nodes names net.ends l found ≢ []) ⊎ (DemandsFit net l × (8192 < overhead net l))

-- and this tells whether there was something to say
pub record IsSaying (nodes names : List (List ℕ)) (net : Net) (l : Locals) (begun : List Begun) (said : Bool) (text : List ℕ) : Type 0 where
  pub says : IsFindingsText nodes names net l begun text
  pub noted : IsTrue said ↔ IsNoted nodes names net l says.found

-- the bytes are the lines of a script, and the text is what is found behind the last of them: in who sends and who wants what by then,
-- on the routing in force there
pub record IsFindingsOf (bytes text : List ℕ) : Type 0 where
  pub lines : Draft
  pub leads : Leads nothing (text_lines bytes) lines
  pub says : IsFindingsText lines.nodes lines.names (routing lines) lines.locals (begun_by lines.events) text

-- and this tells whether there was something to say
pub record IsSaidOf (said : Bool) (bytes text : List ℕ) : Type 0 where
  pub found : IsFindingsOf bytes text
  pub noted : IsTrue said ↔ IsNoted found.lines.nodes found.lines.names (routing found.lines) found.lines.locals found.says.found

-- of these bytes these first ones were taken, and what is found was written to a sink, or not, as it ended
abbrev pub IsFindingOf : Bool → Ending → List ℕ → List ℕ → Option (List ℕ) → Option (List ℕ) → Type 0
IsFindingOf said ending bytes taken before after = IsAnsweringOf (IsSaidOf said) IsBadLine ending bytes taken before after

-- and the bytes were taken of a source
abbrev pub IsFinding : Bool → Ending → Option (List ℕ) → Option (List ℕ) → Option (List ℕ) → Option (List ℕ) → Type 0
IsFinding said ending old new before after = IsAnswering (IsSaidOf said) IsBadLine ending old new before after
