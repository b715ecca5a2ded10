-- A script of two nodes, its text and its run, worked out: it meets the premises, and its rounds have as much in flight as is said.
use Rattle.std.specs.Prelude.{◌≡◌, ◌++◌, ℕ, List, [], ◌∷◌, codes, length}
use Rattle.router_rules.specs.Inputs.{SendAs}
use Rattle.network_model.specs.Events.{AtNode, Rounds}
use Rattle.network_model.specs.Runs.{Plan}
use Rattle.network_model.specs.Steps.{Piece, step}
use Rattle.network_model.specs.ThreeRouters.{first, flow, session}
use Rattle.laws_network.specs.Beginning.{left_plan}
use Rattle.script_demand.specs.Findings.{IsFindingsOf}
use Rattle.script_grammar.specs.Grammar.{IsScript}
use Rattle.script_overhead.specs.Plain.{EndsInRounds, EndsPlainly}
use Rattle.script_overhead.specs.Roomy.{EndsSettled, SaysRoomFor, end_of}

abbrev pub pair_text : List ℕ
pair_text =
    codes "node s\nnode r\nend s1 s 10.0.1.1 10000 1500\nend r1 r 10.0.1.2 10000 1500\nlink s1 r1\nhop 239.1.1.1 10.0.1.1 s1 r1\n"
    ++ codes "send s 239.1.1.1/17/5004 10.0.1.1:5004 1/1/inf/1/1500\nrounds 28\n"

abbrev pub pair_plan : Plan
pair_plan = record left_plan { stale = []; events = AtNode 0 (SendAs session first (flow 1 1 1 1500)) ∷ Rounds 28 ∷ [] }

pub record APairHasTheRoomThatIsSaid : Type 0 where
  pub script : IsScript pair_text pair_plan
  pub ends : EndsSettled pair_plan
  -- none of its lines injects or asks for a confirmation, and its last is `rounds 28`
  pub plain : EndsPlainly pair_plan
  pub last : EndsInRounds script.lines
  -- whatever else is found in it, there is room for one datagram
  pub said : (text : List ℕ) → IsFindingsOf pair_text text → SaysRoomFor 1 text
  -- nothing is in flight at its end, and one Path when half a period has passed
  pub none : length (end_of pair_plan).flight ≡ 0
  pub met : length (step 7500 (Piece 15000) (end_of pair_plan)).flight ≡ 1
