-- What the lines of a valid script say of its plan, and the first lines of any file of theirs.
use Rattle.std.specs.Prelude.{ℕ, ◌≤◌, List}
use Rattle.network_model.specs.Links.{NoEndIsAGroup}
use Rattle.network_model.specs.Runs.{Plan}
use Rattle.laws_network.specs.Beginning.{IsFitPlan}
use Rattle.laws_network.specs.Runs.{AreFitSenders, IsFitRun}
use Rattle.script_grammar.specs.Draft.{Draft, nothing, plan_of}
use Rattle.script_grammar.specs.Grammar.{IsScript, Leads}
use Rattle.laws_scripts.specs.Networks.{HasFitLinks}
use Rattle.tree_model.specs.Valid.{IsValid}

-- at each point of its events at most 16 senders of a session are let send, to a group, and 32 sessions have one
abbrev pub EachScriptLetsFewSend : Type 0
EachScriptLetsFewSend = (bytes : List ℕ) (p : Plan) → IsScript bytes p → AreFitSenders p

-- there is a period, and each end has the address of a host
pub record HasHosts (p : Plan) : Type 0 where
  pub period : 1 ≤ p.quarter
  pub hosts : NoEndIsAGroup p.net

abbrev pub EachScriptHasHosts : Type 0
EachScriptHasHosts = (bytes : List ℕ) (p : Plan) → IsScript bytes p → HasHosts p

-- each link has two to eight ends
abbrev pub EachLinkHasItsEnds : Type 0
EachLinkHasItsEnds = (bytes : List ℕ) (p : Plan) → IsScript bytes p → HasFitLinks p.net

-- the network that it declares is valid
abbrev pub EachScriptDeclaresAValidNetwork : Type 0
EachScriptDeclaresAValidNetwork = (bytes : List ℕ) (p : Plan) → IsScript bytes p → IsValid p.net

-- there is a period, the network is valid, its ends have addresses of hosts, and what is left over is fit at its node
abbrev pub EachScriptLeavesFitFacts : Type 0
EachScriptLeavesFitFacts = (bytes : List ℕ) (p : Plan) → IsScript bytes p → IsFitPlan p

-- and its events are fit, each in the network that those before it leave: a fit run
abbrev pub EachScriptIsAFitRun : Type 0
EachScriptIsAFitRun = (bytes : List ℕ) (p : Plan) → IsScript bytes p → IsFitRun p

-- ---- lines that may begin a script, whatever comes behind them: the same
abbrev pub FirstLinesLetFewSend : Type 0
FirstLinesLetFewSend = (lines : List (List ℕ)) (d : Draft) → Leads nothing lines d → AreFitSenders (plan_of d)

abbrev pub FirstLinesAreAFitRun : Type 0
FirstLinesAreAFitRun = (lines : List (List ℕ)) (d : Draft) → Leads nothing lines d → IsFitRun (plan_of d)
