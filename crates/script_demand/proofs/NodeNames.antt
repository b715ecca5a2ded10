-- The names of nodes behind a line.
use Rattle.std.specs.Prelude.{◌≡◌, ℕ, List, [], ◌++◌, Option}
use Rattle.std.proofs.Common.{sym, ap, ◌∙◌, append-nil}
use Rattle.script_grammar.specs.Adds.{Adds}
use Rattle.script_grammar.specs.Draft.{Draft}
use Rattle.script_grammar.specs.Grammar.{Follows}
use Rattle.script_grammar.specs.LineKinds.{script_line_of}
use Rattle.script_grammar.specs.declared.line.ScriptLine.{ScriptLine}
use Rattle.script_grammar.specs.declared.line.ScriptLine.TheVariants as line
use Rattle.script_demand.specs.Nodes.{node_of_line, node_said}

-- the lines before have these nodes, and so have these
same : (d new : Draft) → new.nodes ≡ d.nodes → new.nodes ≡ d.nodes ++ []
same d new e = e ∙ sym (append-nil d.nodes)

nodes_after : (d : Draft) (said : ScriptLine) (new : Draft) → Adds d said new → new.nodes ≡ d.nodes ++ node_of_line said
nodes_after d (line.Node name) new adds = ap (λ (z : Draft). z.nodes) adds
nodes_after d (line.Inject l) new adds = same d new (ap (λ (z : Draft). z.nodes) adds.2)
nodes_after d line.Skipped new adds = same d new (ap (λ (z : Draft). z.nodes) adds)
nodes_after d (line.Period ms) new adds = same d new (ap (λ (z : Draft). z.nodes) adds)
nodes_after d (line.Seed n) new adds = same d new (ap (λ (z : Draft). z.nodes) adds)
nodes_after d (line.End l) new adds = same d new (ap (λ (z : Draft). z.nodes) adds)
nodes_after d (line.Latency l) new adds = same d new (ap (λ (z : Draft). z.nodes) adds)
nodes_after d (line.Link names) new adds = same d new (ap (λ (z : Draft). z.nodes) adds)
nodes_after d (line.Hop l) new adds = same d new (ap (λ (z : Draft). z.nodes) adds)
nodes_after d (line.StalePath l) new adds = same d new (ap (λ (z : Draft). z.nodes) adds)
nodes_after d (line.StaleResv l) new adds = same d new (ap (λ (z : Draft). z.nodes) adds)
nodes_after d (line.StaleHopWall l) new adds = same d new (ap (λ (z : Draft). z.nodes) adds)
nodes_after d (line.StaleSenderWall l) new adds = same d new (ap (λ (z : Draft). z.nodes) adds)
nodes_after d (line.Send l) new adds = same d new (ap (λ (z : Draft). z.nodes) adds)
nodes_after d (line.Drop l) new adds = same d new (ap (λ (z : Draft). z.nodes) adds)
nodes_after d (line.Advert l) new adds = same d new (ap (λ (z : Draft). z.nodes) adds)
nodes_after d (line.Want l) new adds = same d new (ap (λ (z : Draft). z.nodes) adds)
nodes_after d (line.Quit l) new adds = same d new (ap (λ (z : Draft). z.nodes) adds)
nodes_after d (line.Wait ms) new adds = same d new (ap (λ (z : Draft). z.nodes) adds)
nodes_after d (line.Pass n) new adds = same d new (ap (λ (z : Draft). z.nodes) adds)
nodes_after d (line.Deliver k) new adds = same d new (ap (λ (z : Draft). z.nodes) adds)
nodes_after d (line.Lose k) new adds = same d new (ap (λ (z : Draft). z.nodes) adds)
nodes_after d (line.Copy k) new adds = same d new (ap (λ (z : Draft). z.nodes) adds)
nodes_after d (line.Clear node) new adds = same d new (ap (λ (z : Draft). z.nodes) adds)
nodes_after d (line.Rounds n) new adds = same d new (ap (λ (z : Draft). z.nodes) adds)
nodes_after d (line.Trace on) new adds = same d new (ap (λ (z : Draft). z.nodes) adds)
nodes_after d line.Report new adds = same d new (ap (λ (z : Draft). z.nodes) adds)
nodes_after d (line.ReportEnd end) new adds = same d new (ap (λ (z : Draft). z.nodes) adds)
nodes_after d line.Flags new adds = same d new (ap (λ (z : Draft). z.nodes) adds)
nodes_after d line.Adverts new adds = same d new (ap (λ (z : Draft). z.nodes) adds)
nodes_after d (line.Reroute l) new adds = same d new (ap (λ (z : Draft). z.nodes) adds)

-- the node that a line declares comes behind those before
pub nodes_behind : (d : Draft) (text : List ℕ) (new : Draft) → Follows d text new → new.nodes ≡ d.nodes ++ node_said (script_line_of text)
nodes_behind d text new f = nodes_after d f.said new f.adds ∙ ap (λ (o : Option ScriptLine). d.nodes ++ node_said o) (sym f.reads)
