use Rattle.std.proofs.Common.{◌≡◌, ℕ, ◌-◌, ◌^◌, ◌++◌, ◌≤◌, List, [], length, min}
use Rattle.std.specs.Vec.{vec_capacity}
use Rattle.line_advice.specs.Blamed.{most_advice}
use Rattle.script_grammar.specs.Draft.{nothing}
use Rattle.script_grammar.specs.Grammar.{Leads}
use Rattle.script_words.specs.Lines.{text_lines}
use Rattle.script_demand.specs.Begun.{begun_by}
use Rattle.script_demand.proofs.noted_lines.read_lines.Given as goal

-- the lines before were taken, with the names of their nodes and those who ask behind them
abbrev pub invariant-loop-line : goal.invariant-loop-line
invariant-loop-line g l =
    record {
      before : List (List ℕ);
      parts : text_lines l.input ≡ before ++ text_lines l.rest;
      number : l.number ≡ min (length before) (2 ^ 32 - 1);
      leads : Leads nothing before (g.C.LinesBefore.lines l.checker);
      nodes : l.nodes.items ≡ (g.C.LinesBefore.lines l.checker).nodes;
      begun : l.begun.items ≡ begun_by (g.C.LinesBefore.lines l.checker).events;
      quiet : l.advice.items ≡ [];
      roomy : most_advice ≤ vec_capacity l.advice;
    }

abbrev pub decreases-loop-line : goal.decreases-loop-line
decreases-loop-line g l = length l.rest
