use Rattle.std.proofs.Common.{rules, ◌≡◌, ◌∙◌, ℕ, List, [], ◌∷◌, ◌++◌, length-append, append_assoc, append-nil, refl, sym, ap, subst, arith}
use Rattle.script_words.specs.Lines.{text_lines}
use Rattle.script_grammar.specs.Draft.{Draft, nothing}
use Rattle.script_grammar.specs.Grammar.{IsBadLine, Leads}
use Rattle.script_grammar.specs.LineKinds.{script_line_of}
use Rattle.script_grammar.proofs.Scripts.{leads_on}
use Rattle.script_demand.proofs.ToldEnds.{advised_told, stopped_told}
use Rattle.script_demand.specs.Begun.{begun_by}
use Rattle.script_demand.specs.Nodes.{node_said}
use Rattle.script_demand.proofs.NodeNames.{nodes_behind}
use Rattle.script_demand.proofs.noted_lines.read_lines.Goals as goal

pub loop-line-init : goal.loop-line-init
loop-line-init g c = record { before = []; parts = refl; number = omega arith; leads = c.requires.first; nodes = c.requires.unnamed ∙ ap (λ (d : Draft). d.nodes) (sym c.requires.first); begun = c.requires.unasked ∙ ap (λ (d : Draft). begun_by d.events) (sym c.requires.first); quiet = c.requires.empty; roomy = c.requires.room }

pub loop-line-preserved : goal.loop-line-preserved
loop-line-preserved g c =
    let i = c.loop-line.invariant in
    let line = c.in-Some.line.now in
    record {
      before = i.before ++ line ∷ [];
      parts = i.parts ∙ ap (λ (ls : List (List ℕ)). i.before ++ ls) c.in-Some.ensures.lines ∙ sym (append_assoc i.before (line ∷ []) (text_lines c.in-Some.behind.now));
      number = let count = length-append i.before (line ∷ []) in omega (arith, c.saturating_add-number.ensures, i.number, count);
      leads = leads_on nothing i.before (g.C.LinesBefore.lines c.loop-line.checker) (g.C.LinesBefore.lines c.take_line.new.checker) line i.leads c.in-Ok.ensures.follows;
      nodes = c.in-Ok.ensures.nodes ∙ ap (λ (xs : List (List ℕ)). xs ++ node_said (script_line_of line)) i.nodes
          ∙ sym (nodes_behind (g.C.LinesBefore.lines c.loop-line.checker) line (g.C.LinesBefore.lines c.take_line.new.checker) c.in-Ok.ensures.follows);
      begun = c.in-Ok.ensures.begun i.begun;
      quiet = i.quiet;
      roomy = i.roomy;
    }

pub returns-in-Err-Bad-clause-stopped : goal.returns-in-Err-Bad-clause-stopped
returns-in-Err-Bad-clause-stopped g c =
    let i = c.loop-line.invariant in
    let same : g.C.LinesBefore.lines c.take_line.new.checker ≡ g.C.LinesBefore.lines c.loop-line.checker = rw c.in-Err-Bad.field-0-is at c.in-Err-Bad.ensures.same in
    let told = rw same at c.end_bad.ensures in
    let bad : IsBadLine c.args.input.now c.saturating_add-number.result c.in-Err-Bad.why = record {
      before = i.before;
      text = c.in-Some.line.now;
      after = text_lines c.in-Some.behind.now;
      parts = i.parts ∙ ap (λ (ls : List (List ℕ)). i.before ++ ls) c.in-Some.ensures.lines;
      counted = omega (arith, c.saturating_add-number.ensures, i.number);
      lines = g.C.LinesBefore.lines c.loop-line.checker;
      leads = i.leads;
      fault = rw c.in-Err-Bad.field-0-is at c.in-Err-Bad.ensures.refused;
    } in
    stopped_told c.args.input.now c.end_bad.new.advice.items c.saturating_add-number.result c.in-Err-Bad.why bad _ c.end_bad.result told (search rules)

pub returns-in-Err-Bad-clause-advised : goal.returns-in-Err-Bad-clause-advised
returns-in-Err-Bad-clause-advised g c =
    let i = c.loop-line.invariant in
    let same : g.C.LinesBefore.lines c.take_line.new.checker ≡ g.C.LinesBefore.lines c.loop-line.checker = rw c.in-Err-Bad.field-0-is at c.in-Err-Bad.ensures.same in
    let told = rw same at c.end_bad.ensures in
    let bad : IsBadLine c.args.input.now c.saturating_add-number.result c.in-Err-Bad.why = record {
      before = i.before;
      text = c.in-Some.line.now;
      after = text_lines c.in-Some.behind.now;
      parts = i.parts ∙ ap (λ (ls : List (List ℕ)). i.before ++ ls) c.in-Some.ensures.lines;
      counted = omega (arith, c.saturating_add-number.ensures, i.number);
      lines = g.C.LinesBefore.lines c.loop-line.checker;
      leads = i.leads;
      fault = rw c.in-Err-Bad.field-0-is at c.in-Err-Bad.ensures.refused;
    } in
    advised_told c.args.input.now c.end_bad.new.advice.items c.saturating_add-number.result c.in-Err-Bad.why bad _ c.end_bad.result told (search rules)

pub returns-in-Err-Crowded-clause-stopped : goal.returns-in-Err-Crowded-clause-stopped
returns-in-Err-Crowded-clause-stopped g c = absurd (rw c.in-Err-Crowded.field-0-is at c.in-Err-Crowded.ensures.refused)

pub returns-clause-taken : goal.returns-clause-taken
returns-clause-taken g c =
    let i = c.loop-line.invariant in
    let all : text_lines c.args.input.now ≡ i.before = i.parts ∙ ap (λ (ls : List (List ℕ)). i.before ++ ls) c.in_default.ensures.lines ∙ append-nil i.before in
    subst (λ (ls : List (List ℕ)). Leads nothing ls (g.C.LinesBefore.lines c.loop-line.checker)) (sym all) i.leads
