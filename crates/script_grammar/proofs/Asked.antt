-- A line that is of another style than the wishes that stand asks for memory, and so does one that moves a tree and breaks a rule of
-- trees.
use Rattle.std.proofs.Common.{◌≡◌, ℕ, List, None, Some, inr, subst}
use Rattle.script_grammar.specs.Asking.{AsksMemory, AsksToBeTaken}
use Rattle.script_grammar.specs.Draft.{Draft}
use Rattle.script_grammar.specs.Grammar.{HasFault, broken}
use Rattle.script_grammar.specs.LineKinds.{script_line_of}
use Rattle.script_grammar.specs.Rules.{BreaksFirst, Closes, Exceeds, Keeps}
use Rattle.script_grammar.specs.declared.fault.Fault.TheVariants as fault
use Rattle.script_grammar.specs.declared.line.RerouteLine.{RerouteLine}
use Rattle.script_grammar.specs.declared.line.ScriptLine.{ScriptLine}
use Rattle.script_grammar.specs.declared.line.ScriptLine.TheVariants as line
use Rattle.script_grammar.specs.TreeBlames.{BreaksTree}

-- ---- another style
abbrev BreaksStyle : Draft → ScriptLine → Type 0
BreaksStyle d said = BreaksFirst (Keeps d said) (Exceeds d said) (Closes d said) fault.Style

of_style : (d : Draft) (said : ScriptLine) → BreaksStyle d said → AsksMemory d said
of_style d line.Skipped b = absurd (b.4 tt)
of_style d (line.Period ms) b = absurd (b.4 tt)
of_style d (line.Seed n) b = absurd (b.4 tt)
of_style d (line.Node name) b = absurd (b.4 tt)
of_style d (line.End l) b = absurd (b.4 tt)
of_style d (line.Latency l) b = absurd (b.4 tt)
of_style d (line.Link names) b = absurd (b.4 tt)
of_style d (line.Hop l) b = absurd (b.4 tt)
of_style d (line.StalePath l) b = absurd (b.4 tt)
of_style d (line.StaleResv l) b = absurd (b.4 tt)
of_style d (line.StaleHopWall l) b = absurd (b.4 tt)
of_style d (line.StaleSenderWall l) b = absurd (b.4 tt)
of_style d (line.Send l) b = absurd (b.4 tt)
of_style d (line.Drop l) b = absurd (b.4 tt)
of_style d (line.Advert l) b = absurd (b.4 tt)
of_style d (line.Want l) b = (b.0, b.1, b.2)
of_style d (line.Quit l) b = absurd (b.4 tt)
of_style d (line.Wait ms) b = absurd (b.4 tt)
of_style d (line.Pass n) b = absurd (b.4 tt)
of_style d (line.Deliver k) b = absurd (b.4 tt)
of_style d (line.Lose k) b = absurd (b.4 tt)
of_style d (line.Copy k) b = absurd (b.4 tt)
of_style d (line.Clear node) b = absurd (b.4 tt)
of_style d (line.Rounds n) b = absurd (b.4 tt)
of_style d (line.Trace on) b = absurd (b.4 tt)
of_style d line.Report b = absurd (b.4 tt)
of_style d (line.ReportEnd end) b = absurd (b.4 tt)
of_style d line.Flags b = absurd (b.4 tt)
of_style d line.Adverts b = absurd (b.4 tt)
of_style d (line.Inject l) b = absurd (b.4 tt)
of_style d (line.Reroute l) b = absurd (b.4 tt)

pub style_asks : (d : Draft) (text : List ℕ) → HasFault d text fault.Style → AsksToBeTaken d text
style_asks d text (broken said fault.Style short reads breaks) = inr (record { said = said; reads = reads; asks = of_style d said breaks })

-- ---- trees
pub reroute_asks : (d : Draft) (l : RerouteLine) → BreaksTree d (line.Reroute l) → AsksMemory d (line.Reroute l)
reroute_asks d l b = record { in_range = b.1; ends = λ k h few. (b.2.from k h few, b.2.to k h few); source = b.2.source }

abbrev IsTreeLine : ScriptLine → Type 0
IsTreeLine (line.Hop l) = Unit {0}
IsTreeLine (line.Reroute l) = Unit {0}
IsTreeLine _ = ⊥

-- lines of other kinds keep that rule
pub others_keep : (d : Draft) (said : ScriptLine) → (IsTreeLine said → ⊥) → BreaksTree d said → AsksMemory d said
others_keep d line.Skipped other b = absurd (b.6 tt)
others_keep d (line.Period ms) other b = absurd (b.6 tt)
others_keep d (line.Seed n) other b = absurd (b.6 tt)
others_keep d (line.Node name) other b = absurd (b.6 tt)
others_keep d (line.End l) other b = absurd (b.6 tt)
others_keep d (line.Latency l) other b = absurd (b.6 tt)
others_keep d (line.Link names) other b = absurd (b.6 tt)
others_keep d (line.Hop l) other b = absurd (other tt)
others_keep d (line.StalePath l) other b = absurd (b.6 tt)
others_keep d (line.StaleResv l) other b = absurd (b.6 tt)
others_keep d (line.StaleHopWall l) other b = absurd (b.6 tt)
others_keep d (line.StaleSenderWall l) other b = absurd (b.6 tt)
others_keep d (line.Send l) other b = absurd (b.6 tt)
others_keep d (line.Drop l) other b = absurd (b.6 tt)
others_keep d (line.Advert l) other b = absurd (b.6 tt)
others_keep d (line.Want l) other b = absurd (b.6 tt)
others_keep d (line.Quit l) other b = absurd (b.6 tt)
others_keep d (line.Wait ms) other b = absurd (b.6 tt)
others_keep d (line.Pass n) other b = absurd (b.6 tt)
others_keep d (line.Deliver k) other b = absurd (b.6 tt)
others_keep d (line.Lose k) other b = absurd (b.6 tt)
others_keep d (line.Copy k) other b = absurd (b.6 tt)
others_keep d (line.Clear node) other b = absurd (b.6 tt)
others_keep d (line.Rounds n) other b = absurd (b.6 tt)
others_keep d (line.Trace on) other b = absurd (b.6 tt)
others_keep d line.Report other b = absurd (b.6 tt)
others_keep d (line.ReportEnd end) other b = absurd (b.6 tt)
others_keep d line.Flags other b = absurd (b.6 tt)
others_keep d line.Adverts other b = absurd (b.6 tt)
others_keep d (line.Inject l) other b = absurd (b.6 tt)
others_keep d (line.Reroute l) other b = absurd (other tt)

-- what a text says asks for memory, where the text has this fault
pub tree_asks : (d : Draft) (text : List ℕ) (said : ScriptLine) → script_line_of text ≡ Some said → (BreaksTree d said → AsksMemory d said) → HasFault d text fault.NotTree → AsksToBeTaken d text
tree_asks d text said reads asks (broken other fault.NotTree short same breaks) =
    let one : other ≡ said = cc in
    inr (record { said = said; reads = reads; asks = asks (subst (BreaksTree d) one breaks) })

-- a text that says nothing has another one
pub word_has_none : (d : Draft) (text : List ℕ) → script_line_of text ≡ None → HasFault d text fault.NotTree → AsksToBeTaken d text
word_has_none d text none (broken other fault.NotTree short same breaks) = absurd (cc)
