use Rattle.std.proofs.Common.{refl, sym, subst}
use Rattle.std.specs.List.{All}
use Rattle.std.proofs.lemmas.Bool.{false≢true}
use Rattle.std.proofs.lemmas.List.{take_all}
use Rattle.std.proofs.lemmas.List.Elements.{All-more}
use Rattle.script_grammar.specs.Rules.{IsEnd}
use Rattle.script_grammar.specs.declared.line.HopEnds.{HopEnds}
use Rattle.script_rules.specs.Said.{draft_of}
use Rattle.script_rules.proofs.reroute.are_declared.Goals as goal

pub loop-ends-preserved : goal.loop-ends-preserved
loop-ends-preserved c =
    let d = draft_of c.args.state.now in
    let P : HopEnds → Type 0 = λ h. IsEnd d h.from × IsEnd d h.to in
    All-more P c.args.pairs.now c.loop-ends.ends-index c.ends-item.result c.loop-ends-test.true c.loop-ends.invariant (subst P c.ends-item.is (c.in-Some.ensures.some.0 refl))

pub returns-in_default : goal.returns-in_default
returns-in_default c =
    let d = draft_of c.args.state.now in
    let P : HopEnds → Type 0 = λ h. IsEnd d h.from × IsEnd d h.to in
    (λ e. absurd (false≢true e), λ all. c.in_default.ensures.some.1 (subst P (sym c.ends-item.is) (all c.loop-ends.ends-index c.ends-item.result c.loop-ends-test.true)))

pub returns : goal.returns
returns c =
    let d = draft_of c.args.state.now in
    let P : HopEnds → Type 0 = λ h. IsEnd d h.from × IsEnd d h.to in
    (λ e. subst (All P) (take_all c.loop-ends.ends-index c.args.pairs.now c.loop-ends-test.false) c.loop-ends.invariant, λ all. refl)
