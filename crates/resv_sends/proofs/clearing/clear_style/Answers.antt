use Rattle.std.proofs.Common.{◌+◌, subst, sym, ◌∙◌, take}
use Rattle.std.proofs.lemmas.List.{take_all}
use Rattle.laws_sends.specs.Saying.{IsCleared}
use Rattle.laws_sends.proofs.Saying.{cleared_none}
use Rattle.router_state.specs.Whole.{state_of}
use Rattle.resv_sends.specs.Rounds.{lanes_of}
use Rattle.resv_sends.proofs.Cleared.{step_cleared}
use Rattle.resv_sends.proofs.clearing.clear_style.Goals as goal

pub loop-i-init : goal.loop-i-init
loop-i-init c = cleared_none (state_of c.args.tables.now c.args.said.now) c.args.session c.requires

pub loop-i-preserved : goal.loop-i-preserved
loop-i-preserved c =
    subst (IsCleared (state_of c.args.tables.now c.args.said.now) c.args.session (lanes_of c.args.style (take (c.loop-i.i + 1) c.as_slice-list.result.now))) (sym c.clear_lane.ensures)
    (step_cleared c.args.tables.now c.args.said.now c.args.session c.args.style c.as_slice-list.result.now c.loop-i.i _ c.loop-i-test.true c.loop-i.said c.loop-i.invariant c.limits.ensures.keyed)

pub returns : goal.returns
returns c =
    subst (λ hops. IsCleared (state_of c.args.tables.now c.args.said.now) c.args.session (lanes_of c.args.style hops) c.loop-i.said)
    (take_all c.loop-i.i c.as_slice-list.result.now c.loop-i-test.false ∙ c.as_slice-list.ensures.hops) c.loop-i.invariant
