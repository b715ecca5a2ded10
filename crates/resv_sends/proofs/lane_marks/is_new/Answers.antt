use Rattle.std.proofs.Common.{not, ap, ◌∙◌}
use Rattle.std.proofs.lemmas.Bool.{both_ways}
use Rattle.router_state.specs.Whole.{state_of}
use Rattle.resv_sends.proofs.Used.{new_none, new_some}
use Rattle.resv_sends.proofs.lane_marks.is_new.Goals as goal

pub returns-then-not-is_empty : goal.returns-then-not-is_empty
returns-then-not-is_empty c = λ clock any.
    new_some clock (state_of c.args.tables.now any) c.args.session c.args.style c.args.hop c.args.said.now c.toward-now.result (c.toward-now.ensures clock any)
    (λ none. both_ways _ c.if-not-is_empty.true (c.is_empty.ensures.1 none)) c.is_said.result c.is_said.ensures

pub returns-else-not-is_empty : goal.returns-else-not-is_empty
returns-else-not-is_empty c = λ clock any.
    ap not c.if-not-is_empty.false ∙ new_none clock (state_of c.args.tables.now any) c.args.session c.args.style c.args.hop c.args.said.now c.toward-now.result (c.toward-now.ensures clock any)
    (c.is_empty.ensures.0 c.if-not-is_empty.false)
