use Rattle.std.proofs.Common.{◌<◌, Err, length, subst, sym}
use Rattle.tree_model.specs.Networks.{Net}
use Rattle.tree_routing.specs.Answers.{HopAnswer}
use Rattle.tree_routing.specs.declared.hop_err.HopErr.{HopErr}
use Rattle.script_rules.specs.Said.{draft_of}
use Rattle.script_rules.proofs.HopRules.{loop_named}
use Rattle.script_rules.proofs.LoopEnds.{there_with_hop}
use Rattle.script_rules.proofs.hop.grow.Goals as goal

pub closed-requires-clause-from : goal.closed-requires-clause-from
closed-requires-clause-from c =
    let net = c.args.state.now.topology in
    let answer = subst (λ (h : HopErr). HopAnswer net c.args.hop (Err h)) c.in-Err-Loop.field-0-is c.in-Err-Loop.ensures.answer in
    subst (λ (n : Net). c.in-Err-Loop.from < length n.ends) (sym c.in-Err-Loop.ensures.err) (there_with_hop net c.in-Err-Loop.ensures.valid c.args.hop answer.0 c.args.hop.group _ answer.2.on).0

pub closed-requires-clause-to : goal.closed-requires-clause-to
closed-requires-clause-to c =
    let net = c.args.state.now.topology in
    let answer = subst (λ (h : HopErr). HopAnswer net c.args.hop (Err h)) c.in-Err-Loop.field-0-is c.in-Err-Loop.ensures.answer in
    subst (λ (n : Net). c.in-Err-Loop.to < length n.ends) (sym c.in-Err-Loop.ensures.err) (there_with_hop net c.in-Err-Loop.ensures.valid c.args.hop answer.0 c.args.hop.group _ answer.2.on).1

pub returns-in-Err-Loop-clause-refused : goal.returns-in-Err-Loop-clause-refused
returns-in-Err-Loop-clause-refused c =
    let d = draft_of c.args.state.now in
    let answer = subst (λ (h : HopErr). HopAnswer d.net c.args.hop (Err h)) c.in-Err-Loop.field-0-is c.in-Err-Loop.ensures.answer in
    loop_named d c.args.hop c.in-Err-Loop.group c.in-Err-Loop.from c.in-Err-Loop.to answer c.closed.result c.closed.ensures

pub returns-in-Err-NoMemory-clause-asked : goal.returns-in-Err-NoMemory-clause-asked
returns-in-Err-NoMemory-clause-asked c = λ e.
    let d = draft_of c.args.state.now in
    subst (λ (h : HopErr). HopAnswer d.net c.args.hop (Err h)) c.in-Err-NoMemory.field-0-is c.in-Err-NoMemory.ensures.answer
