use Rattle.std.proofs.Common.{◌<◌, Err, length, subst}
use Rattle.tree_model.specs.Networks.{Net}
use Rattle.tree_routing.specs.Reroutes.{RerouteAnswer}
use Rattle.tree_routing.specs.declared.hop_err.HopErr.{HopErr}
use Rattle.script_rules.specs.Said.{draft_of}
use Rattle.script_rules.proofs.LoopEnds.{there_rerouted}
use Rattle.script_rules.proofs.RerouteRules.{tree_loop_named}
use Rattle.script_rules.proofs.reroute.moved_in.Goals as goal

pub closed-requires-clause-from : goal.closed-requires-clause-from
closed-requires-clause-from c =
    let net = c.args.force.now in
    let answer = subst (λ (h : HopErr). RerouteAnswer {R = Net} net c.args.group c.args.source c.args.hops.now (Err h)) c.in-Err-Loop.field-0-is c.in-Err-Loop.ensures.answer in
    subst (λ (n : Net). c.in-Err-Loop.from < length n.ends) c.requires
    (there_rerouted net c.nodes-nodes.ensures.valid c.args.group c.args.source c.args.hops.now answer.0 c.args.group _ answer.2.on).0

pub closed-requires-clause-to : goal.closed-requires-clause-to
closed-requires-clause-to c =
    let net = c.args.force.now in
    let answer = subst (λ (h : HopErr). RerouteAnswer {R = Net} net c.args.group c.args.source c.args.hops.now (Err h)) c.in-Err-Loop.field-0-is c.in-Err-Loop.ensures.answer in
    subst (λ (n : Net). c.in-Err-Loop.to < length n.ends) c.requires
    (there_rerouted net c.nodes-nodes.ensures.valid c.args.group c.args.source c.args.hops.now answer.0 c.args.group _ answer.2.on).1

pub returns-in-Err-Loop-clause-refused : goal.returns-in-Err-Loop-clause-refused
returns-in-Err-Loop-clause-refused c =
    let net = c.args.force.now in
    let answer = subst (λ (h : HopErr). RerouteAnswer {R = Net} net c.args.group c.args.source c.args.hops.now (Err h)) c.in-Err-Loop.field-0-is c.in-Err-Loop.ensures.answer in
    tree_loop_named Net (draft_of c.args.state.now) net c.args.group c.args.source c.args.hops.now c.in-Err-Loop.group c.in-Err-Loop.from c.in-Err-Loop.to c.requires
    (c.has_room_for_tree.ensures.0 c.if-not-has_room_for_tree.false) answer c.closed.result c.closed.ensures
