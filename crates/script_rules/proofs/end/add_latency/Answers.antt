use Rattle.std.specs.Prelude.{◌/◌, unwrap_or}
use Rattle.script_rules.specs.Forcing.{IsOfNet}
use Rattle.script_rules.specs.Listed.{facts_in}
use Rattle.script_rules.proofs.Forced.{nothing_forced}
use Rattle.script_rules.proofs.Listing.{books_of_none, list_none}
use Rattle.script_rules.proofs.Places.{none_fit, placed_latency, there_latency}
use Rattle.script_rules.proofs.end.add_latency.Goals as goal

pub invariant_of-state-2-clause-placed : goal.invariant_of-state-2-clause-placed
invariant_of-state-2-clause-placed c = placed_latency c.args.state.now.topology c.set_latency.new.self _ _ _ c.set_latency.ensures c.args.state.now.placed

pub invariant_of-state-2-clause-of_net : goal.invariant_of-state-2-clause-of_net
invariant_of-state-2-clause-of_net c = nothing_forced (IsOfNet c.set_latency.new.self) c.args.state.now.force (c.args.state.now.moved (c.only_declares.ensures.0 c.if-not-only_declares.false).no_event)

pub invariant_of-state-2-clause-ends_there : goal.invariant_of-state-2-clause-ends_there
invariant_of-state-2-clause-ends_there c = there_latency c.args.state.now.topology c.set_latency.new.self _ _ _ c.set_latency.ensures c.args.state.now.ends_there

pub invariant_of-state-2-clause-left_there : goal.invariant_of-state-2-clause-left_there
invariant_of-state-2-clause-left_there c =
    let left = c.args.state.now.left in
    books_of_none c.set_latency.new.self.ends left.facts.items left.nodes.items left.kept (list_none left.facts.items (c.only_declares.ensures.0 c.if-not-only_declares.false).no_fact)

pub invariant_of-state-2-clause-left_fit : goal.invariant_of-state-2-clause-left_fit
invariant_of-state-2-clause-left_fit c =
    none_fit (unwrap_or c.args.state.now.period 30000 / 4) c.set_latency.new.self (facts_in c.args.state.now.left) (c.only_declares.ensures.0 c.if-not-only_declares.false).no_fact
