use Rattle.std.proofs.Common.{◌≡◌, ◌≤◌, ◌∷◌, [], List, ℕ, length, length-append, ap, subst, sym, ◌∙◌, arith}
use Rattle.std.specs.Prelude.{◌/◌, unwrap_or}
use Rattle.tree_model.specs.Networks.{Net}
use Rattle.script_rules.specs.Listed.{facts_in}
use Rattle.script_rules.specs.Fitness.{ArePlaced}
use Rattle.script_rules.specs.Forcing.{IsOfNet}
use Rattle.script_rules.proofs.Places.{none_fit, placed_more}
use Rattle.script_rules.proofs.Forced.{nothing_forced}
use Rattle.script_rules.proofs.node.add_node.Goals as goal

pub invariant_of-state-2-clause-placed : goal.invariant_of-state-2-clause-placed
invariant_of-state-2-clause-placed c =
    let old = c.args.state.now in
    let size = ap length c.in_ok-add.ensures.ok ∙ length-append old.nodes (c.bytes-2.result.now ∷ []) in
    subst (λ (net : Net). ArePlaced (length c.add.new.self) net.ends) (sym c.add_node-2.ensures.added)
    (placed_more (length old.nodes) (length c.add.new.self) old.topology.ends (omega (arith, size)) old.placed)

pub invariant_of-state-2-clause-of_net : goal.invariant_of-state-2-clause-of_net
invariant_of-state-2-clause-of_net c = nothing_forced (IsOfNet c.add_node-2.new.self) c.args.state.now.force (c.args.state.now.moved (c.only_declares.ensures.0 c.if-not-only_declares.false).no_event)

pub invariant_of-state-2-clause-left_fit : goal.invariant_of-state-2-clause-left_fit
invariant_of-state-2-clause-left_fit c = none_fit (unwrap_or c.args.state.now.period 30000 / 4) c.add_node-2.new.self (facts_in c.add_node.new.self) c.add_node.ensures.none

pub invariant_of-state-2-clause-left_there : goal.invariant_of-state-2-clause-left_there
invariant_of-state-2-clause-left_there c = c.add_node.ensures.ends c.add_node-2.new.self.ends

pub invariant_of-state-in-Break-branch-2 : goal.invariant_of-state-in-Break-branch-2
invariant_of-state-in-Break-branch-2 c =
    let old = c.args.state.now in
    let same : c.add.new.self ≡ old.nodes = c.in_err-add.ensures.err in
    let more = c.in_ok-add_node.ensures.ok in
    let left = old.left_nodes in
    let size : length c.add.new.self ≡ length old.nodes = ap length same in
    record {
      minute = old.minute;
      long = old.long;
      quarters = old.quarters;
      same_nodes = old.same_nodes ∙ sym size;
      few_nodes = subst (λ (n : ℕ). n ≤ 256) (sym size) old.few_nodes;
      moved = old.moved;
      began = old.began;
      counted = old.counted;
      few_reports = old.few_reports;
      asked = old.asked;
      few_adverts = old.few_adverts;
      of_net = old.of_net;
      placed = subst (λ (names : List (List ℕ)). ArePlaced (length names) old.topology.ends) (sym same) old.placed;
      ends_there = old.ends_there;
      few_names = old.few_names;
      same_names = old.same_names;
      left_nodes = omega (arith, size, more, left);
      left_there = c.add_node.ensures.ends old.topology.ends;
      left_fit = none_fit (unwrap_or old.period 30000 / 4) old.topology (facts_in c.add_node.new.self) c.add_node.ensures.none;
    }
