use Rattle.std.proofs.Common.{rules, List, subst}
use Rattle.std.specs.Prelude.{◌/◌, unwrap_or}
use Rattle.stale_state.specs.Fit.{place_of}
use Rattle.stale_state.specs.Kept.{stale_of}
use Rattle.stale_state.specs.Listed.{IsOfEnds, facts_in, left_at}
use Rattle.stale_state.specs.declared.fact.LeftOver.{LeftOver}
use Rattle.router_rules.specs.Steps.{IsFitStale}
use Rattle.tree_model.specs.declared.hops.End.{End}
use Rattle.script_rules.specs.Said.{draft_of}
use Rattle.script_rules.proofs.LeftRules.{all_still, is_full, is_over}
use Rattle.script_rules.proofs.stale.leave.Goals as goal

pub returns-in-Err-Full-clause-refused : goal.returns-in-Err-Full-clause-refused
returns-in-Err-Full-clause-refused c =
    is_full (draft_of c.args.state.now) c.args.node c.args.session (stale_of c.args.fact c.args.left) (c.has_room_for_session.ensures.0 c.if-not-has_room_for_session.false) (search rules)

pub returns-in-Err-Over-clause-refused : goal.returns-in-Err-Over-clause-refused
returns-in-Err-Over-clause-refused c =
    is_over (draft_of c.args.state.now) c.args.node c.args.session (stale_of c.args.fact c.args.left) (c.has_room_for_session.ensures.0 c.if-not-has_room_for_session.false) _ (search rules)

pub invariant_of-state-clause-left_there : goal.invariant_of-state-clause-left_there
invariant_of-state-clause-left_there c = subst (λ (es : List End). IsOfEnds es c.add.new.self) c.ends.ensures c.add.ensures.ends

pub invariant_of-state-clause-left_fit : goal.invariant_of-state-clause-left_fit
invariant_of-state-clause-left_fit c =
    let now = c.args.state.now in
    let fit : LeftOver → Type 0 = λ l. IsFitStale (place_of (unwrap_or now.period 30000 / 4) now.topology l.node) 0 (stale_of l.fact l.left) in
    all_still fit c.add.result (facts_in now.left) (facts_in c.add.new.self) (left_at c.args.node c.args.fact c.args.left) now.left_fit c.requires.fit c.add.ensures.facts c.add.ensures.err_facts
