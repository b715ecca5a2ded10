use Rattle.std.proofs.Common.{ℕ, Some, None, sym, ap, ◌∙◌}
use Rattle.std.specs.Option.{option_map}
use Rattle.path_state.specs.Paths.{path_keys}
use Rattle.path_state.specs.declared.fact.PathFact.{PathFact}
use Rattle.rsvp_base.specs.Table.{Table, get}
use Rattle.router_arrivals.proofs.Offering.{path_by}
use Rattle.router_arrivals.proofs.withdrawal.path_by.Goals as goal

pub returns-in_default-clause-by : goal.returns-in_default-clause-by
returns-in_default-clause-by c = λ clock n same.
    path_by clock n (c.args.session, c.args.sender) (c.args.iface, c.args.hop) None (c.in_default.ensures.fact
    ∙ ap (λ (m : Table path_keys (PathFact × ℕ)). option_map (λ (e : PathFact × ℕ). e.0) (get m (c.args.session, c.args.sender))) (sym same))

pub returns-then-not-came_by-clause-by : goal.returns-then-not-came_by-clause-by
returns-then-not-came_by-clause-by c = λ clock n same.
    sym c.if-not-came_by.true
    ∙ c.came_by.ensures ∙ path_by clock n (c.args.session, c.args.sender) (c.args.iface, c.args.hop) (Some c.in-Some.fact.now)
    (c.in-Some.ensures.fact ∙ ap (λ (m : Table path_keys (PathFact × ℕ)). option_map (λ (e : PathFact × ℕ). e.0) (get m (c.args.session, c.args.sender))) (sym same))

pub returns-clause-by : goal.returns-clause-by
returns-clause-by c = λ clock n same.
    sym c.if-not-came_by.false
    ∙ c.came_by.ensures ∙ path_by clock n (c.args.session, c.args.sender) (c.args.iface, c.args.hop) (Some c.in-Some.fact.now)
    (c.in-Some.ensures.fact ∙ ap (λ (m : Table path_keys (PathFact × ℕ)). option_map (λ (e : PathFact × ℕ). e.0) (get m (c.args.session, c.args.sender))) (sym same))

pub returns-clause-fact : goal.returns-clause-fact
returns-clause-fact c = sym c.in-Some.ensures.fact
