use Rattle.std.proofs.Common.{◌≤◌, ℕ, refl, sym, ap, subst, ◌∙◌}
use Rattle.std.specs.Prelude.{◌/◌}
use Rattle.rsvp_base.specs.TokenBucket.{IsSound}
use Rattle.style_rules.specs.declared.wall.Wall.{Wall}
use Rattle.tree_model.specs.Networks.{node_of}
use Rattle.script_grammar.specs.Draft.{period_of, wall_lifetime_of_period}
use Rattle.script_rules.specs.Said.{draft_of}
use Rattle.script_rules.proofs.FitFacts.{fit_hop_wall, sound}
use Rattle.script_rules.proofs.stale.add_hop_wall.Goals as goal

pub leave-requires-clause-fit : goal.leave-requires-clause-fit
leave-requires-clause-fit c =
    let d = draft_of c.args.state.now in
    let l = c.args.line in
    let range = c.in-Some.ensures.some.0 refl in
    let v = c.in-Some.ensures.value in
    let end = c.in-Some-end_of.ensures in
    let of = ap (node_of d.net.ends) end.end ∙ (end.some.0 refl).of_node ∙ sym end.node in
    fit_hop_wall (period_of d / 4) d.net c.in-Some-end_of.node c.in-Some-end_of.end end.end_there
    of c.in-Some.session c.iface_of.result c.in-Some.hop c.in-Some.wall c.in-Some.left (period_of d) c.iface_of.ensures
    (subst (λ (w : Wall). IsSound w.flow) (sym v.2) (sound l.flow range.flow)) c.args.state.now.quarters (subst (λ (m : ℕ). 1 ≤ m) (sym v.3) range.left.some)
    (subst (λ (m : ℕ). m ≤ wall_lifetime_of_period (period_of d)) (sym v.3) range.left.few)
