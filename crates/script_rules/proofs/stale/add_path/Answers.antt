use Rattle.std.proofs.Common.{rules, ◌≤◌, ℕ, false, None, refl, sym, ap, subst, ◌∙◌}
use Rattle.std.specs.Prelude.{◌/◌}
use Rattle.path_state.specs.declared.fact.PathFact.{PathFact}
use Rattle.rsvp_base.specs.TokenBucket.{IsSound}
use Rattle.tree_model.specs.Networks.{node_of}
use Rattle.script_grammar.specs.Draft.{lifetime_of_period, period_of}
use Rattle.script_rules.specs.Said.{draft_of}
use Rattle.script_rules.proofs.FitFacts.{fit_path, sound}
use Rattle.script_rules.proofs.stale.add_path.Goals as goal

pub leave-requires-clause-fit : goal.leave-requires-clause-fit
leave-requires-clause-fit c =
    let d = draft_of c.args.state.now in
    let l = c.args.line in
    let range = c.in-Some.ensures.some.0 refl in
    let v = c.in-Some.ensures.value in
    let end = c.in-Some-end_of.ensures in
    let of = ap (node_of d.net.ends) end.end ∙ (end.some.0 refl).of_node ∙ sym end.node in
    let f : PathFact = record {
      session = c.in-Some.session;
      sender = c.in-Some.sender;
      iface = c.iface_of.result;
      hop = record { addr = c.in-Some.hop; handle = 0 };
      tspec = c.in-Some.tspec;
      police = false;
      adspec = None;
    } in
    let fit = fit_path (period_of d / 4) d.net c.in-Some-end_of.node c.in-Some-end_of.end end.end_there
    of f c.in-Some.left c.iface_of.ensures (subst IsSound (sym v.3) (sound l.flow range.flow)) tt c.args.state.now.long
    (subst (λ (m : ℕ). 1 ≤ m) (sym v.4) range.left.some) (subst (λ (m : ℕ). m ≤ lifetime_of_period (period_of d)) (sym v.4) range.left.few) in search (rules, fit)
