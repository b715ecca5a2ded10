use Rattle.std.proofs.Common.{inl, refl, sym, subst}
use Rattle.calm_rounds.specs.Machine.{run}
use Rattle.network_model.specs.Happenings.{event_with}
use Rattle.network_replay.specs.Agreeing.{Agrees}
use Rattle.network_replay.specs.Happening.{CanHappen}
use Rattle.network_replay.specs.Sights.{Happened, Next, event_sights}
use Rattle.script_grammar.specs.Events.{steps_of}
use Rattle.script_grammar.specs.Runs.{last_world}
use Rattle.script_grammar.specs.Steps.{machine}
use Rattle.script_run.specs.Standing.{IsNetworkOf}
use Rattle.script_run.proofs.Ran.{onto}
use Rattle.script_run.proofs.Shown.{agrees_on, around}
use Rattle.script_run.proofs.script_player.happen.Goals as goal

pub returns-clause-runs : goal.returns-clause-runs
returns-clause-runs g c = λ p a read network plan roomy.
    let see = g.R.Router.seen in
    let e = event_with a c.args.event.now in
    let before : IsNetworkOf see c.take.result p = subst (λ w. IsNetworkOf see w p) (sym c.take.ensures.value) network in
    let stands = c.in-Ok.ensures.stands p e before plan in
    let ran = c.run_event in
    onto see ran.new.world p e c.in-Ok-run_event.result c.args.out.now.items ran.new.out.items (c.in-Ok-run_event.ensures.runs p a read stands roomy)

pub returns-clause-told : goal.returns-clause-told
returns-clause-told g c = λ p a read network plan roomy.
    let see = g.R.Router.seen in
    let saw = g.W.Watch.saw in
    let q = p.quarter in
    let e = event_with a c.args.event.now in
    let w = last_world p in
    let v = run (machine q) (steps_of q e w) w in
    let before : IsNetworkOf see c.take.result p = subst (λ w. IsNetworkOf see w p) (sym c.take.ensures.value) network in
    let stands = c.in-Ok.ensures.stands p e before plan in
    let ran = c.run_event in
    let r = c.in-Ok-run_event.result in
    let agrees = agrees_on see ran.new.world p e r c.args.out.now.items ran.new.out.items roomy (c.in-Ok-run_event.ensures.runs p a read stands roomy) in
    around saw r c.args.watch.now c.happens.new.self ran.new.watch c.show_happened.new.watch (Next w) (Happened v e) (event_sights q e w) (Agrees see q ran.new.world v)
    (c.happens.ensures q w stands.agrees) (c.in-Ok-run_event.ensures.told p a read stands) agrees (c.show_happened.ensures.ok q v a read) c.show_happened.ensures.err

pub returns-in_default-clause-tree : goal.returns-in_default-clause-tree
returns-in_default-clause-tree g c = λ p e network plan err can.
    let see = g.R.Router.seen in
    let before : IsNetworkOf see c.take.result p = subst (λ w. IsNetworkOf see w p) (sym c.take.ensures.value) network in
    let stands = c.in-Ok.ensures.stands p e before plan in
    c.in_default.ensures.tree refl (subst (λ n. CanHappen n c.args.event.now) stands.agrees.net can)

pub returns-in-Err-clause-runs : goal.returns-in-Err-clause-runs
returns-in-Err-clause-runs g c = λ p a read network plan roomy.
    let see = g.R.Router.seen in
    let before : IsNetworkOf see c.take.result p = subst (λ w. IsNetworkOf see w p) (sym c.take.ensures.value) network in
    inl (subst (λ w. IsNetworkOf see w p) c.in-Err.ensures.opened before)
