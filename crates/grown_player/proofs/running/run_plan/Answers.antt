use Rattle.std.proofs.Common.{List, ℕ, subst, sym, ◌∙◌}
use Rattle.std.proofs.lemmas.Result.{err_from_is_err_and}
use Rattle.grown_network.specs.Grown.{grown_plan}
use Rattle.grown_player.specs.Playing.{IsPlayed}
use Rattle.grown_player.specs.Growing.{first_plan}
use Rattle.grown_player.proofs.Grown.{all_fit, crowded_by, nothing_played, played_all, whole_plan}
use Rattle.grown_player.proofs.Shown.{shown_grown}
use Rattle.grown_player.proofs.running.run_plan.Goals as goal

pub play_plan-requires : goal.play_plan-requires
play_plan-requires g c = all_fit c.args.seed c.as_slice-2.result.now (c.as_slice-2.ensures.value ∙ c.in-Ok.ensures.wants)

pub returns-in_err-play_plan-clause-crowded : goal.returns-in_err-play_plan-clause-crowded
returns-in_err-play_plan-clause-crowded g c =
    let given = err_from_is_err_and c.from_residual.result c.from_residual.ensures.1 in
    rw (given.1, given.2)
    (crowded_by g.R.Router.seen c.args.seed c.as_slice.result.now c.as_slice-2.result.now c.in-Ok.grown.rounds (c.as_slice.ensures.value ∙ c.in-Ok.ensures.senders)
    (c.as_slice-2.ensures.value ∙ c.in-Ok.ensures.wants) c.in-Ok.ensures.rounds c.in-Ok-open.world
    c.play_plan.new.world c.new-report.result.items c.play_plan.new.out.items c.new-report.ensures.items c.in-Ok-open.ensures c.in_err-play_plan.field-0.0 c.in_err-play_plan.ensures.runs)

pub sum_up-requires-clause-played : goal.sum_up-requires-clause-played
sum_up-requires-clause-played g c =
    let done =
    played_all g.R.Router.seen c.args.seed c.as_slice.result.now c.as_slice-2.result.now c.in-Ok.grown.rounds (c.as_slice.ensures.value ∙ c.in-Ok.ensures.senders)
    (c.as_slice-2.ensures.value ∙ c.in-Ok.ensures.wants) c.in-Ok.ensures.rounds c.in-Ok-open.world
    c.play_plan.new.world c.new-report.result.items c.play_plan.new.out.items c.new-report.ensures.items c.in-Ok-open.ensures c.in_ok-play_plan.ensures.runs in
    subst (λ (t : List ℕ). IsPlayed g.R.Router.seen (grown_plan c.args.seed) c.play_plan.new.world t) (sym c.as_slice-3.ensures.value) done

pub returns-clause-roomy : goal.returns-clause-roomy
returns-clause-roomy g c =
    (played_all g.R.Router.seen c.args.seed c.as_slice.result.now c.as_slice-2.result.now c.in-Ok.grown.rounds (c.as_slice.ensures.value ∙ c.in-Ok.ensures.senders)
    (c.as_slice-2.ensures.value ∙ c.in-Ok.ensures.wants) c.in-Ok.ensures.rounds c.in-Ok-open.world
    c.play_plan.new.world c.new-report.result.items c.play_plan.new.out.items c.new-report.ensures.items c.in-Ok-open.ensures c.in_ok-play_plan.ensures.runs).roomy

pub returns-clause-stands : goal.returns-clause-stands
returns-clause-stands g c =
    (played_all g.R.Router.seen c.args.seed c.as_slice.result.now c.as_slice-2.result.now c.in-Ok.grown.rounds (c.as_slice.ensures.value ∙ c.in-Ok.ensures.senders)
    (c.as_slice-2.ensures.value ∙ c.in-Ok.ensures.wants) c.in-Ok.ensures.rounds c.in-Ok-open.world
    c.play_plan.new.world c.new-report.result.items c.play_plan.new.out.items c.new-report.ensures.items c.in-Ok-open.ensures c.in_ok-play_plan.ensures.runs).stands

pub returns-clause-told : goal.returns-clause-told
returns-clause-told g c =
    let seed = c.args.seed in
    let xs = c.as_slice.result.now in
    let ws = c.as_slice-2.result.now in
    let n = c.in-Ok.grown.rounds in
    let whole = whole_plan seed xs ws n (c.as_slice.ensures.value ∙ c.in-Ok.ensures.senders) (c.as_slice-2.ensures.value ∙ c.in-Ok.ensures.wants) c.in-Ok.ensures.rounds in
    shown_grown seed xs ws n whole g.W.Watch.saw c.args.watch.now c.play_plan.new.watch
    (c.in_ok-play_plan.ensures.told (first_plan seed) (nothing_played g.R.Router.seen seed c.in-Ok-open.world c.new-report.result.items c.new-report.ensures.items c.in-Ok-open.ensures))
