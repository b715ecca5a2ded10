use Rattle.std.proofs.Common.{List, [], ◌∷◌, ◌++◌, None}
use Rattle.std.specs.Prelude.{map as each, Result, Err}
use Rattle.std.proofs.lemmas.Result.{err_from_is_err_and}
use Rattle.network_model.specs.Events.{Event, Reports, Rounds}
use Rattle.grown_network.specs.Grown.{send_event, want_event}
use Rattle.network_replay.specs.declared.world_err.WorldErr.{WorldErr}
use Rattle.grown_player.specs.Playing.{with_events}
use Rattle.grown_player.proofs.Played.{stopped, then_played}
use Rattle.grown_player.proofs.Shown.{shown_all}
use Rattle.grown_player.proofs.playing.play_plan.Goals as goal

pub returns-in_err-send_all-clause-runs : goal.returns-in_err-send_all-clause-runs
returns-in_err-send_all-clause-runs g c = λ p played.
    let see = g.R.Router.seen in
    let sends = each send_event c.args.senders.now in
    let rest : List Event = each want_event c.args.wants.now ++ Rounds c.args.rounds ∷ Reports None ∷ [] in
    let given = err_from_is_err_and c.from_residual.result c.from_residual.ensures.1 in
    let v = c.send_all.new.world in
    let out = c.send_all.new.out.items in
    rw (given.1, given.2) (stopped see p sends rest c.in_err-send_all.field-0.0 v v out out (c.in_err-send_all.ensures p played))

pub returns-in_err-want_all-clause-runs : goal.returns-in_err-want_all-clause-runs
returns-in_err-want_all-clause-runs g c = λ p played.
    let see = g.R.Router.seen in
    let sends = each send_event c.args.senders.now in
    let wants = each want_event c.args.wants.now in
    let last : List Event = Rounds c.args.rounds ∷ Reports None ∷ [] in
    let given = err_from_is_err_and c.from_residual-in_err-want_all.result c.from_residual-in_err-want_all.ensures.1 in
    let v = c.want_all.new.world in
    let out = c.want_all.new.out.items in
    let x = c.in_err-want_all.field-0.0 in
    let sent = with_events p sends in
    let stop = stopped see sent wants last x v v out out (c.in_err-want_all.ensures sent (c.in_ok-send_all.ensures p played)) in
    let r : Result (Unit {0}) WorldErr = Err x in
    rw (given.1, given.2) (then_played see p sends (wants ++ last) r v out stop)

pub returns-in_err-play-clause-runs : goal.returns-in_err-play-clause-runs
returns-in_err-play-clause-runs g c = λ p played.
    let see = g.R.Router.seen in
    let sends = each send_event c.args.senders.now in
    let wants = each want_event c.args.wants.now in
    let last : List Event = Rounds c.args.rounds ∷ Reports None ∷ [] in
    let given = err_from_is_err_and c.from_residual-in_err-play.result c.from_residual-in_err-play.ensures.1 in
    let v = c.play.new.world in
    let out = c.play.new.out.items in
    let x = c.in_err-play.field-0.0 in
    let sent = with_events p sends in
    let wanted = with_events sent wants in
    let stop = stopped see wanted (Rounds c.args.rounds ∷ []) (Reports None ∷ []) x v v out out (c.in_err-play.ensures.runs wanted (c.in_ok-want_all.ensures sent (c.in_ok-send_all.ensures p played))) in
    let r : Result (Unit {0}) WorldErr = Err x in
    rw (given.1, given.2) (then_played see p sends (wants ++ last) r v out (then_played see sent wants last r v out stop))

pub returns-clause-runs : goal.returns-clause-runs
returns-clause-runs g c = λ p played.
    let see = g.R.Router.seen in
    let sends = each send_event c.args.senders.now in
    let wants = each want_event c.args.wants.now in
    let last : List Event = Rounds c.args.rounds ∷ Reports None ∷ [] in
    let r = c.play-2.result in
    let v = c.play-2.new.world in
    let out = c.play-2.new.out.items in
    let sent = with_events p sends in
    let wanted = with_events sent wants in
    let run = with_events wanted (Rounds c.args.rounds ∷ []) in
    let done = c.play-2.ensures.runs run (c.in_ok-play.ensures.runs wanted (c.in_ok-want_all.ensures sent (c.in_ok-send_all.ensures p played))) in
    then_played see p sends (wants ++ last) r v out (then_played see sent wants last r v out (then_played see wanted (Rounds c.args.rounds ∷ []) (Reports None ∷ []) r v out done))

pub returns-in_err-send_all-clause-told : goal.returns-in_err-send_all-clause-told
returns-in_err-send_all-clause-told g c = λ p played.
    let given = err_from_is_err_and c.from_residual.result c.from_residual.ensures.1 in
    rw (given.1) tt

pub returns-in_err-want_all-clause-told : goal.returns-in_err-want_all-clause-told
returns-in_err-want_all-clause-told g c = λ p played.
    let given = err_from_is_err_and c.from_residual-in_err-want_all.result c.from_residual-in_err-want_all.ensures.1 in
    rw (given.1) tt

pub returns-in_err-play-clause-told : goal.returns-in_err-play-clause-told
returns-in_err-play-clause-told g c = λ p played.
    let given = err_from_is_err_and c.from_residual-in_err-play.result c.from_residual-in_err-play.ensures.1 in
    rw (given.1) tt

pub returns-clause-told : goal.returns-clause-told
returns-clause-told g c = λ p played.
    let xs = c.args.senders.now in
    let ws = c.args.wants.now in
    let n = c.args.rounds in
    let sent = with_events p (each send_event xs) in
    let wanted = with_events sent (each want_event ws) in
    let behind = c.in_ok-want_all.ensures sent (c.in_ok-send_all.ensures p played) in
    shown_all p xs ws n behind.roomy g.W.Watch.saw c.play-2.result c.args.watch.now c.play.new.watch c.play-2.new.watch (c.in_ok-play.ensures.told wanted behind)
    (c.play-2.ensures.told (with_events wanted (Rounds n ∷ [])) (c.in_ok-play.ensures.runs wanted behind))
