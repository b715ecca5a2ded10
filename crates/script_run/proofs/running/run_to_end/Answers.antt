use Rattle.std.proofs.Common.{◌≡◌, ◌≢◌, ◌∙◌, ◌++◌, ◌≤◌, List, ℕ, length, take, refl, sym, ap, subst, arith, inl, inr}
use Rattle.std.specs.Io.KnownBytes.{Appends}
use Rattle.byte_streams.specs.declared.answer.NextLine.TheVariants.{Line, Long, End, Fault, TooLong}
use Rattle.script_run.specs.Advised.{EndsAt}
use Rattle.script_run.specs.Playing.{IsRunOn, Stops}
use Rattle.byte_streams.proofs.Behind.{end_came, fault_came, goes_down, line_came, long_came, many_came}
use Rattle.script_run.proofs.Ended.{at_start, ended_at, ended_at_once, ended_done, ended_fault, ended_long, ended_many, ended_writing, one_more}
use Rattle.script_run.proofs.Told.{told_at, told_long}
use Rattle.script_run.specs.Shown.{ShowsOn}
use Rattle.script_run.proofs.Shown.{BothStand, nothing_shown, run_shown, stays_apart}
use Rattle.script_run.proofs.running.run_to_end.Goals as goal

pub returns-in-Err-clause-run : goal.returns-in-Err-clause-run
returns-in-Err-clause-run g c =
    let stands = BothStand g.P.Player.stands g.W.Watch.saw c.args.watch.now in
    ended_at_once stands (stands (c.args.player.now, c.args.watch.now)) (g.S.Source.left c.args.source.now) (g.K.Sink.holds c.args.sink.now)

pub returns-in-Err-make_room-clause-run : goal.returns-in-Err-make_room-clause-run
returns-in-Err-make_room-clause-run g c =
    let stands = BothStand g.P.Player.stands g.W.Watch.saw c.args.watch.now in
    ended_at_once stands (stands (c.args.player.now, c.args.watch.now)) (g.S.Source.left c.args.source.now) (g.K.Sink.holds c.args.sink.now)

pub loop-advice-init : goal.loop-advice-init
loop-advice-init g c = record {
  played = at_start (BothStand g.P.Player.stands g.W.Watch.saw c.args.watch.now) (g.S.Source.left c.args.source.now) (g.K.Sink.holds c.args.sink.now) c.in-Ok.reader
      (c.args.player.now, c.args.watch.now) c.in-Ok.ensures (c.requires.first, nothing_shown g.W.Watch.saw c.args.watch.now);
  read = omega arith;
  no_read_fault = refl;
  no_write_fault = refl;
  written = omega arith;
  quiet = c.in-Ok-make_room.ensures.empty;
  roomy = c.in-Ok-make_room.ensures.room;
}

pub returns-in-Long-clause-run : goal.returns-in-Long-clause-run
returns-in-Long-clause-run g c =
    let stands = BothStand g.P.Player.stands g.W.Watch.saw c.args.watch.now in
    let old = g.S.Source.left c.args.source.now in
    let mid = g.S.Source.left c.loop-advice.source in
    let new = g.S.Source.left c.next.new.source in
    let first = g.K.Sink.holds c.args.sink.now in
    let holds = g.K.Sink.holds c.loop-advice.sink in
    let r = c.loop-advice.reader in
    let now = c.next.new.self in
    let p = c.loop-advice.invariant.played in
    let e = c.in-Long.ensures in
    let fine : Long ≢ TooLong = λ x. cc in
    let l = long_came old mid new r now p.before p.taken p.behind (λ n. (e.again n).0) e.cut e.few (λ n. e.number n (inr refl)) in
    ended_long stands old mid new first holds r now (c.loop-advice.player, c.loop-advice.watch) p (stands (c.loop-advice.player, c.loop-advice.watch)) c.number.result l (e.within fine) c.number.ensures

pub returns-in-End-clause-run : goal.returns-in-End-clause-run
returns-in-End-clause-run g c =
    let stands = BothStand g.P.Player.stands g.W.Watch.saw c.args.watch.now in
    let old = g.S.Source.left c.args.source.now in
    let mid = g.S.Source.left c.loop-advice.source in
    let new = g.S.Source.left c.next.new.source in
    let first = g.K.Sink.holds c.args.sink.now in
    let holds = g.K.Sink.holds c.loop-advice.sink in
    let r = c.loop-advice.reader in
    let now = c.next.new.self in
    let p = c.loop-advice.invariant.played in
    let e = c.in-End.ensures in
    let fine : End ≢ TooLong = λ x. cc in
    let l = end_came old mid new r now p.before p.taken p.behind (λ n. (let a = e.again n in (a.0, a.1, ap (λ s. g.S.Source.left s) a.2))) e.cut (λ n. (e.end refl n).1) in
    ended_done stands old mid new first holds r now (c.loop-advice.player, c.loop-advice.watch) p l (e.within fine)

pub returns-in-Fault-clause-run : goal.returns-in-Fault-clause-run
returns-in-Fault-clause-run g c =
    let stands = BothStand g.P.Player.stands g.W.Watch.saw c.args.watch.now in
    let old = g.S.Source.left c.args.source.now in
    let mid = g.S.Source.left c.loop-advice.source in
    let new = g.S.Source.left c.next.new.source in
    let first = g.K.Sink.holds c.args.sink.now in
    let holds = g.K.Sink.holds c.loop-advice.sink in
    let r = c.loop-advice.reader in
    let now = c.next.new.self in
    let p = c.loop-advice.invariant.played in
    let e = c.in-Fault.ensures in
    let fine : Fault ≢ TooLong = λ x. cc in
    let l = fault_came old mid new r now p.before p.taken p.behind (λ n. (e.again n).0) e.cut in
    ended_fault stands old mid new first holds r now (c.loop-advice.player, c.loop-advice.watch) p (stands (c.loop-advice.player, c.loop-advice.watch)) l (e.within fine)

pub returns-in-TooLong-clause-run : goal.returns-in-TooLong-clause-run
returns-in-TooLong-clause-run g c =
    let stands = BothStand g.P.Player.stands g.W.Watch.saw c.args.watch.now in
    let old = g.S.Source.left c.args.source.now in
    let mid = g.S.Source.left c.loop-advice.source in
    let new = g.S.Source.left c.next.new.source in
    let first = g.K.Sink.holds c.args.sink.now in
    let holds = g.K.Sink.holds c.loop-advice.sink in
    let r = c.loop-advice.reader in
    let now = c.next.new.self in
    let p = c.loop-advice.invariant.played in
    let e = c.in-TooLong.ensures in
    let l = many_came old mid new r now p.before p.taken p.behind (λ n. (e.again n).0) e.cut (e.too_long refl) in
    ended_many stands old mid new first holds r now (c.loop-advice.player, c.loop-advice.watch) p (stands (c.loop-advice.player, c.loop-advice.watch)) l (e.too_long refl)

pub returns-in-Err-play-clause-run : goal.returns-in-Err-play-clause-run
returns-in-Err-play-clause-run g c =
    let stands = BothStand g.P.Player.stands g.W.Watch.saw c.args.watch.now in
    let old = g.S.Source.left c.args.source.now in
    let mid = g.S.Source.left c.loop-advice.source in
    let new = g.S.Source.left c.next.new.source in
    let first = g.K.Sink.holds c.args.sink.now in
    let holds = g.K.Sink.holds c.loop-advice.sink in
    let r = c.loop-advice.reader in
    let now = c.next.new.self in
    let p = c.loop-advice.invariant.played in
    let e = c.in-Line.ensures in
    let fine : Line ≢ TooLong = λ x. cc in
    let l = line_came old mid new r now p.before p.taken p.behind (λ n. (e.again n).0) e.cut (e.near refl) (λ n. e.number n (inl refl)) (e.last refl) in
    let not_run = c.in-Err-play in
    let stops = subst (λ t. Stops not_run.stop p.draft t) c.line.ensures.line (not_run.ensures p.draft p.text p.stands_there.0 p.run).0 in
    let stays = stays_apart (g.P.Player.stands c.play.new.self) (λ e. ShowsOn g.W.Watch.saw c.loop-advice.watch c.play.new.watch p.draft e) p.draft not_run.stop
    (not_run.ensures p.draft p.text p.stands_there.0 p.run).1 in
    let same = sym c.line-in-Err-play.ensures.line in
    let ends = c.advise-ends.ensures p.draft stays (subst (λ t. Stops not_run.stop p.draft t) same stops) in
    let ends_here = subst (λ t. Stops c.advise-ends.result p.draft t) c.line-in-Err-play.ensures.line ends.stops in
    rw c.ending_at.ensures (ended_at stands old mid new first holds r now (c.loop-advice.player, c.loop-advice.watch) p (stands (c.play.new.self, c.play.new.watch)) l
    (e.within fine) c.advise-ends.result c.number-number.result c.number-number.ensures ends_here)

pub loop-advice-smaller : goal.loop-advice-smaller
loop-advice-smaller g c =
    let stands = BothStand g.P.Player.stands g.W.Watch.saw c.args.watch.now in
    let old = g.S.Source.left c.args.source.now in
    let mid = g.S.Source.left c.loop-advice.source in
    let new = g.S.Source.left c.next.new.source in
    let first = g.K.Sink.holds c.args.sink.now in
    let holds = g.K.Sink.holds c.loop-advice.sink in
    let r = c.loop-advice.reader in
    let now = c.next.new.self in
    let p = c.loop-advice.invariant.played in
    let e = c.in-Line.ensures in
    let fine : Line ≢ TooLong = λ x. cc in
    goes_down old mid new r now p.before p.taken p.behind (λ n. (e.again n).0) e.cut (e.within fine)

pub loop-advice-preserved : goal.loop-advice-preserved
loop-advice-preserved g c =
    let stands = BothStand g.P.Player.stands g.W.Watch.saw c.args.watch.now in
    let old = g.S.Source.left c.args.source.now in
    let mid = g.S.Source.left c.loop-advice.source in
    let new = g.S.Source.left c.next.new.source in
    let first = g.K.Sink.holds c.args.sink.now in
    let holds = g.K.Sink.holds c.loop-advice.sink in
    let r = c.loop-advice.reader in
    let now = c.next.new.self in
    let p = c.loop-advice.invariant.played in
    let e = c.in-Line.ensures in
    let fine : Line ≢ TooLong = λ x. cc in
    let l = line_came old mid new r now p.before p.taken p.behind (λ n. (e.again n).0) e.cut (e.near refl) (λ n. e.number n (inl refl)) (e.last refl) in
    let ran = c.in-Ok-play.ensures p.draft p.text p.stands_there.0 p.run in
    let own = ran.0 in
    let all : c.as_slice.result.now ≡ own = c.as_slice.ensures.value ∙ ran.1 ∙ ap (λ (o : List ℕ). o ++ own) c.clear-in-loop-advice.ensures.items in
    let shown = run_shown g.W.Watch.saw (g.P.Player.stands c.play.new.self) c.args.watch.now c.loop-advice.watch c.play.new.watch p.draft c.line.result.now p.text own p.stands_there.1 ran.2 in
    let on = subst (λ t. IsRunOn (stands (c.play.new.self, c.play.new.watch)) p.draft t p.text own) c.line.ensures.line shown in
    let later = g.K.Sink.holds c.write_all.new.sink in
    record {
      played = one_more stands old mid new first holds r now (c.loop-advice.player, c.loop-advice.watch) p l (c.play.new.self, c.play.new.watch) later own on (subst (λ t. Appends holds later t) all c.in-Ok-write_all.ensures.written);
      read = omega (arith, c.loop-advice.invariant.read, c.next.ensures.later);
      no_read_fault = e.no_fault (λ x. cc) ∙ c.loop-advice.invariant.no_read_fault;
      no_write_fault = c.in-Ok-write_all.ensures.no_fault ∙ c.loop-advice.invariant.no_write_fault;
      written = omega (arith, c.loop-advice.invariant.written, c.write_all.ensures.cause.later);
      quiet = c.loop-advice.invariant.quiet;
      roomy = c.loop-advice.invariant.roomy;
    }

pub returns-in-Err-write_all-clause-run : goal.returns-in-Err-write_all-clause-run
returns-in-Err-write_all-clause-run g c =
    let stands = BothStand g.P.Player.stands g.W.Watch.saw c.args.watch.now in
    let old = g.S.Source.left c.args.source.now in
    let mid = g.S.Source.left c.loop-advice.source in
    let new = g.S.Source.left c.next.new.source in
    let first = g.K.Sink.holds c.args.sink.now in
    let holds = g.K.Sink.holds c.loop-advice.sink in
    let r = c.loop-advice.reader in
    let now = c.next.new.self in
    let p = c.loop-advice.invariant.played in
    let e = c.in-Line.ensures in
    let fine : Line ≢ TooLong = λ x. cc in
    let l = line_came old mid new r now p.before p.taken p.behind (λ n. (e.again n).0) e.cut (e.near refl) (λ n. e.number n (inl refl)) (e.last refl) in
    let ran = c.in-Ok-play.ensures p.draft p.text p.stands_there.0 p.run in
    let own = ran.0 in
    let all : c.as_slice.result.now ≡ own = c.as_slice.ensures.value ∙ ran.1 ∙ ap (λ (o : List ℕ). o ++ own) c.clear-in-loop-advice.ensures.items in
    let shown = run_shown g.W.Watch.saw (g.P.Player.stands c.play.new.self) c.args.watch.now c.loop-advice.watch c.play.new.watch p.draft c.line.result.now p.text own p.stands_there.1 ran.2 in
    let on = subst (λ t. IsRunOn (stands (c.play.new.self, c.play.new.watch)) p.draft t p.text own) c.line.ensures.line shown in
    let later = g.K.Sink.holds c.write_all.new.sink in
    let (n, few, front) = c.in-Err-write_all.ensures.stopped in
    ended_writing stands old mid new first holds r now (c.loop-advice.player, c.loop-advice.watch) p (stands (c.play.new.self, c.play.new.watch)) l (e.within fine) later own n on (subst (λ (t : List ℕ). n ≤ length t) all few)
    (subst (λ t. Appends holds later (take n t)) all front)

pub returns-in-Long-clause-advised : goal.returns-in-Long-clause-advised
returns-in-Long-clause-advised g c = λ bytes known.
    let stands = BothStand g.P.Player.stands g.W.Watch.saw c.args.watch.now in
    let old = g.S.Source.left c.args.source.now in
    let mid = g.S.Source.left c.loop-advice.source in
    let new = g.S.Source.left c.next.new.source in
    let first = g.K.Sink.holds c.args.sink.now in
    let holds = g.K.Sink.holds c.loop-advice.sink in
    let r = c.loop-advice.reader in
    let now = c.next.new.self in
    let p = c.loop-advice.invariant.played in
    let e = c.in-Long.ensures in
    let l = long_came old mid new r now p.before p.taken p.behind (λ n. (e.again n).0) e.cut e.few (λ n. e.number n (inr refl)) in
    told_long stands old mid new first holds r now (c.loop-advice.player, c.loop-advice.watch) p bytes c.put_long.new.advice.items known c.number.result l c.number.ensures c.put_long.ensures

pub returns-in-Err-play-clause-advised : goal.returns-in-Err-play-clause-advised
returns-in-Err-play-clause-advised g c = λ bytes known.
    let stands = BothStand g.P.Player.stands g.W.Watch.saw c.args.watch.now in
    let old = g.S.Source.left c.args.source.now in
    let mid = g.S.Source.left c.loop-advice.source in
    let new = g.S.Source.left c.next.new.source in
    let first = g.K.Sink.holds c.args.sink.now in
    let holds = g.K.Sink.holds c.loop-advice.sink in
    let r = c.loop-advice.reader in
    let now = c.next.new.self in
    let p = c.loop-advice.invariant.played in
    let e = c.in-Line.ensures in
    let l = line_came old mid new r now p.before p.taken p.behind (λ n. (e.again n).0) e.cut (e.near refl) (λ n. e.number n (inl refl)) (e.last refl) in
    let not_run = c.in-Err-play in
    let stops = subst (λ t. Stops not_run.stop p.draft t) c.line.ensures.line (not_run.ensures p.draft p.text p.stands_there.0 p.run).0 in
    let stays = stays_apart (g.P.Player.stands c.play.new.self) (λ e. ShowsOn g.W.Watch.saw c.loop-advice.watch c.play.new.watch p.draft e) p.draft not_run.stop
    (not_run.ensures p.draft p.text p.stands_there.0 p.run).1 in
    let same = sym c.line-in-Err-play.ensures.line in
    let ends = subst (λ t. EndsAt p.draft t c.number-number.result c.advise-ends.result c.advise-ends.new.advice.items) c.line-in-Err-play.ensures.line
    (c.advise-ends.ensures p.draft stays (subst (λ t. Stops not_run.stop p.draft t) same stops)) in
    rw c.ending_at.ensures (told_at stands old mid new first holds r now (c.loop-advice.player, c.loop-advice.watch) p bytes c.advise-ends.new.advice.items known l c.number-number.result c.number-number.ensures
    c.advise-ends.result ends.stops ends.advised)
