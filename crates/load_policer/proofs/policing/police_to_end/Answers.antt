use Rattle.std.proofs.Common.{◌≢◌, ◌∙◌, List, ℕ, refl, ap, subst, arith, inl, inr}
use Rattle.byte_streams.specs.Streams.{Held}
use Rattle.byte_streams.specs.declared.answer.NextLine.TheVariants.{Line, Long, End, Fault, TooLong}
use Rattle.byte_streams.proofs.Behind.{end_came, fault_came, goes_down, is_open, line_came, long_came, many_came}
use Rattle.load_policer.specs.Advice.{IsAdvice}
use Rattle.load_policer.specs.Drafts.{Draft, HasFault}
use Rattle.load_policer.specs.Finishing.{Finishes, IsAdvisedAt}
use Rattle.load_policer.specs.Standings.{IsAdded, Stands}
use Rattle.load_policer.specs.declared.ending.Ending.TheVariants.{BadLine}
use Rattle.load_policer.proofs.Ended.{at_start, ended_at_once, ended_bad, ended_done, ended_fault, ended_here, ended_long, ended_many, flushed, one_more, advised_bad, advised_long}
use Rattle.load_policer.proofs.Finishing.{none_waits, quiet_so}
use Rattle.load_policer.proofs.policing.police_to_end.Goals as goal

pub returns-in-Err-clause-policed : goal.returns-in-Err-clause-policed
returns-in-Err-clause-policed g c = ended_at_once (g.S.Source.left c.args.source.now) (g.K.Sink.holds c.args.sink.now)

pub returns-in-Err-room-clause-policed : goal.returns-in-Err-room-clause-policed
returns-in-Err-room-clause-policed g c = ended_at_once (g.S.Source.left c.args.source.now) (g.K.Sink.holds c.args.sink.now)

pub returns-in-Err-make_room-clause-policed : goal.returns-in-Err-make_room-clause-policed
returns-in-Err-make_room-clause-policed g c = ended_at_once (g.S.Source.left c.args.source.now) (g.K.Sink.holds c.args.sink.now)

pub loop-out-init : goal.loop-out-init
loop-out-init g c = record {
  policed = at_start (g.S.Source.left c.args.source.now)
      (g.K.Sink.holds c.args.sink.now) c.in-Ok.reader c.new-standing.result c.in-Ok-room.out.items c.in-Ok.ensures c.new-standing.ensures c.in-Ok-room.ensures.items;
  within = omega (arith, ap (λ (h : Held). h.taken) c.in-Ok.ensures);
  room = c.in-Ok-room.ensures.room;
  read = omega arith;
  no_read_fault = refl;
  no_write_fault = refl;
  written = omega arith;
  quiet = c.in-Ok-make_room.ensures.empty;
  roomy = c.in-Ok-make_room.ensures.room;
}

pub returns-in-Err-write_waiting-clause-policed : goal.returns-in-Err-write_waiting-clause-policed
returns-in-Err-write_waiting-clause-policed g c =
    let old = g.S.Source.left c.args.source.now in
    let mid = g.S.Source.left c.loop-out.source in
    let first = g.K.Sink.holds c.args.sink.now in
    let holds = g.K.Sink.holds c.loop-out.sink in
    let err = c.in-Err-write_waiting.ensures.err in
    ended_here old mid first holds c.loop-out.reader c.loop-out.standing c.loop-out.out.items c.loop-out.invariant.policed
    (g.K.Sink.holds c.write_waiting.new.sink) c.loop-out.invariant.within err.0 err.1

pub returns-in-Long-clause-policed : goal.returns-in-Long-clause-policed
returns-in-Long-clause-policed g c =
    let old = g.S.Source.left c.args.source.now in
    let mid = g.S.Source.left c.loop-out.source in
    let new = g.S.Source.left c.next.new.source in
    let first = g.K.Sink.holds c.args.sink.now in
    let holds = g.K.Sink.holds c.loop-out.sink in
    let held = g.K.Sink.holds c.write_waiting.new.sink in
    let r = c.loop-out.reader in
    let now = c.next.new.self in
    let s = c.loop-out.standing in
    let waits = c.write_waiting.new.out.items in
    let p = flushed old mid first holds r s c.loop-out.out.items c.loop-out.invariant.policed held waits c.in-Ok-write_waiting.ensures.ok in
    let e = c.in-Long.ensures in
    let fine : Long ≢ TooLong = λ x. cc in
    let l = long_came old mid new r now p.before p.taken p.behind (λ n. (e.again n).0) e.cut e.few (λ n. e.number n (inr refl)) in
    ended_long old mid first held r s waits p new (g.K.Sink.holds c.end_long.new.sink) now l (e.within fine) c.number.result c.number.ensures c.end_long.result c.end_long.ensures.ended

pub returns-in-Long-clause-advised : goal.returns-in-Long-clause-advised
returns-in-Long-clause-advised g c = λ bytes known.
    let old = g.S.Source.left c.args.source.now in
    let mid = g.S.Source.left c.loop-out.source in
    let new = g.S.Source.left c.next.new.source in
    let first = g.K.Sink.holds c.args.sink.now in
    let holds = g.K.Sink.holds c.loop-out.sink in
    let held = g.K.Sink.holds c.write_waiting.new.sink in
    let r = c.loop-out.reader in
    let now = c.next.new.self in
    let s = c.loop-out.standing in
    let waits = c.write_waiting.new.out.items in
    let p = flushed old mid first holds r s c.loop-out.out.items c.loop-out.invariant.policed held waits c.in-Ok-write_waiting.ensures.ok in
    let e = c.in-Long.ensures in
    let l = long_came old mid new r now p.before p.taken p.behind (λ n. (e.again n).0) e.cut e.few (λ n. e.number n (inr refl)) in
    advised_long old mid first held r s waits p new
    (g.K.Sink.holds c.end_long.new.sink) now bytes c.end_long.new.advice.items known l c.number.result c.number.ensures c.end_long.result c.end_long.ensures.ended c.end_long.ensures.advised

pub returns-in-End-clause-policed : goal.returns-in-End-clause-policed
returns-in-End-clause-policed g c =
    let old = g.S.Source.left c.args.source.now in
    let mid = g.S.Source.left c.loop-out.source in
    let new = g.S.Source.left c.next.new.source in
    let first = g.K.Sink.holds c.args.sink.now in
    let holds = g.K.Sink.holds c.loop-out.sink in
    let held = g.K.Sink.holds c.write_waiting.new.sink in
    let r = c.loop-out.reader in
    let now = c.next.new.self in
    let s = c.loop-out.standing in
    let waits = c.write_waiting.new.out.items in
    let p = flushed old mid first holds r s c.loop-out.out.items c.loop-out.invariant.policed held waits c.in-Ok-write_waiting.ensures.ok in
    let e = c.in-End.ensures in
    let fine : End ≢ TooLong = λ x. cc in
    let l = end_came old mid new r now p.before p.taken p.behind (λ n. (let a = e.again n in (a.0, a.1, ap (λ s. g.S.Source.left s) a.2))) e.cut (λ n. (e.end refl n).1) in
    ended_done old mid first held r s waits p new (g.K.Sink.holds c.end.new.sink) now l (e.within fine) c.put_counts.new.out.items c.put_counts.ensures c.end.result c.end.ensures.ended

pub returns-in-Fault-clause-policed : goal.returns-in-Fault-clause-policed
returns-in-Fault-clause-policed g c =
    let old = g.S.Source.left c.args.source.now in
    let mid = g.S.Source.left c.loop-out.source in
    let new = g.S.Source.left c.next.new.source in
    let first = g.K.Sink.holds c.args.sink.now in
    let holds = g.K.Sink.holds c.loop-out.sink in
    let held = g.K.Sink.holds c.write_waiting.new.sink in
    let r = c.loop-out.reader in
    let now = c.next.new.self in
    let s = c.loop-out.standing in
    let waits = c.write_waiting.new.out.items in
    let p = flushed old mid first holds r s c.loop-out.out.items c.loop-out.invariant.policed held waits c.in-Ok-write_waiting.ensures.ok in
    let e = c.in-Fault.ensures in
    let fine : Fault ≢ TooLong = λ x. cc in
    let l = fault_came old mid new r now p.before p.taken p.behind (λ n. (e.again n).0) e.cut in
    let none = none_waits c.has_line.result r.bytes waits Fault c.has_line.ensures c.in-Ok-write_waiting.ensures.none
    (λ h. (e.asked (is_open old mid r p.before p.taken Fault p.behind (λ n. (e.again n).0) (λ y. cc)).going h).1) (λ y. cc) (λ y. cc) in
    ended_fault old mid first held r s waits p new held now l (e.within fine) none

pub returns-in-TooLong-clause-policed : goal.returns-in-TooLong-clause-policed
returns-in-TooLong-clause-policed g c =
    let old = g.S.Source.left c.args.source.now in
    let mid = g.S.Source.left c.loop-out.source in
    let new = g.S.Source.left c.next.new.source in
    let first = g.K.Sink.holds c.args.sink.now in
    let holds = g.K.Sink.holds c.loop-out.sink in
    let held = g.K.Sink.holds c.write_waiting.new.sink in
    let r = c.loop-out.reader in
    let now = c.next.new.self in
    let s = c.loop-out.standing in
    let waits = c.write_waiting.new.out.items in
    let p = flushed old mid first holds r s c.loop-out.out.items c.loop-out.invariant.policed held waits c.in-Ok-write_waiting.ensures.ok in
    let e = c.in-TooLong.ensures in
    let l = many_came old mid new r now p.before p.taken p.behind (λ n. (e.again n).0) e.cut (e.too_long refl) in
    let none = none_waits c.has_line.result r.bytes waits TooLong c.has_line.ensures c.in-Ok-write_waiting.ensures.none
    (λ h. (e.asked (is_open old mid r p.before p.taken TooLong p.behind (λ n. (e.again n).0) (λ y. cc)).going h).1) (λ y. cc) (λ y. cc) in
    ended_many old mid first held r s waits p new held now l (e.too_long refl) none

pub returns-in-Err-add-clause-policed : goal.returns-in-Err-add-clause-policed
returns-in-Err-add-clause-policed g c =
    let old = g.S.Source.left c.args.source.now in
    let mid = g.S.Source.left c.loop-out.source in
    let new = g.S.Source.left c.next.new.source in
    let first = g.K.Sink.holds c.args.sink.now in
    let holds = g.K.Sink.holds c.loop-out.sink in
    let held = g.K.Sink.holds c.write_waiting.new.sink in
    let r = c.loop-out.reader in
    let now = c.next.new.self in
    let s = c.loop-out.standing in
    let waits = c.write_waiting.new.out.items in
    let p = flushed old mid first holds r s c.loop-out.out.items c.loop-out.invariant.policed held waits c.in-Ok-write_waiting.ensures.ok in
    let e = c.in-Line.ensures in
    let fine : Line ≢ TooLong = λ x. cc in
    let l = line_came old mid new r now p.before p.taken p.behind (λ n. (e.again n).0) e.cut (e.near refl) (λ n. e.number n (inl refl)) (e.last refl) in
    let fed = c.in-Err-add.ensures.fed p.draft p.stands in
    let bad = subst (λ (t : List ℕ). HasFault p.draft t c.in-Err-add.why) c.line.ensures.line fed.0 in
    ended_bad old mid first held r s waits p new (g.K.Sink.holds c.end_bad.new.sink) now l (e.within fine) c.number-number.result c.in-Err-add.why c.number-number.ensures bad c.end_bad.result
    (subst (λ (t : List ℕ). Finishes (BadLine c.number-number.result c.in-Err-add.why) c.end_bad.result held (g.K.Sink.holds c.end_bad.new.sink) t) fed.2 c.end_bad.ensures.ended)

pub returns-in-Err-add-clause-advised : goal.returns-in-Err-add-clause-advised
returns-in-Err-add-clause-advised g c = λ bytes known.
    let old = g.S.Source.left c.args.source.now in
    let mid = g.S.Source.left c.loop-out.source in
    let new = g.S.Source.left c.next.new.source in
    let first = g.K.Sink.holds c.args.sink.now in
    let holds = g.K.Sink.holds c.loop-out.sink in
    let held = g.K.Sink.holds c.write_waiting.new.sink in
    let r = c.loop-out.reader in
    let now = c.next.new.self in
    let s = c.loop-out.standing in
    let waits = c.write_waiting.new.out.items in
    let p = flushed old mid first holds r s c.loop-out.out.items c.loop-out.invariant.policed held waits c.in-Ok-write_waiting.ensures.ok in
    let e = c.in-Line.ensures in
    let fine : Line ≢ TooLong = λ x. cc in
    let l = line_came old mid new r now p.before p.taken p.behind (λ n. (e.again n).0) e.cut (e.near refl) (λ n. e.number n (inl refl)) (e.last refl) in
    let fed = c.in-Err-add.ensures.fed p.draft p.stands in
    let bad = subst (λ (t : List ℕ). HasFault p.draft t c.in-Err-add.why) c.line.ensures.line fed.0 in
    let advised = subst (λ (t : List ℕ). IsAdvisedAt (λ u. (d : Draft) → Stands c.add.new.self d
    → IsAdvice d t c.in-Err-add.why u) c.end_bad.result c.end_bad.new.advice.items) c.line-in-Err-add.ensures.line c.end_bad.ensures.advised in
    advised_bad old mid first held r s waits p new
    (g.K.Sink.holds c.end_bad.new.sink) now bytes c.end_bad.new.advice.items known l c.number-number.result c.in-Err-add.why c.number-number.ensures bad c.add.new.self fed.1 c.end_bad.result
    (subst (λ (t : List ℕ). Finishes (BadLine c.number-number.result c.in-Err-add.why) c.end_bad.result held (g.K.Sink.holds c.end_bad.new.sink) t) fed.2 c.end_bad.ensures.ended) advised

pub loop-out-smaller : goal.loop-out-smaller
loop-out-smaller g c =
    let old = g.S.Source.left c.args.source.now in
    let mid = g.S.Source.left c.loop-out.source in
    let new = g.S.Source.left c.next.new.source in
    let first = g.K.Sink.holds c.args.sink.now in
    let holds = g.K.Sink.holds c.loop-out.sink in
    let held = g.K.Sink.holds c.write_waiting.new.sink in
    let r = c.loop-out.reader in
    let now = c.next.new.self in
    let s = c.loop-out.standing in
    let waits = c.write_waiting.new.out.items in
    let p = flushed old mid first holds r s c.loop-out.out.items c.loop-out.invariant.policed held waits c.in-Ok-write_waiting.ensures.ok in
    let e = c.in-Line.ensures in
    let fine : Line ≢ TooLong = λ x. cc in
    goes_down old mid new r now p.before p.taken p.behind (λ n. (e.again n).0) e.cut (e.within fine)

pub loop-out-preserved : goal.loop-out-preserved
loop-out-preserved g c =
    let old = g.S.Source.left c.args.source.now in
    let mid = g.S.Source.left c.loop-out.source in
    let new = g.S.Source.left c.next.new.source in
    let first = g.K.Sink.holds c.args.sink.now in
    let holds = g.K.Sink.holds c.loop-out.sink in
    let held = g.K.Sink.holds c.write_waiting.new.sink in
    let r = c.loop-out.reader in
    let now = c.next.new.self in
    let s = c.loop-out.standing in
    let waits = c.write_waiting.new.out.items in
    let p = flushed old mid first holds r s c.loop-out.out.items c.loop-out.invariant.policed held waits c.in-Ok-write_waiting.ensures.ok in
    let e = c.in-Line.ensures in
    let fine : Line ≢ TooLong = λ x. cc in
    let l = line_came old mid new r now p.before p.taken p.behind (λ n. (e.again n).0) e.cut (e.near refl) (λ n. e.number n (inl refl)) (e.last refl) in
    let fed = c.in-Ok-add.ensures.fed p.draft p.stands in
    let on = subst (λ (t : List ℕ). IsAdded p.draft t c.add.new.self waits c.add.new.out.items) c.line.ensures.line fed in
    record {
      policed = one_more old mid first held r s waits p new held now l c.add.new.self c.add.new.out.items on;
      within = e.within fine;
      room = omega (arith, c.add.ensures.capacity, c.in-Ok-write_waiting.ensures.room.1);
      read = omega (arith, c.loop-out.invariant.read, c.next.ensures.later);
      no_read_fault = c.in-Line.ensures.no_fault (λ x. cc) ∙ c.loop-out.invariant.no_read_fault;
      no_write_fault = c.in-Ok-write_waiting.ensures.no_fault ∙ c.loop-out.invariant.no_write_fault;
      written = omega (arith, c.loop-out.invariant.written, c.write_waiting.ensures.cause.later);
      quiet = c.loop-out.invariant.quiet;
      roomy = c.loop-out.invariant.roomy;
    }

-- ---- the faults of the devices
pub returns-in-Err-write_waiting-clause-write_fault : goal.returns-in-Err-write_waiting-clause-write_fault
returns-in-Err-write_waiting-clause-write_fault g c = λ x. omega (arith, c.loop-out.invariant.written, c.in-Err-write_waiting.ensures.cause.failed)

pub returns-in-Long-clause-read_fault : goal.returns-in-Long-clause-read_fault
returns-in-Long-clause-read_fault g c = λ x. absurd (c.end_long.ensures.read x)

pub returns-in-Long-clause-no_write_fault : goal.returns-in-Long-clause-no_write_fault
returns-in-Long-clause-no_write_fault g c = λ other. c.end_long.ensures.no_write_fault other ∙ c.in-Ok-write_waiting.ensures.no_fault ∙ c.loop-out.invariant.no_write_fault

pub returns-in-Long-clause-write_fault : goal.returns-in-Long-clause-write_fault
returns-in-Long-clause-write_fault g c = λ x. omega (arith, c.loop-out.invariant.written, c.write_waiting.ensures.cause.later, c.end_long.ensures.cause x)

pub returns-in-End-clause-read_fault : goal.returns-in-End-clause-read_fault
returns-in-End-clause-read_fault g c = λ x. absurd (c.end.ensures.read x)

pub returns-in-End-clause-no_write_fault : goal.returns-in-End-clause-no_write_fault
returns-in-End-clause-no_write_fault g c = λ other. c.end.ensures.no_write_fault other ∙ c.in-Ok-write_waiting.ensures.no_fault ∙ c.loop-out.invariant.no_write_fault

pub returns-in-End-clause-write_fault : goal.returns-in-End-clause-write_fault
returns-in-End-clause-write_fault g c = λ x. omega (arith, c.loop-out.invariant.written, c.write_waiting.ensures.cause.later, c.end.ensures.cause x)

pub returns-in-Fault-clause-read_fault : goal.returns-in-Fault-clause-read_fault
returns-in-Fault-clause-read_fault g c = λ x.
    let old = g.S.Source.left c.args.source.now in
    let mid = g.S.Source.left c.loop-out.source in
    let p = c.loop-out.invariant.policed in
    let e = c.in-Fault.ensures in
    let other : Fault ≢ End = λ y. cc in
    let o = is_open old mid c.loop-out.reader p.before p.taken Fault p.behind (λ n. (e.again n).0) other in
    omega (arith, c.loop-out.invariant.read, e.fault refl o.going)

pub returns-in-Err-add-clause-read_fault : goal.returns-in-Err-add-clause-read_fault
returns-in-Err-add-clause-read_fault g c = λ x. absurd (c.end_bad.ensures.read x)

pub returns-in-Err-add-clause-no_write_fault : goal.returns-in-Err-add-clause-no_write_fault
returns-in-Err-add-clause-no_write_fault g c = λ other. c.end_bad.ensures.no_write_fault other ∙ c.in-Ok-write_waiting.ensures.no_fault ∙ c.loop-out.invariant.no_write_fault

pub returns-in-Err-add-clause-write_fault : goal.returns-in-Err-add-clause-write_fault
returns-in-Err-add-clause-write_fault g c = λ x. omega (arith, c.loop-out.invariant.written, c.write_waiting.ensures.cause.later, c.end_bad.ensures.cause x)

-- ---- where no line is bad, there is no advice
pub returns-in-Err-write_waiting-clause-advised : goal.returns-in-Err-write_waiting-clause-advised
returns-in-Err-write_waiting-clause-advised g c = λ bytes known. c.loop-out.invariant.quiet

pub returns-in-End-clause-advised : goal.returns-in-End-clause-advised
returns-in-End-clause-advised g c = λ bytes known. quiet_so c.end.result bytes c.loop-out.advice.items c.end.ensures.no_line c.loop-out.invariant.quiet

pub returns-in-Fault-clause-advised : goal.returns-in-Fault-clause-advised
returns-in-Fault-clause-advised g c = λ bytes known. c.loop-out.invariant.quiet

pub returns-in-TooLong-clause-advised : goal.returns-in-TooLong-clause-advised
returns-in-TooLong-clause-advised g c = λ bytes known. c.loop-out.invariant.quiet
