use Rattle.std.proofs.Common.{◌≡◌, ◌∙◌, ◌+◌, ◌<◌, ◌≤◌, ℕ, List, length, take, refl, subst, arith, inl}
use Rattle.std.specs.Io.KnownBytes.{Appends}
use Rattle.node_stream.specs.Endings.{IsCutBlame, most_at_once, most_bytes}
use Rattle.node_stream.specs.Frames.{contents_in, kind_in}
use Rattle.node_stream.specs.States.{IsServedBy, stand}
use Rattle.node_stream.specs.Stops.{IsStopped}
use Rattle.node_stream.proofs.Going.{is_nothing, is_something, stopped_advised, stopped_served}
use Rattle.node_stream.proofs.Served.{advised_cut, ended_cut, ended_done, ended_fault, ended_long, ended_writing, one_more}
use Rattle.node_stream.proofs.serving.serve_to_end.Goals as goal

pub returns-in-Long-clause-served : goal.returns-in-Long-clause-served
returns-in-Long-clause-served g c =
    let see = g.R.Router.seen in
    let old = g.S.Source.left c.args.source.now in
    let left = g.S.Source.left c.loop-frame.source in
    let new = g.S.Source.left c.read_frame.new.source in
    let first = g.K.Sink.holds c.args.sink.now in
    let holds = g.K.Sink.holds c.loop-frame.sink in
    let go = c.loop-frame.invariant.going in
    let taken = c.loop-frame.taken in
    let number = c.loop-frame.number in
    let st = stand see c.loop-frame.router go.clock in
    let vec = c.read_frame.new.frame in
    let frame = vec.items in
    let got = c.read_frame.ensures.took in
    let now = taken + length frame in
    let read = c.in-Long.ensures.read in
    let many : most_bytes < now = omega (arith, c.loop-frame.invariant.within, read.1) in
    let at_once : now ≤ most_bytes + most_at_once = omega (arith, c.loop-frame.invariant.within, c.loop-frame.invariant.piece, read.2) in
    ended_long old left first holds st taken number go.on new frame got now refl many at_once read.0

pub returns-then-is_empty-clause-served : goal.returns-then-is_empty-clause-served
returns-then-is_empty-clause-served g c =
    let see = g.R.Router.seen in
    let old = g.S.Source.left c.args.source.now in
    let left = g.S.Source.left c.loop-frame.source in
    let new = g.S.Source.left c.read_frame.new.source in
    let first = g.K.Sink.holds c.args.sink.now in
    let holds = g.K.Sink.holds c.loop-frame.sink in
    let go = c.loop-frame.invariant.going in
    let taken = c.loop-frame.taken in
    let number = c.loop-frame.number in
    let st = stand see c.loop-frame.router go.clock in
    let vec = c.read_frame.new.frame in
    let frame = vec.items in
    let got = c.read_frame.ensures.took in
    let now = taken + length frame in
    let read = c.in-Ended.ensures.read in
    let few : now ≤ most_bytes = omega (arith, c.loop-frame.invariant.within, read.1) in
    ended_done old left first holds st taken number go.on new frame got now refl few (is_nothing frame vec.len c.is_empty.result vec.ok.0 c.is_empty.ensures c.if-is_empty.true) read.2

pub returns-in-Ended-clause-served : goal.returns-in-Ended-clause-served
returns-in-Ended-clause-served g c =
    let see = g.R.Router.seen in
    let old = g.S.Source.left c.args.source.now in
    let left = g.S.Source.left c.loop-frame.source in
    let new = g.S.Source.left c.read_frame.new.source in
    let first = g.K.Sink.holds c.args.sink.now in
    let holds = g.K.Sink.holds c.loop-frame.sink in
    let go = c.loop-frame.invariant.going in
    let taken = c.loop-frame.taken in
    let number = c.loop-frame.number in
    let st = stand see c.loop-frame.router go.clock in
    let vec = c.read_frame.new.frame in
    let frame = vec.items in
    let got = c.read_frame.ensures.took in
    let now = taken + length frame in
    let read = c.in-Ended.ensures.read in
    let few : now ≤ most_bytes = omega (arith, c.loop-frame.invariant.within, read.1) in
    let some : 0 < length frame = is_something frame vec.len c.is_empty.result vec.ok.0 c.is_empty.ensures c.if-is_empty.false in
    ended_cut old left first holds st taken number go.on new frame got now refl few c.end_bad.result number c.cut_blame.result c.end_bad.ensures.ends refl some read.0 read.2 c.cut_blame.ensures.word

pub returns-in-Ended-clause-advised : goal.returns-in-Ended-clause-advised
returns-in-Ended-clause-advised g c =
    let see = g.R.Router.seen in
    let old = g.S.Source.left c.args.source.now in
    let left = g.S.Source.left c.loop-frame.source in
    let new = g.S.Source.left c.read_frame.new.source in
    let first = g.K.Sink.holds c.args.sink.now in
    let holds = g.K.Sink.holds c.loop-frame.sink in
    let go = c.loop-frame.invariant.going in
    let taken = c.loop-frame.taken in
    let number = c.loop-frame.number in
    let st = stand see c.loop-frame.router go.clock in
    let vec = c.read_frame.new.frame in
    let frame = vec.items in
    let got = c.read_frame.ensures.took in
    let now = taken + length frame in
    let read = c.in-Ended.ensures.read in
    let few : now ≤ most_bytes = omega (arith, c.loop-frame.invariant.within, read.1) in
    let same = c.as_slice.ensures.value in
    let blamed = subst (λ (t : List ℕ). IsCutBlame t c.cut_blame.result) same c.cut_blame.ensures.blamed in
    let some : 0 < length frame = is_something frame vec.len c.is_empty.result vec.ok.0 c.is_empty.ensures c.if-is_empty.false in
    advised_cut old left first holds st taken number go.on new frame got now refl few c.end_bad.result number c.cut_blame.result c.end_bad.ensures.ends refl some read.0 read.2 c.cut_blame.ensures.word
    c.end_bad.new.advice.items (inl blamed) c.end_bad.ensures.advised

pub returns-in-Failed-clause-served : goal.returns-in-Failed-clause-served
returns-in-Failed-clause-served g c =
    let see = g.R.Router.seen in
    let old = g.S.Source.left c.args.source.now in
    let left = g.S.Source.left c.loop-frame.source in
    let new = g.S.Source.left c.read_frame.new.source in
    let first = g.K.Sink.holds c.args.sink.now in
    let holds = g.K.Sink.holds c.loop-frame.sink in
    let go = c.loop-frame.invariant.going in
    let taken = c.loop-frame.taken in
    let number = c.loop-frame.number in
    let st = stand see c.loop-frame.router go.clock in
    let vec = c.read_frame.new.frame in
    let frame = vec.items in
    let got = c.read_frame.ensures.took in
    let now = taken + length frame in
    let read = c.in-Failed.ensures.read in
    let few : now ≤ most_bytes = omega (arith, c.loop-frame.invariant.within, read.1) in
    ended_fault old left first holds st taken number go.on new frame got now refl few read.0

pub returns-in-Err-serve_frame-clause-served : goal.returns-in-Err-serve_frame-clause-served
returns-in-Err-serve_frame-clause-served g c =
    let see = g.R.Router.seen in
    let old = g.S.Source.left c.args.source.now in
    let left = g.S.Source.left c.loop-frame.source in
    let new = g.S.Source.left c.read_frame.new.source in
    let first = g.K.Sink.holds c.args.sink.now in
    let holds = g.K.Sink.holds c.loop-frame.sink in
    let go = c.loop-frame.invariant.going in
    let taken = c.loop-frame.taken in
    let number = c.loop-frame.number in
    let st = stand see c.loop-frame.router go.clock in
    let vec = c.read_frame.new.frame in
    let frame = vec.items in
    let got = c.read_frame.ensures.took in
    let now = taken + length frame in
    let few : now ≤ most_bytes = omega (arith, c.loop-frame.invariant.within, c.in-Whole.ensures.read.1) in
    let stopped = subst (λ (t : List ℕ). IsStopped st (kind_in t) (contents_in t) c.in-Err-serve_frame.stop) c.as_slice-in-loop-frame.ensures.value (c.in-Err-serve_frame.ensures.stopped go.clock) in
    stopped_served see old left first holds c.loop-frame.router c.loop-frame.limits taken number go new frame got now refl few c.in-Whole.ensures.read.0 c.end_stopped.result c.in-Err-serve_frame.stop stopped c.end_stopped.ensures.ends

pub returns-in-Err-serve_frame-clause-advised : goal.returns-in-Err-serve_frame-clause-advised
returns-in-Err-serve_frame-clause-advised g c =
    let see = g.R.Router.seen in
    let old = g.S.Source.left c.args.source.now in
    let left = g.S.Source.left c.loop-frame.source in
    let new = g.S.Source.left c.read_frame.new.source in
    let first = g.K.Sink.holds c.args.sink.now in
    let holds = g.K.Sink.holds c.loop-frame.sink in
    let go = c.loop-frame.invariant.going in
    let taken = c.loop-frame.taken in
    let number = c.loop-frame.number in
    let st = stand see c.loop-frame.router go.clock in
    let vec = c.read_frame.new.frame in
    let frame = vec.items in
    let got = c.read_frame.ensures.took in
    let now = taken + length frame in
    let few : now ≤ most_bytes = omega (arith, c.loop-frame.invariant.within, c.in-Whole.ensures.read.1) in
    let stopped = subst (λ (t : List ℕ). IsStopped st (kind_in t) (contents_in t) c.in-Err-serve_frame.stop) c.as_slice-in-loop-frame.ensures.value (c.in-Err-serve_frame.ensures.stopped go.clock) in
    stopped_advised see old left first holds c.loop-frame.router c.loop-frame.limits taken number go new frame got now refl few c.in-Whole.ensures.read.0 c.end_stopped.result c.in-Err-serve_frame.stop stopped c.end_stopped.ensures.ends c.loop-frame.advice.items c.end_stopped.new.advice.items c.loop-frame.invariant.quiet
    c.end_stopped.ensures.advised

pub returns-in-Err-write_all-clause-served : goal.returns-in-Err-write_all-clause-served
returns-in-Err-write_all-clause-served g c =
    let see = g.R.Router.seen in
    let old = g.S.Source.left c.args.source.now in
    let left = g.S.Source.left c.loop-frame.source in
    let new = g.S.Source.left c.read_frame.new.source in
    let first = g.K.Sink.holds c.args.sink.now in
    let holds = g.K.Sink.holds c.loop-frame.sink in
    let go = c.loop-frame.invariant.going in
    let taken = c.loop-frame.taken in
    let number = c.loop-frame.number in
    let st = stand see c.loop-frame.router go.clock in
    let vec = c.read_frame.new.frame in
    let frame = vec.items in
    let got = c.read_frame.ensures.took in
    let now = taken + length frame in
    let few : now ≤ most_bytes = omega (arith, c.loop-frame.invariant.within, c.in-Whole.ensures.read.1) in
    let later = g.K.Sink.holds c.write_all.new.sink in
    let after = c.serve_frame.new in
    let s = subst (λ (t : List ℕ). IsServedBy see c.loop-frame.router after.router after.limits go.clock t after.out) c.as_slice-in-loop-frame.ensures.value
    (c.in-Ok-serve_frame.ensures.served go.clock go.sound) in
    let n = stand see after.router s.clock in
    let own = after.out.bytes in
    let (count, front, wrote) = c.in-Err-write_all.ensures.stopped in
    ended_writing old left first holds st taken number go.on new frame got now refl few n own s.follows later count (subst (λ (t : List ℕ). count ≤ length t) c.bytes.ensures front)
    (subst (λ (t : List ℕ). Appends holds later (take count t)) c.bytes.ensures wrote)

pub loop-frame-preserved : goal.loop-frame-preserved
loop-frame-preserved g c =
    let see = g.R.Router.seen in
    let old = g.S.Source.left c.args.source.now in
    let left = g.S.Source.left c.loop-frame.source in
    let new = g.S.Source.left c.read_frame.new.source in
    let first = g.K.Sink.holds c.args.sink.now in
    let holds = g.K.Sink.holds c.loop-frame.sink in
    let go = c.loop-frame.invariant.going in
    let taken = c.loop-frame.taken in
    let number = c.loop-frame.number in
    let st = stand see c.loop-frame.router go.clock in
    let vec = c.read_frame.new.frame in
    let frame = vec.items in
    let got = c.read_frame.ensures.took in
    let now = taken + length frame in
    let few : now ≤ most_bytes = omega (arith, c.loop-frame.invariant.within, c.in-Whole.ensures.read.1) in
    let later = g.K.Sink.holds c.write_all.new.sink in
    let after = c.serve_frame.new in
    let s = subst (λ (t : List ℕ). IsServedBy see c.loop-frame.router after.router after.limits go.clock t after.out) c.as_slice-in-loop-frame.ensures.value
    (c.in-Ok-serve_frame.ensures.served go.clock go.sound) in
    let n = stand see after.router s.clock in
    let own = after.out.bytes in
    let sum : taken + c.len.result ≡ taken + length frame = omega (arith, c.len.ensures, vec.ok.0) in
    let less : taken + c.len.result ≤ most_bytes = omega (arith, sum, few) in
    record {
      going = record {
        clock = s.clock;
        on = one_more old left first holds st taken number go.on new frame got (taken + c.len.result) sum less n own s.follows later c.saturating_add-number.result c.saturating_add-number.ensures
            (subst (λ (t : List ℕ). Appends holds later t) c.bytes.ensures c.in-Ok-write_all.ensures.written);
        sound = s.sound;
      };
      within = less;
      room = c.read_frame.ensures.room;
      piece = omega (arith, c.loop-frame.invariant.piece, c.read_frame.ensures.piece);
      read = omega (arith, c.loop-frame.invariant.read, c.read_frame.ensures.later);
      no_read_fault = c.in-Whole.ensures.no_fault (λ x. cc) ∙ c.loop-frame.invariant.no_read_fault;
      no_write_fault = c.in-Ok-write_all.ensures.no_fault ∙ c.loop-frame.invariant.no_write_fault;
      written = omega (arith, c.loop-frame.invariant.written, c.write_all.ensures.cause.later);
      quiet = c.loop-frame.invariant.quiet;
      roomy = c.loop-frame.invariant.roomy;
    }
