use Rattle.std.proofs.Common.{◌+◌, ◌≤◌, drop, length, arith}
use Rattle.std.specs.Prelude.{map as each}
use Rattle.std.proofs.lemmas.Result.{err_from_is_err_and}
use Rattle.grown_network.specs.Grown.{want_event}
use Rattle.grown_player.proofs.Played.{at_item, at_end, begun, broken_off, gone_on}
use Rattle.grown_player.proofs.playing.want_all.Goals as goal

pub loop-wanted-init : goal.loop-wanted-init
loop-wanted-init g c = λ p played. begun g.R.Router.seen p (each want_event c.args.wants.now) c.args.world.now c.args.out.now.items played

pub loop-wanted-preserved : goal.loop-wanted-preserved
loop-wanted-preserved g c = λ p played.
    let see = g.R.Router.seen in
    let xs = c.args.wants.now in
    let i = c.loop-wanted.wanted-index in
    let half = at_item see p want_event xs i c.loop-wanted.world c.loop-wanted.out.items c.wanted-item.result c.loop-wanted-test.true c.wanted-item.is (c.loop-wanted.invariant p played) in
    gone_on see p (each want_event xs) _ (each want_event (drop (i + 1) xs)) c.loop-wanted.world c.want.new.world c.loop-wanted.out.items c.want.new.out.items half
    (c.in_ok-want.ensures half.now half.played)

pub returns-in_err-want : goal.returns-in_err-want
returns-in_err-want g c = λ p played.
    let see = g.R.Router.seen in
    let xs = c.args.wants.now in
    let i = c.loop-wanted.wanted-index in
    let given = err_from_is_err_and c.from_residual.result c.from_residual.ensures.1 in
    let half = at_item see p want_event xs i c.loop-wanted.world c.loop-wanted.out.items c.wanted-item.result c.loop-wanted-test.true c.wanted-item.is (c.loop-wanted.invariant p played) in
    let stop = broken_off see p (each want_event xs) _ (each want_event (drop (i + 1) xs)) _ c.loop-wanted.world c.want.new.world c.loop-wanted.out.items c.want.new.out.items half
    (c.in_err-want.ensures half.now half.played) in
    rw (given.1, given.2) (stop)

pub returns : goal.returns
returns g c = λ p played.
    let xs = c.args.wants.now in
    let i = c.loop-wanted.wanted-index in
    let le : length xs ≤ i = omega (arith, c.loop-wanted-test.false) in
    at_end g.R.Router.seen p want_event xs i c.loop-wanted.world c.loop-wanted.out.items le (c.loop-wanted.invariant p played)
