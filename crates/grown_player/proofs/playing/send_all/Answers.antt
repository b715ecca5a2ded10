use Rattle.std.proofs.Common.{◌+◌, ◌≤◌, drop, length, arith}
use Rattle.std.specs.Prelude.{map as each}
use Rattle.std.proofs.lemmas.Result.{err_from_is_err_and}
use Rattle.grown_network.specs.Grown.{send_event}
use Rattle.grown_player.proofs.Played.{at_element, at_end, begun, broken_off, gone_on}
use Rattle.grown_player.proofs.playing.send_all.Goals as goal

pub loop-sender-init : goal.loop-sender-init
loop-sender-init g c = λ p played. begun g.R.Router.seen p (each send_event c.args.senders.now) c.args.world.now c.args.out.now.items played

pub loop-sender-preserved : goal.loop-sender-preserved
loop-sender-preserved g c = λ p played.
    let see = g.R.Router.seen in
    let xs = c.args.senders.now in
    let i = c.loop-sender.sender-index in
    let half = at_element see p send_event xs i c.loop-sender.world c.loop-sender.out.items _ c.loop-sender-test.true (c.loop-sender.invariant p played) in
    gone_on see p (each send_event xs) _ (each send_event (drop (i + 1) xs)) c.loop-sender.world c.send.new.world c.loop-sender.out.items c.send.new.out.items half
    (c.in_ok-send.ensures half.now half.played)

pub returns-in_err-send : goal.returns-in_err-send
returns-in_err-send g c = λ p played.
    let see = g.R.Router.seen in
    let xs = c.args.senders.now in
    let i = c.loop-sender.sender-index in
    let given = err_from_is_err_and c.from_residual.result c.from_residual.ensures.1 in
    let half = at_element see p send_event xs i c.loop-sender.world c.loop-sender.out.items _ c.loop-sender-test.true (c.loop-sender.invariant p played) in
    let stop = broken_off see p (each send_event xs) _ (each send_event (drop (i + 1) xs)) _ c.loop-sender.world c.send.new.world c.loop-sender.out.items c.send.new.out.items half
    (c.in_err-send.ensures half.now half.played) in
    rw (given.1, given.2) (stop)

pub returns : goal.returns
returns g c = λ p played.
    let xs = c.args.senders.now in
    let i = c.loop-sender.sender-index in
    let le : length xs ≤ i = omega (arith, c.loop-sender-test.false) in
    at_end g.R.Router.seen p send_event xs i c.loop-sender.world c.loop-sender.out.items le (c.loop-sender.invariant p played)
