use Rattle.std.proofs.Common.{◌≡◌, ◌+◌, not, length, sym, ap, ◌∙◌, refl}
use Rattle.std.specs.List.{filter}
use Rattle.rsvp_base.specs.Table.{has, keys, size}
use Rattle.rsvp_base.specs.declared.session.Sender.{Sender}
use Rattle.error_sends.specs.ResvErrs.{sender_wall}
use Rattle.error_sends.proofs.Blockading.{count_is, fits, never_full, one_set, over, put_all, under}
use Rattle.error_sends.proofs.walls.set_all.Goals as goal
use Rattle.error_sends.proofs.walls.set_all.Goals.{After-count_new}

-- how many there would be
many : (c : After-count_new) → size (put_all c.args.session c.args.wall.now c.args.left c.args.walls.now (keys c.args.names.now)) ≡ size c.args.walls.now + c.count_new.result
many c =
    count_is c.args.session c.args.wall.now c.args.left c.args.names.now c.args.walls.now
    ∙ ap (λ (xs : _). size c.args.walls.now + length (filter (λ (x : Sender). not (has c.args.walls.now (sender_wall c.args.session x))) xs)) (sym c.as_slice-list.ensures.senders)
    ∙ ap (λ n. size c.args.walls.now + n) (sym c.count_new.ensures)

pub returns-then-free-count_new-clause-room : goal.returns-then-free-count_new-clause-room
returns-then-free-count_new-clause-room c =
    over _ c.free.result c.count_new.result (size c.args.walls.now) (many (goal.at.returns-then-free-count_new-clause-room c).After-count_new) c.free.ensures c.if-free-count_new.true

pub unreachable-requires : goal.unreachable-requires
unreachable-requires c =
    let d = (goal.at.unreachable-requires c).After-count_new in
    let s = c.args.session in
    let wall = c.args.wall.now in
    let left = c.args.left in
    let w = c.args.walls.now in
    let items = c.as_slice-list.result.now in
    let same = ap (λ xs. size (put_all s wall left w xs)) c.as_slice-list.ensures.senders in
    let all = under (size (put_all s wall left w items)) c.free.result c.count_new.result (size w) (same ∙ many d) c.free.ensures c.of-known.ensures.few c.if-free-count_new.false in
    absurd (never_full s wall left items c.loop-name.name-index _ w c.loop-name.walls c.loop-name.invariant c.loop-name-test.true all (c.in_default.ensures.full.0 refl))

pub loop-name-preserved : goal.loop-name-preserved
loop-name-preserved c =
    let s = c.args.session in
    let wall = c.args.wall.now in
    let left = c.args.left in
    let w = c.args.walls.now in
    let items = c.as_slice-list.result.now in
    c.in-Ok.ensures.ok ∙ one_set s wall left items c.loop-name.name-index _ w c.loop-name.walls c.loop-name.invariant c.loop-name-test.true

pub returns-clause-room : goal.returns-clause-room
returns-clause-room c =
    fits _ (under _ c.free.result c.count_new.result (size c.args.walls.now) (many (goal.at.returns-clause-room c).After-count_new) c.free.ensures c.of-known.ensures.few c.if-free-count_new.false)
