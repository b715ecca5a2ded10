use Rattle.std.proofs.Common.{◌≡◌, ◌<◌, length, get_or, set, ap, ◌∙◌, arith}
use Rattle.local_state.specs.Counting.{ticked_row}
use Rattle.local_state.proofs.Ticking.{next_read, next_done}
use Rattle.local_state.proofs.countdowns.tick_all.Goals as goal

pub loop-i-preserved : goal.loop-i-preserved
loop-i-preserved c =
    let f = ticked_row c.args.quarter c.args.ms c.args.word in
    let old = c.args.rows.now.items in
    let i = c.loop-i.i in
    let lt : i < length old = omega (arith, c.len-i-end.ensures, c.loop-i-test.true) in
    let x = c.index-row.result.now in
    let is : x ≡ get_or old i x = c.index-row.ensures ∙ ap (λ ys. get_or ys i x) c.loop-i.invariant.rows ∙ next_read f old i x lt in
    record {
      rows = ap (λ y. set c.loop-i.rows.items i y) (c.tick_row.ensures ∙ ap f is) ∙ ap (λ ys. set ys i (f (get_or old i x))) c.loop-i.invariant.rows ∙ next_done f old i x lt;
      capacity = c.loop-i.invariant.capacity;
    }
