use Rattle.grown_player.proofs.Counted.{one_more, still_small}
use Rattle.grown_player.proofs.counting.count.Goals as goal

pub loop-end-preserved : goal.loop-end-preserved
loop-end-preserved g c =
    let old = c.loop-end.booked in
    let new = c.with_end-booked.result in
    let entries = c.count_at-entries.result.0 in
    let rate = c.count_at-entries.result.1 in
    record {
      counted = λ q w are.
          one_more c.args.wires.now w c.loop-end.end old new entries rate (c.loop-end.invariant.counted q w are) (c.count_at-entries.ensures.entries q w are)
          (c.count_at-entries.ensures.held q w are) c.with_end-booked.ensures;
      small = still_small c.loop-end.end old new entries rate c.with_end-booked.ensures c.loop-end.invariant.small c.count_at-entries.ensures.few c.count_at-entries.ensures.fits;
    }
