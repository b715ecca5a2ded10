use Rattle.std.proofs.Common.{◌∙◌, drop, take, arith}
use Rattle.std.proofs.KnownBytes.{Appends-trans}
use Rattle.std.proofs.Math.Seq.{take-add}
use Rattle.std.proofs.lemmas.List.{length-drop, take_rest}
use Rattle.byte_streams.proofs.writing.write_all.Goals as goal

pub loop-done-preserved : goal.loop-done-preserved
loop-done-preserved g c =
    let bs = c.args.bytes.now in
    let at = c.loop-done.done in
    let given = rw take_rest at c.in_ok-count.ensures in
    record {
      front = rw take-add (Appends-trans _ _ _ (take at bs) (take c.in_ok-count.count (drop at bs)) c.loop-done.invariant.front given.bytes);
      no_fault = given.no_fault (omega arith) ∙ c.loop-done.invariant.no_fault;
      within = omega (arith, given.bound, length-drop at bs);
      later = omega (arith, c.in_ok-count.ensures.cause);
    }
