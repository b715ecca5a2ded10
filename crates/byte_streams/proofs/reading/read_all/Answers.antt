use Rattle.std.proofs.Common.{◌++◌}
use Rattle.std.proofs.KnownBytes.{Consumes-trans}
use Rattle.std.proofs.lemmas.Result.{err_from_is_err_and}
use Rattle.byte_streams.proofs.reading.read_all.Goals as goal

-- what the last call took comes after what was read
pub returns-in_err-read_piece-clause-stopped : goal.returns-in_err-read_piece-clause-stopped
returns-in_err-read_piece-clause-stopped g c =
    let given = err_from_is_err_and c.from_residual.result c.from_residual.ensures.1 in
    let (bs, taken, ended) = c.in_err-read_piece.ensures.stopped in
    let xs = c.loop-bytes.bytes.items in
    rw (given.1, given.2) (xs ++ bs, Consumes-trans _ _ _ xs bs c.loop-bytes.invariant.taken taken, ended)
