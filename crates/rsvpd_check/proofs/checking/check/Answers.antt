use Rattle.std.proofs.Common.{[], refl, arith}
use Rattle.std.proofs.KnownBytes.{Appends-nil, Consumes-nil}
use Rattle.script_run.specs.declared.ending.Ending.TheVariants.{NoMemory}
use Rattle.rsvpd_check.proofs.checking.check.Goals as goal

pub returns-in-Err-clause-found : goal.returns-in-Err-clause-found
returns-in-Err-clause-found g c =
    let left = g.S.Source.left c.args.source.now in
    let holds = g.K.Sink.holds c.args.sink.now in
    (NoMemory, refl, record { taken = []; took = Consumes-nil left; counted = omega arith; wrote = record { text = []; wrote = Appends-nil holds; ended = refl } })
