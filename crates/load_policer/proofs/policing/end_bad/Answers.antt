use Rattle.std.proofs.Common.{List, ℕ, take, refl, subst, inl, inr}
use Rattle.std.specs.Io.KnownBytes.{Appends}
use Rattle.load_policer.proofs.policing.end_bad.Goals as goal

pub returns-in-Ok-clause-ended : goal.returns-in-Ok-clause-ended
returns-in-Ok-clause-ended g c =
    let before = g.K.Sink.holds c.args.sink.now in
    let after = g.K.Sink.holds c.write_all.new.sink in
    inl (refl, subst (λ (t : List ℕ). Appends before after t) c.as_slice.ensures.value c.in-Ok.ensures.written)

pub returns-in-Err-clause-ended : goal.returns-in-Err-clause-ended
returns-in-Err-clause-ended g c =
    let before = g.K.Sink.holds c.args.sink.now in
    let after = g.K.Sink.holds c.write_all.new.sink in
    let (n, few, front) = c.in-Err.ensures.stopped in
    inr (refl, n, subst (λ (t : List ℕ). Appends before after (take n t)) c.as_slice.ensures.value front)
