use Rattle.std.proofs.Common.{◌∙◌, ◌++◌, List, ℕ, take, append-nil, sym, ap, subst}
use Rattle.std.specs.Io.KnownBytes.{Appends}
use Rattle.load_policer.proofs.policing.write_out.Goals as goal

pub returns-in-Ok-clause-ok : goal.returns-in-Ok-clause-ok
returns-in-Ok-clause-ok g c =
    let before = g.K.Sink.holds c.args.sink.now in
    let after = g.K.Sink.holds c.write_all.new.sink in
    let items = c.args.out.now.items in
    record {
      bytes = items;
      wrote = subst (λ (t : List ℕ). Appends before after t) c.as_slice.ensures.value c.in-Ok.ensures.written;
      split = sym (append-nil items) ∙ ap (λ (t : List ℕ). items ++ t) (sym c.clear.ensures.items);
    }

pub returns-in-Err-clause-err : goal.returns-in-Err-clause-err
returns-in-Err-clause-err g c =
    let before = g.K.Sink.holds c.args.sink.now in
    let after = g.K.Sink.holds c.write_all.new.sink in
    let (n, few, front) = c.in-Err.ensures.stopped in
    (n, subst (λ (t : List ℕ). Appends before after (take n t)) c.as_slice.ensures.value front)
