use Rattle.std.proofs.Common.{sym, ap, ◌∙◌, map as each}
use Rattle.soft_table.specs.Lists.{head_row, led}
use Rattle.soft_table.proofs.Leading.{none_led}
use Rattle.soft_table.proofs.heads.lead.Goals as goal

pub returns-in-Err-None-clause-heads : goal.returns-in-Err-None-clause-heads
returns-in-Err-None-clause-heads c =
    let e = c.in-Err-None.is-1 in
    let heads = c.args.heads.now.items in
    let absent = rw c.as_slice.ensures.value at c.in-Err-None.ensures.absent.absent in
    sym (none_led heads c.args.session c.requires.rising absent) ∙ ap (λ o. led c.args.session o (each head_row heads)) (sym e)
