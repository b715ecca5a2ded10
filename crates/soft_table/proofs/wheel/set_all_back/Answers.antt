use Rattle.std.proofs.Common.{ap, ◌∙◌, arith, set}
use Rattle.std.proofs.lemmas.List.Edits.{map_over_more}
use Rattle.soft_table.specs.declared.entry.Entry.{Entry}
use Rattle.soft_table.specs.Wheel.{set_back}
use Rattle.soft_table.proofs.wheel.set_all_back.Goals as goal

pub loop-i-preserved : goal.loop-i-preserved
loop-i-preserved g c =
    let es = c.loop-i.entries.items in
    let i = c.loop-i.i in
    let e : Entry _ = c.index_mut-entry.result.now in (
      ap (λ m. set es i (record { value = e.value; moment = m })) c.saturating_sub-entry.ensures
          ∙ map_over_more (set_back c.args.by) c.args.entries.now.items es i e (omega (arith, c.loop-i-test.true, c.len-i-end.ensures)) c.loop-i.invariant.0 c.index_mut-entry.ensures.value,
      c.loop-i.invariant.1,
    )
