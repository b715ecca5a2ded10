use Rattle.std.proofs.Common.{◌≡◌, length, take, ap, ◌∙◌, arith}
use Rattle.std.proofs.Math.Seq.{take-length}
use Rattle.rsvp_base.specs.Table.{same_rows}
use Rattle.rsvp_base.proofs.Rows.{each_itself}
use Rattle.rsvp_messages.proofs.fixed_list.FixedList.copy.Goals as goal

pub returns : goal.returns
returns c =
    let rows = c.as_slice-row-items.result.now in
    let end : c.loop-row.row-index ≡ length rows = omega arith in
    same_rows _ _ (each_itself c.loop-row.rows.items ∙ c.loop-row.invariant ∙ ap (λ i. take i rows) end ∙ take-length rows ∙ c.as_slice-row-items.ensures.rows)
