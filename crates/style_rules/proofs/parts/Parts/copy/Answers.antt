use Rattle.std.proofs.Common.{◌≡◌, length, take, ap, ◌∙◌, arith}
use Rattle.std.proofs.Math.Seq.{take-length}
use Rattle.rsvp_base.specs.Table.{same_rows}
use Rattle.rsvp_base.proofs.Rows.{each_itself}
use Rattle.style_rules.proofs.parts.Parts.copy.Goals as goal

pub returns : goal.returns
returns c =
    let rows = c.as_slice-unit-items.result.now in
    let end : c.loop-unit.unit-index ≡ length rows = omega arith in
    same_rows _ _ (each_itself c.loop-unit.rows.items ∙ c.loop-unit.invariant ∙ ap (λ i. take i rows) end ∙ take-length rows ∙ c.as_slice-unit-items.ensures.rows)
