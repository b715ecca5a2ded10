use Rattle.std.proofs.Common.{◌≡◌, length, take, map as each, ap, ◌∙◌, arith}
use Rattle.std.proofs.Math.Seq.{take-length}
use Rattle.rsvp_base.specs.Orders.{units}
use Rattle.rsvp_base.proofs.Rows.{rows_are, table_is}
use Rattle.style_rules.specs.TallyRows.{tally_row}
use Rattle.style_rules.proofs.merger.Merger.copy.Goals as goal

pub returns : goal.returns
returns g c =
    let rows = c.as_slice-row-items.result.now in
    let end : c.loop-row.row-index ≡ length rows = omega arith in
    let whole = c.loop-row.invariant ∙ ap (λ i. take i rows) end ∙ take-length rows ∙ c.as_slice-row-items.ensures.value in
    table_is units tally_row c.loop-row.rows.items _ c.args.self.now (ap (each tally_row) whole ∙ rows_are units tally_row c.self.inside.rows.items c.self.inside.rising c.args.self.now c.self.view_is)
