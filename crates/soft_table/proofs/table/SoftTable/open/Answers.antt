use Rattle.std.proofs.Common.{rules, ◌≡◌, [], length, replicate, sym, ap, ◌∙◌}
use Rattle.std.proofs.lemmas.List.{length-replicate}
use Rattle.soft_table.specs.declared.cell.Cell.{Cell}
use Rattle.soft_table.specs.declared.cell.Cell.TheVariants.{Free}
use Rattle.soft_table.proofs.Changes.{index_none}
use Rattle.soft_table.proofs.table.SoftTable.open.Goals as goal

pub invariant_of-result : goal.invariant_of-result
invariant_of-result g c =
    let made : c.in_ok-pool.pool ≡ replicate {A = Cell g.row.F.Denot} c.args.room Free = search rules in
    let rows : c.in_ok-rows.rows ≡ record { rows = []; room = c.args.room } = search rules in (
      index_none g.F.Fact.rests g.F.Fact.key_of c.args.room c.in_ok-pool.pool c.in_ok-rows.rows.rows made (ap (λ t. t.rows) rows),
      ap (λ t. t.room) rows
          ∙ sym (ap length made ∙ length-replicate {A = Cell g.row.F.Denot} c.args.room Free),
    )
