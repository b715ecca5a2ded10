use Rattle.std.proofs.Common.{◌≡◌, length, sym, ap, ◌∙◌}
use Rattle.std.proofs.lemmas.List.{length-map}
use Rattle.soft_table.specs.declared.cell.Cell.{Cell}
use Rattle.soft_table.specs.declared.cell.Cell.TheVariants.{Free}
use Rattle.soft_table.proofs.Changes.{index_freed}
use Rattle.soft_table.proofs.table.SoftTable.clear.Goals as goal

pub invariant_of-self : goal.invariant_of-self
invariant_of-self g c =
    let room : length c.clear.new.self ≡ length c.self.inside.pool = ap length c.clear.ensures ∙ length-map {B = Cell g.row.F.Denot} c.self.inside.pool (λ (x : Cell g.row.F.Denot). Free) in (
      index_freed g.F.Fact.rests g.F.Fact.key_of c.self.inside.pool c.clear.new.self c.clear-2.new.self.rows c.clear.ensures (ap (λ t. t.rows) c.clear-2.ensures),
      ap (λ t. t.room) c.clear-2.ensures
          ∙ c.self.invariant.1 ∙ sym room,
    )
