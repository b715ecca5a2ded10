use Rattle.std.proofs.Common.{length, ap, arith}
use Rattle.soft_table.proofs.Views.{all_counted, count_rows}
use Rattle.soft_table.proofs.table.SoftTable.len.Goals as goal

pub returns : goal.returns
returns g c =
    omega (
      arith,
      c.len.ensures,
      c.requires,
      all_counted g.F.Fact.rests g.F.Fact.key_of c.self.inside.pool c.self.inside.rows.rows c.self.invariant.0,
      count_rows g.F.Fact.rests g.F.Fact.key_of c.self.inside.pool c.self.inside.rows.rows c.self.invariant.0,
      ap (λ t. length t.dead) c.self.view_is,
      ap length c.requires,
      ap (λ t. length t.facts) c.self.view_is,
    )
