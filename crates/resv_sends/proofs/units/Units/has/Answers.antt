use Rattle.std.specs.Prelude.{is_some, map as each}
use Rattle.std.specs.FinMap.Entries.{find}
use Rattle.std.proofs.Common.{◌∙◌, ap}
use Rattle.rsvp_base.specs.Orders.{units}
use Rattle.rsvp_base.specs.Table.{has}
use Rattle.rsvp_base.proofs.Rows.{found_where_some}
use Rattle.resv_sends.specs.Units.{unit_row}
use Rattle.resv_sends.proofs.units.Units.has.Goals as goal

pub returns : goal.returns
returns c =
    c.is_ok.ensures.value ∙ found_where_some units unit_row c.as_slice.result.now c.args.unit c.search.result c.search.ensures.there c.search.ensures.absent
    ∙ ap (λ xs. is_some (find units.cmp c.args.unit (each unit_row xs))) c.as_slice.ensures.value ∙ ap (λ m. has m c.args.unit) c.self.view_is
