use Rattle.std.proofs.Common.{rules, of_calls}
use Rattle.std.proofs.lemmas.Fn.{always_returns_same}
use Rattle.rsvp_base.specs.Orders.{units}
use Rattle.rsvp_base.specs.declared.style.Unit.{Unit as UnitOf}
use Rattle.rsvp_base.proofs.Rows.{searched_found, searched_absent}
use Rattle.resv_sends.specs.Units.{unit_row}
use Rattle.resv_sends.proofs.units.search.Goals as goal

pub returns : goal.returns
returns c =
    let is = c.binary_search_by.ensures.position (λ (x : UnitOf). units.cmp x c.args.unit) (always_returns_same _ _ _ (λ a r f k. search (rules, of_calls))) in
    record {
      there = searched_found units unit_row c.args.list.now c.args.unit c.binary_search_by.result c.requires c.binary_search_by.ensures.bound is;
      absent = searched_absent units unit_row c.args.list.now c.args.unit c.binary_search_by.result c.requires c.binary_search_by.ensures.bound is;
    }
