-- The rows in which a merger keeps its tally.
use Rattle.rsvp_base.specs.declared.style.Unit.{Unit as UnitOf}
use Rattle.style_rules.specs.declared.row.Row.{Row}
use Rattle.style_rules.specs.Tally.{Standing}

abbrev pub standing_of : Row → Standing
standing_of r = record { part = r.part; is_open = r.is_open }

abbrev pub tally_row : Row → UnitOf × Standing
tally_row r = (r.unit, standing_of r)
