-- Lists of units, and the sets that they are.
use Rattle.std.specs.Coded.{Coded}
use Rattle.rsvp_base.specs.Codes.{unit_code}
use Rattle.rsvp_base.specs.Orders.{units}
use Rattle.rsvp_base.specs.Sets.{Set, set_code}
use Rattle.rsvp_base.specs.declared.style.Unit.{Unit as UnitOf}

abbrev pub UnitSet : Type 0
UnitSet = Set units

-- a unit as a row of a set
abbrev pub unit_row : UnitOf → UnitOf × Unit {0}
unit_row u = (u, tt)

abbrev pub unit_set_code : Coded UnitSet
unit_set_code = set_code units unit_code
