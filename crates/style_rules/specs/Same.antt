-- Whether two tables of parts are the same: each part of the one has its unit in the other, with a part that can stand for
-- it, and the other way round.
use Rattle.std.specs.Prelude.{Bool, false, ◌&&◌, Option, Some, None}
use Rattle.std.specs.List.{list_all}
use Rattle.rsvp_base.specs.Table.{get}
use Rattle.rsvp_base.specs.declared.part.Part.{Part}
use Rattle.rsvp_base.specs.declared.style.Unit.{Unit as UnitOf}
use Rattle.style_rules.specs.Merge.{PartTable}
use Rattle.style_rules.specs.Parts.{part_le}

abbrev pub stands_for : Part → Option Part → Bool
stands_for part None = false
stands_for part (Some other) = part_le part other

abbrev pub is_part_in : PartTable → UnitOf × Part → Bool
is_part_in t e = stands_for e.1 (get t e.0)

abbrev pub parts_le : PartTable → PartTable → Bool
parts_le s t = list_all (is_part_in t) s.rows

abbrev pub same_parts : PartTable → PartTable → Bool
same_parts s t = parts_le s t && parts_le t s
