-- Names and units of a style (RFC 2205, 1.3 and 2.2).
use Rattle.std.specs.Prelude.{List, [], ◌∷◌}
use Rattle.rsvp_base.specs.Table.{keys}
use Rattle.rsvp_base.specs.declared.part.Part.{Part}
use Rattle.rsvp_base.specs.declared.session.Sender.{Sender}
use Rattle.rsvp_base.specs.declared.style.StyleKind.{StyleKind}
use Rattle.rsvp_base.specs.declared.style.StyleKind.TheVariants.{Wild, Fixed, Shared}
use Rattle.rsvp_base.specs.declared.style.Unit.{Unit as UnitOf}
use Rattle.rsvp_base.specs.declared.style.Unit.TheVariants.{One, Of}

-- the name under which the style lists a sender: WF lists addresses alone, with port 0
abbrev pub name_of : StyleKind → Sender → Sender
name_of Wild s = record { addr = s.addr; port = 0 }
name_of Fixed s = s
name_of Shared s = s

-- the unit under which a reservation for the sender stands: FF has one for each sender, WF and SE one for all
abbrev pub unit_of : StyleKind → Sender → UnitOf
unit_of Wild s = One
unit_of Fixed s = Of s
unit_of Shared s = One

-- the unit of a list of names, which is that of the first
abbrev pub unit_of_first : StyleKind → List Sender → UnitOf
unit_of_first st [] = One
unit_of_first st (s ∷ ss) = unit_of st s

-- the unit under which a part stands
abbrev pub part_unit : StyleKind → Part → UnitOf
part_unit st p = unit_of_first st (keys p.senders)
