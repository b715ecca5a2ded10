-- What a merger keeps of the requests that were added to it.
use Rattle.std.specs.Prelude.{◌≤◌, Bool, true, false, cond, not, List, map as each, Option, Some, None, IsTrue, refl}
use Rattle.std.specs.List.{flat_map, list_any, list_all}
use Rattle.std.specs.Option.{option_map}
use Rattle.std.specs.Ordering.{eq_by_cmp}
use Rattle.std.specs.Coded.{Coded, code_by, coded×, coded_bool}
use Rattle.rsvp_base.specs.declared.part.Part.{Part}
use Rattle.rsvp_base.specs.declared.style.StyleKind.{StyleKind}
use Rattle.rsvp_base.specs.declared.style.Unit.{Unit as UnitOf}
use Rattle.rsvp_base.specs.Codes.{unit_code, part_code}
use Rattle.rsvp_base.specs.Orders.{units, Names}
use Rattle.rsvp_base.specs.Sets.{set_of}
use Rattle.rsvp_base.specs.Table.{Table, get, size, put_in, changed, keys, table_code}
use Rattle.rsvp_base.specs.Styles.{unit_of, part_unit}
use Rattle.style_rules.specs.Parts.{has_name, part_join, part_meet}
use Rattle.style_rules.specs.Merge.{table_at, all_by, PartTable}
use Rattle.style_rules.specs.Toward.{Request, request_unit, parts_of, open_of, requests_at, or_else}

-- of the requests of a unit: the join of the open ones, or the meet of all where none is open
pub record Standing : Type 0 where
  pub part : Part
  pub is_open : Bool

abbrev pub TallyTable : Type 0
TallyTable = Table units Standing

abbrev pub standing_by : Bool → Part → Standing
standing_by b p = record { part = p; is_open = b }

abbrev pub standing_at : StyleKind → List Request → UnitOf → Option Standing
standing_at st rs u =
    or_else (option_map (standing_by true) (all_by part_join (parts_of (open_of (requests_at st u rs)))))
    (option_map (standing_by false) (all_by part_meet (parts_of (requests_at st u rs))))

-- what is kept of a list of requests
abbrev pub tally_of : StyleKind → List Request → TallyTable
tally_of st rs = table_at (standing_at st rs) (each (request_unit st) rs)

-- ---- one more request
-- an open request takes the place of blockaded ones, and a blockaded one counts only among others
abbrev pub stood_with : Standing → Part → Bool → Standing
stood_with s p true = record { part = cond s.is_open s.part (part_meet s.part p); is_open = s.is_open }
stood_with s p false = record { part = cond s.is_open (part_join s.part p) p; is_open = true }

abbrev pub first_or_with : Option Standing → Part → Bool → Standing
first_or_with None p blockaded = standing_by (not blockaded) p
first_or_with (Some s) p blockaded = stood_with s p blockaded

-- a part that names nobody falls away
abbrev pub with_request : StyleKind → TallyTable → Part → Bool → TallyTable
with_request st t p blockaded = cond (has_name p) (put_in t (part_unit st p) (first_or_with (get t (part_unit st p)) p blockaded)) t

-- ---- in the end
abbrev pub parts_of_tally : TallyTable → PartTable
parts_of_tally t = changed (λ u s. Some s.part) t

-- ---- room
-- all names of a list of requests
abbrev pub names_of_requests : List Request → Names
names_of_requests rs = set_of (flat_map (λ r. keys r.part.senders) rs)

-- the names of those that count
abbrev pub names_of_rows : List (UnitOf × Standing) → Names
names_of_rows es = set_of (flat_map (λ e. keys e.1.part.senders) es)

abbrev pub names_of_tally : TallyTable → Names
names_of_tally t = names_of_rows t.rows

abbrev pub NamesFit : List (UnitOf × Standing) → Type 0
NamesFit es = size (names_of_rows es) ≤ 16

-- a row stands under the unit of a name of its part
abbrev pub is_named : StyleKind → UnitOf × Standing → Bool
is_named st e = list_any (λ s. eq_by_cmp units.cmp e.0 (unit_of st s)) (keys e.1.part.senders)

abbrev pub AreNamed : StyleKind → List (UnitOf × Standing) → Type 0
AreNamed st es = IsTrue (list_all (is_named st) es)

abbrev pub standing_code : Coded Standing
standing_code = code_by (Part × Bool) (coded× part_code coded_bool) (λ s. (s.part, s.is_open)) (λ t. record { part = t.0; is_open = t.1 }) (λ _. refl)

abbrev pub tally_code : Coded TallyTable
tally_code = table_code units unit_code standing_code
