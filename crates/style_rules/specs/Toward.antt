-- What goes toward a hop (RFC 2205, 3.5): of each unit the join of the requests that are not blockaded, or the meet of
-- all of them where all are. Requests that name nobody fall away.
use Rattle.std.specs.Prelude.{◌≡◌, Bool, true, false, not, List, map as each, Option, Some, None}
use Rattle.std.specs.List.{filter}
use Rattle.rsvp_base.specs.declared.part.Part.{Part}
use Rattle.rsvp_base.specs.declared.style.StyleKind.{StyleKind}
use Rattle.rsvp_base.specs.declared.style.Unit.{Unit as UnitOf}
use Rattle.rsvp_base.specs.Members.{In}
use Rattle.rsvp_base.specs.Orders.{units}
use Rattle.rsvp_base.specs.TokenBucket.{TokenBucket}
use Rattle.flow_merge.specs.Blockade.{does_blockade}
use Rattle.flow_merge.specs.FlowOrder.{flow_meet}
use Rattle.style_rules.specs.declared.wall.Wall.{Wall}
use Rattle.style_rules.specs.Parts.{has_name, part_join, part_meet}
use Rattle.rsvp_base.specs.Styles.{part_unit}
use Rattle.style_rules.specs.Merge.{table_at, all_by, those_at, PartTable}

-- a blockade, where there is one, keeps such a flow back
abbrev pub is_walled : TokenBucket → Option Wall → Bool
is_walled asked None = false
is_walled asked (Some wall) = does_blockade wall.flow wall.sub asked

-- a request toward a hop, and whether it is blockaded there
pub record Request : Type 0 where
  pub part : Part
  pub blockaded : Bool

abbrev pub request_unit : StyleKind → Request → UnitOf
request_unit st r = part_unit st r.part

abbrev pub parts_of : List Request → List Part
parts_of rs = each (λ r. r.part) rs

-- those that are not blockaded
abbrev pub open_of : List Request → List Request
open_of rs = filter (λ r. not r.blockaded) rs

-- the requests of a unit
abbrev pub requests_at : StyleKind → UnitOf → List Request → List Request
requests_at st u rs = those_at units (request_unit st) (λ r. r.part) u rs

abbrev pub or_else : {X : Type 0} → Option X → Option X → Option X
or_else (Some x) y = Some x
or_else None y = y

abbrev pub toward_at : StyleKind → List Request → UnitOf → Option Part
toward_at st rs u =
    or_else (all_by part_join (parts_of (open_of (requests_at st u rs)))) (all_by part_meet (parts_of (requests_at st u rs)))

abbrev pub toward : StyleKind → List Request → PartTable
toward st rs = table_at (toward_at st rs) (each (request_unit st) rs)

-- ---- what is said of it
-- a request of a unit that names someone
pub record IsRequestOf (st : StyleKind) (rs : List Request) (u : UnitOf) (r : Request) : Type 0 where
  pub among : In r rs
  pub named : has_name r.part ≡ true
  pub unit : u ≡ request_unit st r

-- and is not blockaded
pub record IsOpenRequestOf (st : StyleKind) (rs : List Request) (u : UnitOf) (r : Request) : Type 0 where
  pub request : IsRequestOf st rs u r
  pub unmarked : r.blockaded ≡ false

abbrev pub flows_of : List Request → List TokenBucket
flows_of rs = each (λ r. r.part.flow) rs

-- the meet of the flows of all requests of a unit
abbrev pub meet_at : StyleKind → List Request → UnitOf → Option TokenBucket
meet_at st rs u = all_by flow_meet (flows_of (requests_at st u rs))
