-- The style merge (RFC 2205, 2.2): of the parts of each unit that name someone, the senders of all and the join of the
-- flows. It is a table, so that equal merges are identical, and knows no limit of room.
use Rattle.std.specs.Prelude.{◌≡◌, true, ◌&&◌, List, [], ◌∷◌, map as each, Option, Some, None}
use Rattle.std.specs.List.{filter, fold}
use Rattle.std.specs.Ordering.{eq_by_cmp}
use Rattle.rsvp_base.specs.declared.part.Part.{Part}
use Rattle.rsvp_base.specs.declared.style.StyleKind.{StyleKind}
use Rattle.rsvp_base.specs.declared.style.Unit.{Unit as UnitOf}
use Rattle.rsvp_base.specs.Keys.{Keys}
use Rattle.rsvp_base.specs.Members.{In}
use Rattle.rsvp_base.specs.Table.{Table, empty, get, put_in}
use Rattle.rsvp_base.specs.Orders.{units}
use Rattle.style_rules.specs.Parts.{has_name, part_join}
use Rattle.rsvp_base.specs.Styles.{part_unit}

abbrev pub put_some : {K X : Type 0} {o : Keys K} → K → Option X → Table o X → Table o X
put_some k None m = m
put_some k (Some x) m = put_in m k x

-- what f gives at each key of a list, where it gives something
abbrev pub table_at : {K X : Type 0} {o : Keys K} → (K → Option X) → List K → Table o X
table_at f [] = empty
table_at f (k ∷ ks) = put_some k (f k) (table_at f ks)

-- all of a list by an operation, if there are some
abbrev pub all_by : {X : Type 0} → (X → X → X) → List X → Option X
all_by op [] = None
all_by op (x ∷ xs) = Some (fold op x xs)

-- of any things that have a key and a part
module _ {L K : Type 0} (o : Keys K) (key : L → K) (part : L → Part) where
  -- those of a key that name someone
  abbrev pub those_at : K → List L → List L
  those_at k ls = filter (λ l. has_name (part l) && eq_by_cmp o.cmp k (key l)) ls

  abbrev pub merge_at : K → List L → Option Part
  merge_at k ls = all_by part_join (each part (those_at k ls))

  abbrev pub merge_of : List L → Table o Part
  merge_of ls = table_at (λ k. merge_at k ls) (each key ls)

-- parts by unit
abbrev pub PartTable : Type 0
PartTable = Table units Part

-- of parts, by the units of their style
abbrev pub merge : StyleKind → List Part → PartTable
merge st ps = merge_of units (part_unit st) (λ p. p) ps

-- ---- what is said of it
-- a part of the list that has the unit and names someone
pub record IsPartOf (st : StyleKind) (ps : List Part) (u : UnitOf) (p : Part) : Type 0 where
  pub among : In p ps
  pub named : has_name p ≡ true
  pub unit : u ≡ part_unit st p

-- the table has a part exactly for each unit of such parts, and it is the least that can stand for all of them
pub record IsMergeOf (st : StyleKind) (at_most : Part → Part → Type 0) (ps : List Part) (t : PartTable) : Type 0 where
  pub source : (u : UnitOf) (m : Part) → get t u ≡ Some m → (p : Part) × IsPartOf st ps u p
  pub above : (u : UnitOf) (p : Part) → IsPartOf st ps u p → (m : Part) × (get t u ≡ Some m) × at_most p m
  pub least : (u : UnitOf) (m c : Part) → get t u ≡ Some m → ((p : Part) → IsPartOf st ps u p → at_most p c) → at_most m c
