-- The wants of nodes as they are kept: in slots, in the order of their lines, and for each node an entry of each of its wants.
use Rattle.std.specs.Prelude.{◌≡◌, ℕ, suc, ◌==◌, Bool, true, not, ◌&&◌, ◌||◌, if◌then◌else◌, List, [], ◌∷◌, ◌++◌, map as each, Option, None, Some, get_or, set}
use Rattle.std.specs.List.{filter}
use Rattle.std.specs.Ordering.{eq_by_cmp}
use Rattle.rsvp_base.specs.Orders.{styles as by_style, units as by_unit}
use Rattle.rsvp_base.specs.Styles.{part_unit}
use Rattle.rsvp_base.specs.declared.session.Session.{Session}
use Rattle.rsvp_base.specs.declared.style.StyleKind.{StyleKind}
use Rattle.rsvp_base.specs.declared.style.Unit.{Unit as UnitOf}
use Rattle.tree_model.specs.declared.locals.LocalWant.{LocalWant}
use Rattle.script_grammar.specs.Draft.{same_session}
use Rattle.script_rules.specs.declared.entries.Entry.{Entry}
use Rattle.script_rules.specs.declared.entries.Which.{Which}

-- ---- what stands in slots
-- the wants in slots from a number on, each with its slot
abbrev pub placed_from : ℕ → List (Option LocalWant) → List (ℕ × LocalWant)
placed_from k [] = []
placed_from k (None ∷ slots) = placed_from (suc k) slots
placed_from k (Some w ∷ slots) = (k, w) ∷ placed_from (suc k) slots

abbrev pub placed : List (Option LocalWant) → List (ℕ × LocalWant)
placed slots = placed_from 0 slots

abbrev pub standing : List (Option LocalWant) → List LocalWant
standing slots = each (λ e. e.1) (placed slots)

-- ---- the entries of a node
abbrev pub entry_of : ℕ × LocalWant → Entry
entry_of e = record { session = e.1.session; style = e.1.style; unit = part_unit e.1.style e.1.part; slot = e.0 }

abbrev pub is_of_node : ℕ → ℕ × LocalWant → Bool
is_of_node n e = e.1.node == n

abbrev pub entries_of : ℕ → List (Option LocalWant) → List Entry
entries_of n slots = each entry_of (filter (is_of_node n) (placed slots))

-- the list of a node; none where there is no such list
abbrev pub entries_in : List (List Entry) → ℕ → List Entry
entries_in lists n = get_or lists n []

-- the list of each node has the entries of its wants
abbrev pub AreListed : List (Option LocalWant) → List (List Entry) → Type 0
AreListed slots lists = (n : ℕ) → entries_in lists n ≡ entries_of n slots

-- ---- the wants of a session at a node
abbrev pub is_of_session : Session → Entry → Bool
is_of_session session s = same_session session s.session

-- one of the session is of the style
abbrev pub fits : Session → StyleKind → Entry → Bool
fits session style s = not (is_of_session session s) || eq_by_cmp by_style.cmp s.style style

-- a list of wants and behind it the want in a slot; the list alone where the slot is empty
abbrev pub with_slot : List LocalWant → Option LocalWant → List LocalWant
with_slot own None = own
with_slot own (Some w) = own ++ w ∷ []

-- a list of wants and behind it those in the slots of the entries of the session
abbrev pub with_slots : Session → List (Option LocalWant) → List LocalWant → List Entry → List LocalWant
with_slots session slots own [] = own
with_slots session slots own (s ∷ ss) =
    with_slots session slots (if is_of_session session s then with_slot own (get_or slots s.slot None) else own) ss

-- ---- the wants that are meant
abbrev pub is_one : Option (StyleKind × UnitOf) → StyleKind → UnitOf → Bool
is_one None style unit = true
is_one (Some one) style unit = eq_by_cmp by_style.cmp one.0 style && eq_by_cmp by_unit.cmp one.1 unit

abbrev pub is_meant : Which → Entry → Bool
is_meant which s = same_session which.session s.session && is_one which.one s.style s.unit

abbrev pub is_meant_at : ℕ → Which → LocalWant → Bool
is_meant_at n which w = (w.node == n) && is_meant which (entry_of (0, w))

-- the slots with none in those of a list that are meant
abbrev pub cleared : Which → List (Option LocalWant) → List Entry → List (Option LocalWant)
cleared which slots [] = slots
cleared which slots (s ∷ ss) = cleared which (if is_meant which s then set slots s.slot None else slots) ss
