-- The sessions of which something changed, among those that are watched.
use Rattle.std.specs.Prelude.{ℕ, Bool, false, ◌||◌, cond, nat_le, List, map as each, Option, Some, None}
use Rattle.std.specs.Coded.{Coded, coded_bool}
use Rattle.std.specs.List.{list_any}
use Rattle.std.specs.Option.{unwrap_or}
use Rattle.std.specs.Ordering.{eq_by_cmp}
use Rattle.rsvp_base.specs.Orders.{sessions}
use Rattle.rsvp_base.specs.Table.{Table, changed, get, keys, table_code}
use Rattle.rsvp_base.specs.contracts.session.Session as session
use Rattle.rsvp_base.specs.declared.session.Session.{Session}
use Rattle.style_rules.specs.Targets.{WallKey, wall_keys}
use Rattle.style_rules.specs.declared.wall.Wall.{Wall}
use Rattle.blockade_state.specs.Blockades.{WallMap}
use Rattle.blockade_state.specs.declared.fact.Kept.{Kept}
use Rattle.blockade_state.specs.declared.touched.Mark.{Mark}

-- each watched session, and whether something of it changed
abbrev pub Marks : Type 0
Marks = Table sessions Bool

abbrev pub mark_row : Mark → Session × Bool
mark_row m = (m.session, m.touched)

abbrev pub marks_code : Coded Marks
marks_code = table_code sessions (session.the_row).coded coded_bool

-- something of these sessions changed
abbrev pub touched_at : List Session → Session → Bool → Option Bool
touched_at ss s b = Some (b || list_any (eq_by_cmp sessions.cmp s) ss)

abbrev pub touched_by : List Session → Marks → Marks
touched_by ss m = changed (touched_at ss) m

abbrev pub is_touched : Marks → Session → Bool
is_touched m s = unwrap_or (get m s) false

-- ---- the sessions whose blockades die
abbrev pub dead_after : ℕ → WallKey → Wall × ℕ → Option Wall
dead_after ms k e = cond (nat_le e.1 ms) (Some e.0) None

abbrev pub dying : ℕ → WallMap → List Session
dying ms m = each (λ k. k.0) (keys {X = Wall} {o = wall_keys} (changed (dead_after ms) m))

abbrev pub sessions_of : List Kept → List Session
sessions_of fs = each (λ f. f.session) fs
