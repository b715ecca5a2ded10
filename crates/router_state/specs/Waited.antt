-- What the tables have once time has passed.
use Rattle.std.specs.Prelude.{ℕ, ◌+◌, ◌-◌, ◌*◌, ◌%◌, nat_le, cond, Option, Some, None}
use Rattle.rsvp_base.specs.Table.{changed}
use Rattle.rsvp_base.specs.declared.session.Session.{Session}
use Rattle.path_state.specs.Paths.{later as later_path}
use Rattle.resv_state.specs.Resvs.{later as later_resv}
use Rattle.blockade_state.specs.Blockades.{later as later_wall}
use Rattle.router_state.specs.State.{State}

-- what is left of a countdown: one that comes due begins again with half a period and up to one more, as the word says,
-- counted from the moment at which it was due
abbrev pub ticked : ℕ → ℕ → ℕ → ℕ → ℕ
ticked quarter ms word left = cond (nat_le left ms) (left + 2 * quarter + word % (4 * quarter + 1) - ms) (left - ms)

abbrev pub later_due : ℕ → ℕ → ℕ → Session → ℕ → Option ℕ
later_due quarter ms word s left = Some (ticked quarter ms word left)

abbrev pub is_fired : ℕ → Session → ℕ → Option (Unit {0})
is_fired ms s left = cond (nat_le left ms) (Some tt) None

-- the tables that time has passed over; names are not forgotten yet, and no countdown is stopped
abbrev pub aged : ℕ → ℕ → State → State
aged ms word n = record n {
  paths = changed (later_path ms) n.paths;
  wild = changed (later_resv ms) n.wild;
  fixed = changed (later_resv ms) n.fixed;
  shared = changed (later_resv ms) n.shared;
  walls = changed (later_wall ms) n.walls;
  due = changed (later_due n.place.quarter ms word) n.due;
}
