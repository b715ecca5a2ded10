-- Countdowns start, and run (RFC 2205, 3.7).
use Rattle.std.specs.Prelude.{ℕ, ◌+◌, ◌-◌, ◌*◌, ◌%◌, nat_le, Bool, true, false, cond, Option, Some, None}
use Rattle.rsvp_base.specs.Orders.{sessions}
use Rattle.rsvp_base.specs.Table.{Table, put_in}
use Rattle.rsvp_base.specs.declared.session.Session.{Session}
use Rattle.local_state.specs.declared.countdowns.Countdown.{Countdown}

-- one starts where there is none
abbrev pub started : Bool → Session → ℕ → Table sessions ℕ → Table sessions ℕ
started true s left t = t
started false s left t = put_in t s left

-- what is left after some time: one that comes due begins again with half a period and up to one more, as the word says,
-- counted from the moment at which it was due
abbrev pub ticked : ℕ → ℕ → ℕ → ℕ → ℕ
ticked quarter ms word left = cond (nat_le left ms) (left + 2 * quarter + word % (4 * quarter + 1) - ms) (left - ms)

abbrev pub later_due : ℕ → ℕ → ℕ → Session → ℕ → Option ℕ
later_due quarter ms word s left = Some (ticked quarter ms word left)

-- the sessions whose countdowns come due
abbrev pub is_fired : ℕ → Session → ℕ → Option (Unit {0})
is_fired ms s left = cond (nat_le left ms) (Some tt) None

-- ---- of rows
abbrev pub ticked_row : ℕ → ℕ → ℕ → Countdown → Countdown
ticked_row quarter ms word r = record r { left = ticked quarter ms word r.left }

abbrev pub fired_row : ℕ → Countdown → Option (Session × Unit {0})
fired_row ms r = cond (nat_le r.left ms) (Some (r.session, tt)) None
