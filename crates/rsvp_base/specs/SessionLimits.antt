-- The limits of tables by session and something of it, as senders or units: at most 32 sessions, and 16 of each.
use Rattle.std.specs.Prelude.{◌≤◌, nat_le, Bool, ◌&&◌, map as each}
use Rattle.rsvp_base.specs.Keys.{Keys, pairs}
use Rattle.rsvp_base.specs.Sets.{Set, set_of}
use Rattle.rsvp_base.specs.Table.{Table, keys, size}
use Rattle.rsvp_base.specs.Under.{under}
use Rattle.rsvp_base.specs.Orders.{sessions}
use Rattle.rsvp_base.specs.declared.session.Session.{Session}

module _ {B X : Type 0} (o : Keys B) where
  abbrev pub sessions_in : Table (pairs sessions o) X → Set sessions
  sessions_in m = set_of (each (λ k. k.0) (keys m))

  pub record IsWithinSessionLimits (m : Table (pairs sessions o) X) : Type 0 where
    pub all : size (sessions_in m) ≤ 32
    pub one : (s : Session) → size (under sessions o m s) ≤ 16

  -- a table is within them at the session that changed
  abbrev pub has_room_at : Table (pairs sessions o) X → Session → Bool
  has_room_at m s = nat_le (size (sessions_in m)) 32 && nat_le (size (under sessions o m s)) 16
