-- Sessions with the previous hops that they had, and those that are only due.
use Rattle.std.specs.Prelude.{◌≡◌, ℕ, Bool, true, false, List, Option, Some}
use Rattle.std.specs.Coded.{Coded}
use Rattle.blockade_state.specs.Touched.{Marks, is_touched}
use Rattle.path_state.specs.Paths.{HopSet, hop_set_code, hops_by, path_keys}
use Rattle.path_state.specs.declared.fact.PathFact.{PathFact}
use Rattle.rsvp_base.specs.Members.{In}
use Rattle.rsvp_base.specs.Orders.{senders, sessions}
use Rattle.rsvp_base.specs.Sets.{with_keys}
use Rattle.rsvp_base.specs.Table.{Table, table_code, values}
use Rattle.rsvp_base.specs.Under.{under}
use Rattle.rsvp_base.specs.contracts.session.Session as session
use Rattle.rsvp_base.specs.declared.session.Session.{Session}
use Rattle.router_state.specs.State.{Said, State}
use Rattle.laws_sends.specs.Several.{is_among}
use Rattle.router_aging.specs.Lost.{LostTable}
use Rattle.resv_sends.specs.Rounds.{IsStill}
use Rattle.router_rounds.specs.declared.nears.Near.{Near}

abbrev pub NearTable : Type 0
NearTable = Table sessions HopSet

abbrev pub near_row : Near → Session × HopSet
near_row n = (n.session, n.hops)

abbrev pub near_code : Coded NearTable
near_code = table_code sessions (session.the_row).coded hop_set_code

-- the previous hops of a session that has a countdown, by these paths
abbrev pub hops_then : Table path_keys (PathFact × ℕ) → Session → ℕ → Option HopSet
hops_then paths s left = Some (hops_by (under sessions senders paths s).rows)

-- the previous hops of a session before paths died: those that it has, and those from which they came
abbrev pub hops_before : Table path_keys (PathFact × ℕ) → LostTable → Session → HopSet
hops_before paths lost s = with_keys (hops_by (under sessions senders paths s).rows) (values (under sessions senders lost s))

-- those of a session that is watched
abbrev pub noted_before : Table path_keys (PathFact × ℕ) → LostTable → Session → Bool → Option HopSet
noted_before paths lost s touched = Some (hops_before paths lost s)

-- of the sessions that are due and of which nothing changed, what was said to each lane is what goes there
abbrev pub AreStill : State → Said → List Session → Marks → Type 0
AreStill m said due touched = (s : Session) → is_among due s ≡ true → is_touched touched s ≡ false → IsStill m s said

-- and by these paths they have the previous hops that they had
abbrev pub AreNear : Table path_keys (PathFact × ℕ) → NearTable → List Session → Marks → Type 0
AreNear paths near due touched = (s : Session) (hops : HopSet) → In (s, hops) near.rows → is_among due s ≡ true → is_touched touched s ≡ false → hops ≡ hops_by (under sessions senders paths s).rows
