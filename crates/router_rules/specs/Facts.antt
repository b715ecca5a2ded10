-- What a router keeps (RFC 2209, 1: Path State Blocks, PSB; Reservation State Blocks, RSB; Blockade State Blocks, BSB; RFC
-- 2205, 3.7: each with its lifetime): finite maps by key. A fact that can die has the moment of its death, and lives while the clock is before it.
use Rattle.std.specs.Prelude.{ℕ, Bool, Option}
use Rattle.rsvp_base.specs.declared.addr.Addr.{Addr}
use Rattle.rsvp_base.specs.declared.hop.Hop.{Hop}
use Rattle.rsvp_base.specs.declared.part.Part.{Part}
use Rattle.rsvp_base.specs.declared.session.Sender.{Sender}
use Rattle.rsvp_base.specs.declared.session.Session.{Session}
use Rattle.rsvp_base.specs.declared.style.StyleKind.{StyleKind}
use Rattle.rsvp_base.specs.declared.style.StyleKind.TheVariants.{Wild, Fixed, Shared}
use Rattle.rsvp_base.specs.declared.style.Unit.{Unit as UnitOf}
use Rattle.rsvp_base.specs.Keys.{Keys, pairs}
use Rattle.rsvp_base.specs.Orders.{sessions, senders, units}
use Rattle.rsvp_base.specs.Sets.{Set}
use Rattle.rsvp_base.specs.Table.{Table, empty}
use Rattle.rsvp_base.specs.TokenBucket.{TokenBucket}
use Rattle.rsvp_base.specs.Under.{under}
use Rattle.rsvp_messages.specs.RsvpObjects.declared.adspec.Adspec.{Adspec}
use Rattle.style_rules.specs.declared.wall.Wall.{Wall}
use Rattle.style_rules.specs.Lines.{next_hops, line_keys}
use Rattle.style_rules.specs.Targets.{wall_keys}

-- ---- keys
abbrev pub SenderKey : Type 0
SenderKey = Session × Sender

abbrev pub sender_keys : Keys SenderKey
sender_keys = pairs sessions senders

abbrev pub WantKey : Type 0
WantKey = Session × UnitOf

abbrev pub want_keys : Keys WantKey
want_keys = pairs sessions units

-- ---- facts
-- path state of a sender (PSB): the interface by which its Path came, the node that sent it, what the sender sends, E_Police, and
-- the ADSPEC that the Path had, if it had one
pub record PathState : Type 0 where
  pub iface : ℕ
  pub hop : Hop
  pub tspec : TokenBucket
  pub police : Bool
  pub adspec : Option Adspec
  pub dies : ℕ

-- reservation state of a next hop and unit (RSB); confirm is who wants to hear that it stands
pub record ResvState : Type 0 where
  pub part : Part
  pub confirm : Option Addr
  pub dies : ℕ

-- what a local receiver asks for; a wildcard filter has no senders
pub record Want : Type 0 where
  pub style : StyleKind
  pub part : Part
  pub confirm : Bool

-- blockade state (BSB): what was refused, and for what (RFC 2205, 3.5)
pub record Blockade : Type 0 where
  pub wall : Wall
  pub dies : ℕ

abbrev pub Paths : Type 0
Paths = Table sender_keys PathState

abbrev pub Resvs : Type 0
Resvs = Table line_keys ResvState

abbrev pub Wants : Type 0
Wants = Table want_keys Want

abbrev pub Walls : Type 0
Walls = Table wall_keys Blockade

-- ---- one table of reservations for each style
pub record ResvTables : Type 0 where
  pub wild : Resvs
  pub fixed : Resvs
  pub shared : Resvs

abbrev pub table_of : StyleKind → ResvTables → Resvs
table_of Wild ts = ts.wild
table_of Fixed ts = ts.fixed
table_of Shared ts = ts.shared

abbrev pub with_table : StyleKind → Resvs → ResvTables → ResvTables
with_table Wild t ts = record ts { wild = t }
with_table Fixed t ts = record ts { fixed = t }
with_table Shared t ts = record ts { shared = t }

abbrev pub each_table : (StyleKind → Resvs → Resvs) → ResvTables → ResvTables
each_table g ts = record { wild = g Wild ts.wild; fixed = g Fixed ts.fixed; shared = g Shared ts.shared }

abbrev pub no_resvs : ResvTables
no_resvs = record { wild = empty; fixed = empty; shared = empty }

-- ---- all facts of a node
pub record Facts : Type 0 where
  -- what local senders send
  pub senders : Table sender_keys TokenBucket
  -- of which their own node tells what the path offers (RFC 2210, 3.3)
  pub advertised : Set sender_keys
  -- what local receivers want
  pub wants : Wants
  pub paths : Paths
  pub resvs : ResvTables
  pub walls : Walls
  -- when a session's next refresh is due
  pub due : Table sessions ℕ

abbrev pub no_facts : Facts
no_facts = record { senders = empty; advertised = empty; wants = empty; paths = empty; resvs = no_resvs; walls = empty; due = empty }

abbrev pub resvs_of : StyleKind → Facts → Resvs
resvs_of st f = table_of st f.resvs

abbrev pub with_resvs : StyleKind → Resvs → Facts → Facts
with_resvs st t f = record f { resvs = with_table st t f.resvs }

-- ---- those of a session
abbrev pub senders_in : Facts → Session → Table senders TokenBucket
senders_in f s = under sessions senders f.senders s

abbrev pub paths_in : Facts → Session → Table senders PathState
paths_in f s = under sessions senders f.paths s

abbrev pub wants_in : Facts → Session → Table units Want
wants_in f s = under sessions units f.wants s

abbrev pub resvs_in : StyleKind → Facts → Session → Table (pairs next_hops units) ResvState
resvs_in st f s = under sessions (pairs next_hops units) (resvs_of st f) s
