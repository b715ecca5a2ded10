-- What the tables of a node are seen as, together, and what holds of them between two inputs.
use Rattle.std.specs.Prelude.{◌≡◌, ℕ, []}
use Rattle.std.specs.Option.{option_map}
use Rattle.rsvp_base.specs.Table.{empty, get}
use Rattle.rsvp_base.specs.declared.entry_key.EntryKey.{EntryKey}
use Rattle.local_state.specs.Books.{book}
use Rattle.router_state.specs.State.{Said, State, facts_of}
use Rattle.router_state.specs.declared.tables.Tables.{Tables}

-- with what was said last toward each lane
abbrev pub state_of : Tables → Said → State
state_of t said = record {
  place = t.config;
  senders = t.senders.tspecs;
  advertised = t.senders.advertised;
  wants = t.wants;
  paths = t.paths.facts;
  wild = t.wild.facts;
  fixed = t.fixed.facts;
  shared = t.shared.facts;
  walls = t.walls;
  due = t.due;
  said = said;
}

-- no dead fact waits
pub record ArePulled (t : Tables) : Type 0 where
  pub paths : t.paths.dead.rows ≡ []
  pub wild : t.wild.dead.rows ≡ []
  pub fixed : t.fixed.dead.rows ≡ []
  pub shared : t.shared.dead.rows ≡ []

-- the book that is kept has the flow of each entry of the book that follows from the facts (RFC 2209, 2: UPDATE TRAFFIC
-- CONTROL)
abbrev pub IsBooked : Tables → Type 0
IsBooked t = (c i : ℕ) (k : EntryKey) → get t.book.entries (i, k) ≡ option_map (λ part. part.flow) (get (book (facts_of c (state_of t empty)) i) k)

-- and it is that of the node's interfaces
abbrev pub IsOfPlace : Tables → Type 0
IsOfPlace t = t.book.ifaces ≡ t.config.ifaces
