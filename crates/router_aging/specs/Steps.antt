-- What holds of the tables of a node in the middle of a wait, and which sessions are touched.
use Rattle.std.specs.Prelude.{ℕ, ◌≤◌, List, [], ◌∷◌, ◌++◌, length}
use Rattle.rsvp_base.specs.declared.session.Session.{Session}
use Rattle.rsvp_base.specs.declared.style.StyleKind.TheVariants.{Wild, Fixed, Shared}
use Rattle.blockade_state.specs.Touched.{dying}
use Rattle.router_rules.specs.Facts.{SenderKey}
use Rattle.router_state.specs.Forgotten.{forgotten_all}
use Rattle.router_state.specs.State.{State, facts_of}
use Rattle.router_state.specs.Whole.{ArePulled, IsBooked}
use Rattle.router_state.specs.declared.tables.Tables.{Tables}
use Rattle.router_aging.specs.Losing.{lost_names}
use Rattle.router_aging.specs.Passing.{dying_paths, sessions_at}
use Rattle.router_aging.specs.Passed.{dying_in}

-- no dead fact waits, the book is that of the facts, and there are few interfaces
pub record AreSound (t : Tables) : Type 0 where
  pub pulled : ArePulled t
  pub booked : IsBooked t
  pub few : length t.book.ifaces ≤ 16

-- the sessions of which something dies
abbrev pub all_dying : ℕ → Tables → List Session
all_dying ms t = dying ms t.walls ++ (dying_in ms t.wild.facts ++ (dying_in ms t.fixed.facts ++ (dying_in ms t.shared.facts ++ sessions_at (dying_paths ms t.paths.facts))))

-- the name that goes with a sender leaves the reservations of each style, where no known sender has it
abbrev pub names_gone : SenderKey → State → State
names_gone k a = record a {
  wild = forgotten_all (lost_names Wild (facts_of 0 a) (k ∷ [])) a.wild;
  fixed = forgotten_all (lost_names Fixed (facts_of 0 a) (k ∷ [])) a.fixed;
  shared = forgotten_all (lost_names Shared (facts_of 0 a) (k ∷ [])) a.shared;
}
