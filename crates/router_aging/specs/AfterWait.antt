-- The tables of a node after a wait.
use Rattle.std.specs.Prelude.{◌≡◌, ℕ, ◌+◌, ◌*◌, ◌≤◌}
use Rattle.rsvp_base.specs.Table.{kept, keys}
use Rattle.rsvp_base.specs.declared.style.StyleKind.TheVariants.{Wild, Fixed, Shared}
use Rattle.path_sends.specs.RouterState.Forgotten.{forgotten_all}
use Rattle.path_sends.specs.RouterState.State.{IsSettled, State, facts_of}
use Rattle.path_sends.specs.RouterState.Waited.{aged}
use Rattle.laws_sends.specs.Waits.{waited}
use Rattle.router_aging.specs.Losing.{lost_names}
use Rattle.router_aging.specs.Passing.{DeadSet, counts, dying_paths}

-- the names that go with these paths leave the reservations of each style, and the countdowns of sessions stop that have
-- neither a local sender nor a path
abbrev pub after_wait : DeadSet → State → State
after_wait dead a = record a {
  wild = forgotten_all (lost_names Wild (facts_of 0 a) (keys dead)) a.wild;
  fixed = forgotten_all (lost_names Fixed (facts_of 0 a) (keys dead)) a.fixed;
  shared = forgotten_all (lost_names Shared (facts_of 0 a) (keys dead)) a.shared;
  due = kept (counts a.senders a.paths) a.due;
}

-- so tables over which time has passed are the facts after a wait
abbrev pub AWaitIsSettled : Type 0
AWaitIsSettled =
    (n : State) (c ms word : ℕ) → IsSettled n → ms ≤ 2 * n.place.quarter → facts_of (c + ms) (after_wait (dying_paths ms n.paths) (aged ms word n)) ≡ waited n.place (c + ms) word (facts_of c n)
