-- A wait, as rounds over the sessions of which something dies or that come due.
use Rattle.std.specs.Prelude.{◌≡◌, ℕ, ◌+◌, ◌*◌, ◌≤◌, true, List, ◌++◌, map as each, is_some, None}
use Rattle.std.specs.List.{flat_map}
use Rattle.rsvp_base.specs.Table.{changed, get, has, keys}
use Rattle.rsvp_base.specs.declared.session.Session.{Session}
use Rattle.router_rules.specs.Facts.{SenderKey}
use Rattle.router_rules.specs.Inputs.{Wait}
use Rattle.router_rules.specs.Rule.{facts_after, sent_after}
use Rattle.router_state.specs.State.{IsSaid, IsSettled, Said, State, facts_of}
use Rattle.router_state.specs.Waited.{aged, is_fired}
use Rattle.laws_sends.specs.Told.{offered}
use Rattle.laws_sends.specs.Several.{gone_told, refreshed}
use Rattle.laws_sends.specs.Waits.{IsWatched}
use Rattle.router_aging.specs.AfterWait.{after_wait}
use Rattle.router_aging.specs.Passing.{dying_paths}
use Rattle.router_aging.specs.Watching.{HasAllDying}
use Rattle.router_state.specs.Whole.{state_of}
use Rattle.router_state.specs.declared.tables.Tables.{Tables}
use Rattle.router_aging.specs.Steps.{all_dying}
use Rattle.router_rounds.specs.Rounds.{AreCleared, AreRounds, told_round, torn_near, wants_told, with_hops}

-- the tables after a wait of so many milliseconds, before marks are taken away
abbrev pub passed : ℕ → ℕ → State → State
passed ms word n = after_wait (dying_paths ms n.paths) (aged ms word n)

-- a node, in a wait of at most half a period, and sessions among which are those of which something dies and those that come
-- due
pub record IsPassedOver (ss : List Session) (ms word : ℕ) (n : State) : Type 0 where
  pub settled : IsSettled n
  pub said : IsSaid n.said n
  pub short : ms ≤ 2 * n.place.quarter
  pub watched : (c : ℕ) → IsWatched ss (dying_paths ms n.paths) n.place (c + ms) word (facts_of c n)

-- the wait is rounds over these sessions: its facts, and what is sent, in order
pub record WaitIsRounds : Type 0 where
  pub rounds : (ss : List Session) (ms word : ℕ) (n : State) → IsPassedOver ss ms word n → AreRounds ss n (passed ms word n)
  pub settled : (ss : List Session) (ms word : ℕ) (n : State) → IsPassedOver ss ms word n → IsSettled (passed ms word n)
  pub facts : (ss : List Session) (ms word : ℕ) (n : State) → IsPassedOver ss ms word n → (c : ℕ) (said : Said) → AreCleared (passed ms word n) (each (with_hops (facts_of c n)) ss) said
      → facts_of (c + ms) (record (passed ms word n) { wants = wants_told (c + ms) (passed ms word n) said ss }) ≡ facts_after n.place n.place (c + ms) (Wait ms word) (facts_of c n)
  pub sent : (ss : List Session) (ms word : ℕ) (n : State) → IsPassedOver ss ms word n → (c : ℕ) (said : Said) → AreCleared (passed ms word n) (each (with_hops (facts_of c n)) ss) said
      → gone_told n.place (facts_of c n) (facts_of (c + ms) (passed ms word n)) (keys (dying_paths ms n.paths))
      ++ (flat_map (torn_near (c + ms) (passed ms word n) n.said) (each (with_hops (facts_of c n)) ss)
      ++ (flat_map (refreshed n.place (facts_of (c + ms) (passed ms word n))) (keys (changed (is_fired ms) n.due))
      ++ flat_map (λ s. told_round (c + ms) (passed ms word n) (has (changed (is_fired ms) n.due) s) said s) ss))
      ≡ sent_after n.place n.place (c + ms) (Wait ms word) (facts_of c n)

-- paths that die were offered, and are there no more
pub record DeadAreGone : Type 0 where
  pub were : (ms : ℕ) (n : State) (c : ℕ) (k : SenderKey) → has (dying_paths ms n.paths) k ≡ true → is_some (offered (facts_of c n) k) ≡ true
  pub gone : (ms word : ℕ) (n : State) (c : ℕ) (k : SenderKey) → has (dying_paths ms n.paths) k ≡ true → get (facts_of c (passed ms word n)).paths k ≡ None

-- the sessions of which something dies, as the tables are gone through
abbrev pub AllDyingAreThere : Type 0
AllDyingAreThere = (ms : ℕ) (t : Tables) (said : Said) → HasAllDying ms (state_of t said) (all_dying ms t)
