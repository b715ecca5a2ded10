-- A node that is cleared: its local senders and wants stay, and countdowns begin anew.
use Rattle.std.specs.Prelude.{◌≡◌, ℕ}
use Rattle.rsvp_base.specs.Table.{empty}
use Rattle.router_rules.specs.Calls.{act_clear}
use Rattle.router_rules.specs.NodeConfig.{period}
use Rattle.router_rules.specs.Rule.{settled}
use Rattle.path_sends.specs.RouterState.State.{State, facts_of}
use Rattle.router_aging.specs.Passing.{all_begun}

abbrev pub cleared : State → State
cleared n = record n { paths = empty; wild = empty; fixed = empty; shared = empty; walls = empty; due = all_begun (period n.place) n.senders; said = empty }

abbrev pub ClearIsSettled : Type 0
ClearIsSettled = (n : State) (c : ℕ) → facts_of c (cleared n) ≡ settled n.place c (facts_of c n) (act_clear (facts_of c n))
