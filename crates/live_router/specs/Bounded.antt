-- A node whose facts are within bounds, whatever the clock from which their moments are counted.
use Rattle.std.specs.Prelude.{ℕ, ◌≤◌}
use Rattle.router_rules.specs.Bounds.{IsWithinBounds}
use Rattle.router_state.specs.State.{State, facts_of}

pub record IsBounded (n : State) : Type 0 where
  pub some : 1 ≤ n.place.quarter
  pub within : (c : ℕ) → IsWithinBounds n.place c (facts_of c n)
