-- How countdowns to the next refresh move: the claims of the public law.
use Rattle.std.specs.Prelude.{◌≡◌, ℕ, ◌+◌, ◌*◌, ◌%◌, ◌≤◌, ◌⊎◌, ◌↔◌, true, false, Some, None}
use Rattle.rsvp_base.specs.declared.session.Sender.{Sender}
use Rattle.rsvp_base.specs.declared.session.Session.{Session}
use Rattle.rsvp_base.specs.Table.{get, has}
use Rattle.laws_bounds.specs.RouterRules.Facts.{Facts}
use Rattle.laws_bounds.specs.RouterRules.Inputs.{Input, Wait, Clear}
use Rattle.laws_bounds.specs.RouterRules.Known.{known}
use Rattle.laws_bounds.specs.RouterRules.NodeConfig.{NodeConfig, period}
use Rattle.laws_bounds.specs.RouterRules.Steps.{is_calm, NodeStep, Begins, left_by, fired_by}

-- a wait reached the moment t, and it moved by half a period and up to one more
pub record IsMoved (p : NodeConfig) (c : ℕ) (i : Input) (t to : ℕ) : Type 0 where
  pub ms : ℕ
  pub word : ℕ
  pub waited : i ≡ Wait ms word
  pub reached : t ≤ c
  pub is : to ≡ t + 2 * p.quarter + word % (period p + 1)

-- a wait reached the moment of the session
pub record IsReached (c : ℕ) (i : Input) (f : Facts) (s : Session) : Type 0 where
  pub ms : ℕ
  pub word : ℕ
  pub waited : i ≡ Wait ms word
  pub moment : ℕ
  pub due : get f.due s ≡ Some moment
  pub reached : moment ≤ c

pub record CountdownsMoveByTheirRule : Type 0 where
  -- a moment stays and its session is not due, or it was reached and moved
  pub moves : (step : NodeStep) → Begins step → (s : Session) (t to : ℕ) → is_calm step.input ≡ true → get step.facts.due s ≡ Some t → get (left_by step).due s ≡ Some to
      → ((to ≡ t) × (has (fired_by step) s ≡ false)) ⊎ (IsMoved step.now step.after step.input t to × (has (fired_by step) s ≡ true))
  -- sessions come due where a wait reaches their moments, and nowhere else
  pub fires : (step : NodeStep) → Begins step → (s : Session) → (has (fired_by step) s ≡ true) ↔ IsReached step.after step.input step.facts s
  -- a new countdown, and any that stands after the node was cleared, began at a period
  pub starts : (step : NodeStep) → Begins step → (s : Session) (t : ℕ) → (get step.facts.due s ≡ None) ⊎ (step.input ≡ Clear) → get (left_by step).due s ≡ Some t → t ≡ step.after + period step.now
  -- it stands exactly where a sender is known: a local one, or one with a path
  pub stands : (step : NodeStep) → Begins step → (s : Session) → (has (left_by step).due s ≡ true) ↔ ((x : Sender) × (has (known (left_by step) s) x ≡ true))
