-- Where path state comes from, and how it goes: the claims of the public laws.
use Rattle.std.specs.Prelude.{◌≡◌, ℕ, ◌≤◌, ◌⊎◌, true, Some, None}
use Rattle.rsvp_base.specs.Orders.{senders}
use Rattle.rsvp_base.specs.SessionLimits.{IsWithinSessionLimits}
use Rattle.rsvp_base.specs.Table.{get, put_in}
use Rattle.rsvp_messages.specs.declared.message.Message.TheVariants as message
use Rattle.rsvp_messages.specs.declared.message.PathTearMsg.{PathTearMsg}
use Rattle.laws_bounds.specs.RouterRules.declared.answers.Heard.TheVariants as heard
use Rattle.laws_bounds.specs.RouterRules.declared.answers.Why.TheVariants as why
use Rattle.laws_bounds.specs.RouterRules.Facts.{Facts, PathState, SenderKey}
use Rattle.laws_bounds.specs.RouterRules.Inputs.{Input, Wait, Clear, Came, Spelt}
use Rattle.laws_bounds.specs.RouterRules.Known.{came_by}
use Rattle.laws_bounds.specs.RouterRules.NodeConfig.{NodeConfig}
use Rattle.laws_bounds.specs.RouterRules.Rule.{rule}
use Rattle.laws_bounds.specs.RouterRules.Steps.{NodeStep, Begins, left_by}
use Rattle.laws_bounds.specs.Sources.{CameOnTree, said_by, IsLearnt}

-- ---- it was there, or a Path brought it
abbrev pub WhereAPathFactComesFrom : Type 0
WhereAPathFactComesFrom =
    (step : NodeStep) → Begins step → (k : SenderKey) (x : PathState) → get (left_by step).paths k ≡ Some x → (get step.facts.paths k ≡ Some x) ⊎ IsLearnt step.now step.after step.input k x

-- ---- it is learnt exactly where the table with it is within its limits
pub record APathOnTheTreeIsLearnt : Type 0 where
  pub learnt : (step : NodeStep) → Begins step → (k : SenderKey) (by : CameOnTree step.now step.input k)
      → IsWithinSessionLimits senders (put_in step.facts.paths k (said_by step.now step.after step.input k by))
      → ((left_by step).paths ≡ put_in step.facts.paths k (said_by step.now step.after step.input k by)) × ((rule step.old step.now step.after step.input step.facts).heard ≡ heard.Taken)
  pub full : (step : NodeStep) → Begins step → (k : SenderKey) (by : CameOnTree step.now step.input k)
      → (IsWithinSessionLimits senders (put_in step.facts.paths k (said_by step.now step.after step.input k by)) → ⊥)
      → ((left_by step).paths ≡ step.facts.paths) × ((rule step.old step.now step.after step.input step.facts).heard ≡ heard.Dropped why.Full)

-- ---- it goes for one of three reasons
pub record PathDies (c : ℕ) (i : Input) (x : PathState) : Type 0 where
  pub ms : ℕ
  pub word : ℕ
  pub waited : i ≡ Wait ms word
  pub dies : x.dies ≤ c

-- from the hop by which the path came
pub record PathIsTorn (i : Input) (k : SenderKey) (x : PathState) : Type 0 where
  pub at : ℕ
  pub tear : PathTearMsg
  pub came : i ≡ Came at k.0.group (Spelt (message.PathTear tear))
  pub session : tear.session ≡ k.0
  pub sender : tear.sender ≡ Some k.1
  pub hop : came_by (at, tear.hop.addr) x ≡ true

abbrev pub PathGoes : ℕ → Input → SenderKey → PathState → Type 0
PathGoes c i k x = PathDies c i x ⊎ (PathIsTorn i k x ⊎ (i ≡ Clear))

-- it stays, or is replaced, or goes and nothing is in its place
pub record IsReplaced (p : NodeConfig) (c : ℕ) (i : Input) (f : Facts) (k : SenderKey) : Type 0 where
  pub new : PathState
  pub there : get f.paths k ≡ Some new
  pub learnt : IsLearnt p c i k new

abbrev pub HowAPathFactGoes : Type 0
HowAPathFactGoes =
    (step : NodeStep) → Begins step → (k : SenderKey) (x : PathState) → get step.facts.paths k ≡ Some x
    → (get (left_by step).paths k ≡ Some x) ⊎ (IsReplaced step.now step.after step.input (left_by step) k ⊎ ((get (left_by step).paths k ≡ None) × PathGoes step.after step.input k x))
