-- Where errors and blockades come from, and that an error changes nothing else: the claims of the public laws.
use Rattle.std.specs.Prelude.{◌≡◌, ℕ, ◌⊎◌, Bool, true, false, Some, None}
use Rattle.rsvp_base.specs.Members.{In}
use Rattle.rsvp_base.specs.Table.{get}
use Rattle.rsvp_base.specs.TokenBucket.{TokenBucket}
use Rattle.rsvp_messages.specs.declared.message.Message.{Message}
use Rattle.rsvp_messages.specs.declared.message.Message.TheVariants as message
use Rattle.rsvp_messages.specs.declared.message.PathErrMsg.{PathErrMsg}
use Rattle.rsvp_messages.specs.declared.message.ResvErrMsg.{ResvErrMsg}
use Rattle.laws_bounds.specs.RouterRules.Bounds.{IsWithinBounds}
use Rattle.laws_bounds.specs.RouterRules.Errors.{blockade_of, is_admission, walled_by}
use Rattle.laws_bounds.specs.RouterRules.Facts.{Blockade, Facts}
use Rattle.style_rules.specs.Targets.{WallKey}
use Rattle.laws_bounds.specs.RouterRules.Inputs.{Came, Input, Spelt}
use Rattle.laws_bounds.specs.RouterRules.NodeConfig.{NodeConfig, own}
use Rattle.laws_bounds.specs.FactLaws.{ComesBy}
use Rattle.laws_bounds.specs.Frames.{AreSameButMarks}
use Rattle.laws_bounds.specs.RouterRules.Steps.{facts_then, NodeStep, Begins, left_by}
use Rattle.rsvp_base.specs.declared.addr.Addr.{Addr}
use Rattle.rsvp_base.specs.declared.session.Sender.{Sender}

-- ---- a blockade that an error set: a ResvErr with a flow, of admission control, that came to the node's own address from a
-- previous hop of its session
pub record IsBlockadeSet (p : NodeConfig) (c : ℕ) (i : Input) (f : Facts) (k : WallKey) (x : Blockade) : Type 0 where
  pub at : ℕ
  pub error : ResvErrMsg
  pub flow : TokenBucket
  pub came : i ≡ Came at (own p at) (Spelt (message.ResvErr error))
  pub from : (x : Sender) × ComesBy f error.session (at, error.hop.addr) x
  pub says : error.blame.flow ≡ Some flow
  pub admission : is_admission error.err ≡ true
  pub target : In k (walled_by at error error.blame.style)
  pub is : x ≡ blockade_of p c error flow

abbrev pub WhereABlockadeComesFrom : Type 0
WhereABlockadeComesFrom =
    (step : NodeStep) → Begins step → (k : WallKey) (x : Blockade) → get (left_by step).walls k ≡ Some x → (get step.facts.walls k ≡ Some x)
    ⊎ IsBlockadeSet step.now step.after step.input step.facts k x

-- ---- a PathErr, a ResvErr and a ResvConf go on or end, and change no fact but blockades; marks of wants are used
abbrev pub only_goes_on : Message → Bool
only_goes_on (message.Path m) = false
only_goes_on (message.Resv m) = false
only_goes_on (message.PathErr m) = true
only_goes_on (message.ResvErr m) = true
only_goes_on (message.PathTear m) = false
only_goes_on (message.ResvTear m) = false
only_goes_on (message.ResvConf m) = true

pub record AnErrorChangesNoFact : Type 0 where
  pub senders : (old p : NodeConfig) (b c e : ℕ) (dst : Addr) (m : Message) (f : Facts) → IsWithinBounds old b f → only_goes_on m ≡ true
      → (facts_then old p c (Came e dst (Spelt m)) f).senders ≡ f.senders
  pub paths : (old p : NodeConfig) (b c e : ℕ) (dst : Addr) (m : Message) (f : Facts) → IsWithinBounds old b f → only_goes_on m ≡ true → (facts_then old p c (Came e dst (Spelt m)) f).paths ≡ f.paths
  pub resvs : (old p : NodeConfig) (b c e : ℕ) (dst : Addr) (m : Message) (f : Facts) → IsWithinBounds old b f → only_goes_on m ≡ true → (facts_then old p c (Came e dst (Spelt m)) f).resvs ≡ f.resvs
  pub wants : (old p : NodeConfig) (b c e : ℕ) (dst : Addr) (m : Message) (f : Facts) → IsWithinBounds old b f → only_goes_on m ≡ true
      → AreSameButMarks f.wants (facts_then old p c (Came e dst (Spelt m)) f).wants
  pub due : (old p : NodeConfig) (b c e : ℕ) (dst : Addr) (m : Message) (f : Facts) → IsWithinBounds old b f → only_goes_on m ≡ true → (facts_then old p c (Came e dst (Spelt m)) f).due ≡ f.due
  -- blockades neither, but by a ResvErr of admission control with a flow
  pub walls : (old p : NodeConfig) (b c e : ℕ) (dst : Addr) (m : ResvErrMsg) (f : Facts) → IsWithinBounds old b f → (m.blame.flow ≡ None) ⊎ (is_admission m.err ≡ false)
      → (facts_then old p c (Came e dst (Spelt (message.ResvErr m))) f).walls ≡ f.walls
  pub path_err : (old p : NodeConfig) (b c e : ℕ) (dst : Addr) (m : PathErrMsg) (f : Facts) → IsWithinBounds old b f → (facts_then old p c (Came e dst (Spelt (message.PathErr m))) f).walls ≡ f.walls
