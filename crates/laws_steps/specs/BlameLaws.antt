-- Where an error with a flow comes from, and what a blockade does not change: the claims of the public laws.
use Rattle.std.specs.Prelude.{◌≡◌, ℕ, ◌⊎◌, true, false, is_some, Option, Some}
use Rattle.rsvp_base.specs.declared.session.Sender.{Sender}
use Rattle.rsvp_base.specs.declared.session.Session.{Session}
use Rattle.rsvp_base.specs.declared.style.StyleKind.{StyleKind}
use Rattle.rsvp_base.specs.declared.style.StyleKind.TheVariants.{Wild}
use Rattle.rsvp_base.specs.declared.style.Unit.{Unit as UnitOf}
use Rattle.rsvp_base.specs.Members.{In}
use Rattle.rsvp_base.specs.Orders.{Names}
use Rattle.rsvp_base.specs.Sets.{is_none}
use Rattle.rsvp_base.specs.Table.{get, has}
use Rattle.rsvp_base.specs.TokenBucket.{TokenBucket}
use Rattle.rsvp_messages.specs.declared.message.Message.TheVariants as message
use Rattle.rsvp_messages.specs.declared.message.ResvErrMsg.{ResvErrMsg}
use Rattle.rsvp_messages.specs.declared.message.ResvMsg.{ResvMsg}
use Rattle.style_rules.specs.Lines.{NextHop}
use Rattle.laws_bounds.specs.RouterRules.declared.answers.Heard.TheVariants as heard
use Rattle.laws_bounds.specs.RouterRules.Asking.{taking, as_listed}
use Rattle.laws_bounds.specs.RouterRules.Bounds.{IsWithinBounds}
use Rattle.laws_bounds.specs.RouterRules.Errors.{blamed}
use Rattle.laws_bounds.specs.RouterRules.Facts.{Facts, ResvState, Walls, resvs_of}
use Rattle.laws_bounds.specs.RouterRules.Inputs.{Came, ErrSend, Input, Send, Spelt}
use Rattle.laws_bounds.specs.RouterRules.Known.{Lane}
use Rattle.laws_bounds.specs.RouterRules.NodeConfig.{NodeConfig, own}
use Rattle.laws_bounds.specs.RouterRules.Requests.{toward}
use Rattle.laws_bounds.specs.RouterRules.Rule.{rule}
use Rattle.laws_bounds.specs.RouterRules.Sends.{error_send}
use Rattle.laws_bounds.specs.FactLaws.{ComesBy}
use Rattle.laws_bounds.specs.RouterRules.Steps.{NodeStep, Begins, sent_by}
use Rattle.laws_steps.specs.ReservationLaws.{IsListed}

-- ---- where an error with a flow comes from
-- it is the refusal of a unit of a Resv that came to this node, which is then not heard as taken
pub record IsRefusal (old p : NodeConfig) (c : ℕ) (i : Input) (f : Facts) (s : Send) : Type 0 where
  pub at : ℕ
  pub resv : ResvMsg
  pub came : i ≡ Came at (own p at) (Spelt (message.Resv resv))
  pub error : ErrSend
  pub made : In error (taking p c at resv f).errors
  pub is : s ≡ error_send error
  pub not_taken : (rule old p c i f).heard ≡ heard.Taken → ⊥
  -- it speaks of the session of the Resv
  pub session : (w : ResvErrMsg) → s.message ≡ message.ResvErr w → w.session ≡ resv.session

-- or an error that came to this node with this flow goes on, to the next hop of a reservation that it speaks of
pub record IsPassedOn (p : NodeConfig) (i : Input) (f : Facts) (s : Send) (w : ResvErrMsg) : Type 0 where
  pub at : ℕ
  pub error : ResvErrMsg
  pub came : i ≡ Came at (own p at) (Spelt (message.ResvErr error))
  -- the error's session, style, flow and fault stay, and its hop is this node
  pub session : w.session ≡ error.session
  pub style : w.blame.style ≡ error.blame.style
  pub flow : w.blame.flow ≡ error.blame.flow
  pub fault : w.err ≡ error.err
  pub from : (x : Sender) × ComesBy f error.session (at, error.hop.addr) x
  -- the reservation
  pub hop : NextHop
  pub unit : UnitOf
  pub resv : ResvState
  pub there : get (resvs_of error.blame.style f) (error.session, (hop, unit)) ≡ Some resv
  pub blames : blamed error.blame.style error.blame.senders resv.part.senders ≡ as_listed w.blame.senders
  pub iface : s.iface ≡ hop.0
  pub dst : s.dst ≡ hop.1
  pub here : w.hop ≡ record { addr = own p hop.0; handle = 0 }

-- names that an error and a reservation have, one at least
pub record AreBlamed (listed : Option Names) (resv : ResvState) (names : Names) : Type 0 where
  pub some : is_none names ≡ false
  pub in_error : (x : Sender) → has names x ≡ true → IsListed listed x
  pub in_resv : (x : Sender) → has names x ≡ true → has resv.part.senders x ≡ true

pub record WhereAnErrorWithAFlowComesFrom : Type 0 where
  pub source : (step : NodeStep) → Begins step → (s : Send) (w : ResvErrMsg) (flow : TokenBucket) → In s (sent_by step) → s.message ≡ message.ResvErr w → w.blame.flow ≡ Some flow
      → IsRefusal step.old step.now step.after step.input step.facts s ⊎ IsPassedOn step.now step.input step.facts s w
  -- what goes on names some of the reservation's senders, unless it came without senders for a fixed or a shared filter, which a
  -- proper error with a flow does not
  pub names : (old : NodeConfig) (b : ℕ) (f : Facts) → IsWithinBounds old b f
      → (st : StyleKind) (k : Session × (NextHop × UnitOf)) (r : ResvState) (listed out : Option Names) → get (resvs_of st f) k ≡ Some r
      → blamed st listed r.part.senders ≡ as_listed out
      → (is_some listed ≡ true) ⊎ (st ≡ Wild) → (names : Names) × (out ≡ Some names) × AreBlamed listed r names

-- ---- blockades change what goes toward a hop, but not of which units
abbrev pub UnitsOfTowardDoNotDependOnBlockade : Type 0
UnitsOfTowardDoNotDependOnBlockade = (p : NodeConfig) (f : Facts) (w : Walls) (l : Lane) (u : UnitOf) → has (toward p (record f { walls = w }) l) u ≡ has (toward p f l) u
