-- What a confirmation says (RFC 2205, 2.6 and 3.1.9; RFC 2209, 2: RESV CONFIRM): at the node where it begins, what it confirms
-- stands.
use Rattle.std.specs.Prelude.{◌≡◌, ◌⊎◌, ℕ, Bool, List, ◌++◌, Some, slice_get}
use Rattle.rsvp_base.specs.declared.addr.Addr.{Addr}
use Rattle.rsvp_base.specs.declared.part.Part.{Part}
use Rattle.rsvp_base.specs.declared.session.Session.{Session}
use Rattle.rsvp_base.specs.declared.style.StyleKind.{StyleKind}
use Rattle.rsvp_base.specs.Members.{In}
use Rattle.rsvp_base.specs.Orders.{Names}
use Rattle.rsvp_base.specs.Sets.{IsWithin}
use Rattle.rsvp_base.specs.Table.{get}
use Rattle.rsvp_messages.specs.declared.message.Message.TheVariants as message
use Rattle.rsvp_messages.specs.declared.message.ResvConfMsg.{ResvConfMsg}
use Rattle.rsvp_messages.specs.declared.message.ResvMsg.{ResvMsg}
use Rattle.rsvp_messages.specs.Units.{AskedUnit, ask_style, asked_units}
use Rattle.style_rules.specs.Lines.{BookTable}
use Rattle.flow_merge.specs.FlowOrder.{IsAtMost}
use Rattle.calm_rounds.specs.Machine.{Happens, run}
use Rattle.router_rules.specs.Books.{book}
use Rattle.router_rules.specs.Facts.{Facts}
use Rattle.router_rules.specs.Inputs.{Spelt}
use Rattle.router_rules.specs.NodeConfig.{own}
use Rattle.tree_model.specs.declared.hops.End.{End}
use Rattle.tree_model.specs.Networks.{iface_of}
use Rattle.network_model.specs.Laws.{config_in}
use Rattle.network_model.specs.Runs.{Plan, first_world, steps_of_run}
use Rattle.network_model.specs.Steps.{Deliver, Inject, Step, machine, sent}
use Rattle.network_model.specs.Worlds.{Item, World}
use Rattle.laws_network.specs.Runs.{IsFitRun}
use Rattle.laws_safety.specs.Refusals.{IsResvAt}

-- ---- what is held
-- the book has an entry of the unit, with each sender that is named and no smaller flow
pub record IsUnitHeld (b : BookTable) (s : Session) (st : StyleKind) (u : AskedUnit) : Type 0 where
  pub part : Part
  pub there : get b (record { session = s; style = st; unit = u.unit }) ≡ Some part
  pub names : (listed : Names) → u.names ≡ Some listed → IsWithin listed part.senders
  pub flow : IsAtMost u.flow part.flow

-- the book holds at least what a ResvConf confirms
abbrev pub HoldsAtLeast : BookTable → ResvConfMsg → Type 0
HoldsAtLeast b m = (u : AskedUnit) → In u (asked_units m.ask) → IsUnitHeld b m.session (ask_style m.ask) u

-- a unit that the Resv asks for, with this flow; where senders are named, it names them, too
pub record IsAskedUnit (r : ResvMsg) (u : AskedUnit) : Type 0 where
  pub unit : AskedUnit
  pub asks : In unit (asked_units r.ask)
  pub same : u.unit ≡ unit.unit
  pub names : (listed : Names) → u.names ≡ Some listed → (all : Names) × (unit.names ≡ Some all) × IsWithin listed all
  pub flow : u.flow ≡ unit.flow

-- ---- where a ResvConf begins
-- a Resv that arrives by the step asks for it, and each unit that it confirms; behind the step the book of the end by which the Resv
-- came, whose address the ResvConf has, holds at least what is confirmed
pub record Begins (q : ℕ) (s : Step) (w : World) (m : ResvConfMsg) : Type 0 where
  pub item : Item
  pub resv : ResvMsg
  pub end : End
  pub before : Facts
  pub after : Facts
  pub at : IsResvAt q s w item resv end before after
  pub session : m.session ≡ resv.session
  pub style : ask_style m.ask ≡ ask_style resv.ask
  pub wish : resv.confirm ≡ Some m.confirm
  pub asked : (u : AskedUnit) → In u (asked_units m.ask) → IsAskedUnit resv u
  pub here : m.err.node ≡ own (config_in q w end.node) (iface_of w.net.ends item.end)
  pub held : HoldsAtLeast (book after (iface_of w.net.ends item.end)) m

-- or it goes on: the same one arrives by the step
pub record IsPassedOn (s : Step) (w : World) (m : ResvConfMsg) : Type 0 where
  pub place : ℕ
  pub item : Item
  pub step_is : s ≡ Deliver place
  pub arrives : slice_get w.flight place ≡ Some item
  pub says : item.arrival ≡ Spelt (message.ResvConf m)

-- a ResvConf that a step sends begins there, where at least what it confirms is then held, or goes on unchanged
abbrev pub AConfirmationIsHeld : ℕ → Step → World → Type 0
AConfirmationIsHeld q s w = (y : Item) (mark : Bool) (m : ResvConfMsg) → In (y, mark) (sent q s w) → y.arrival ≡ Spelt (message.ResvConf m) → Begins q s w m ⊎ IsPassedOn s w m

-- ---- over a run
pub record IsInjected (m : ResvConfMsg) (s : Step) : Type 0 where
  pub end : ℕ
  pub dst : Addr
  pub is : s ≡ Inject end dst (Spelt (message.ResvConf m))

-- a ResvConf in flight, and so one that arrives, has begun at an earlier step of the run, unless it was injected
abbrev pub ConfirmationsHaveBegun : Plan → Type 0
ConfirmationsHaveBegun p =
    (ss ts : List Step) → steps_of_run p ≡ ss ++ ts → (y : Item) (m : ResvConfMsg) → In y (run (machine p.quarter) ss (first_world p)).flight → y.arrival ≡ Spelt (message.ResvConf m)
    → Happens (machine p.quarter) (λ s w. Begins p.quarter s w m ⊎ IsInjected m s) ss (first_world p)

abbrev pub EachConfirmationHasBegun : Type 0
EachConfirmationHasBegun = (p : Plan) → IsFitRun p → ConfirmationsHaveBegun p
