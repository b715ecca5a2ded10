-- One session by itself: when what is wanted of it fits, whatever other sessions ask for, and what then holds of it.
use Rattle.std.specs.Prelude.{◌≡◌, ℕ, ◌≤◌, None, Some, slice_get}
use Rattle.rsvp_base.specs.declared.entry_key.EntryKey.{EntryKey}
use Rattle.rsvp_base.specs.declared.part.Part.{Part}
use Rattle.rsvp_base.specs.declared.session.Session.{Session}
use Rattle.rsvp_base.specs.declared.style.StyleKind.{StyleKind}
use Rattle.rsvp_base.specs.declared.style.Unit.{Unit as UnitOf}
use Rattle.rsvp_base.specs.Members.{In}
use Rattle.rsvp_base.specs.Table.{get}
use Rattle.rsvp_messages.specs.declared.message.Message.TheVariants as message
use Rattle.rsvp_messages.specs.declared.message.ResvErrMsg.{ResvErrMsg}
use Rattle.rsvp_messages.specs.declared.message.ResvMsg.{ResvMsg}
use Rattle.rsvp_messages.specs.Units.{AskedUnit, ask_style, asked_units}
use Rattle.style_rules.specs.declared.target.Target.{Target}
use Rattle.style_rules.specs.Limits.{IsWithinLimits}
use Rattle.style_rules.specs.Lines.{held}
use Rattle.router_rules.specs.Facts.{Facts, ResvState, Walls, resvs_of}
use Rattle.router_rules.specs.Inputs.{Spelt}
use Rattle.tree_model.specs.declared.hops.End.{End}
use Rattle.tree_model.specs.declared.hops.LinkHop.{LinkHop}
use Rattle.tree_model.specs.declared.locals.LocalWant.{LocalWant}
use Rattle.tree_model.specs.Goals.{demand_of, goal}
use Rattle.tree_model.specs.Networks.{Net, iface_of, node_of}
use Rattle.tree_model.specs.Trees.{hops_of}
use Rattle.tree_model.specs.Wants.{Locals, want}
use Rattle.network_model.specs.Sound.{IsExact}
use Rattle.network_model.specs.Steps.{Step, arrived, outcome}
use Rattle.network_model.specs.Worlds.{Item, World}

-- ---- when a session fits
-- something of the session is wanted over a hop out of the end
pub record Carries (net : Net) (l : Locals) (s : Session) (e : ℕ) : Type 0 where
  pub hop : LinkHop
  pub there : In hop (hops_of net.hops s.group)
  pub from : hop.from ≡ e
  pub style : StyleKind
  pub unit : UnitOf
  pub part : Part
  pub wanted : get (want style net l s hop) unit ≡ Some part

-- each end that carries the session can carry all that it owes, and each packet of the session; the session is wanted in one style; and
-- the nodes of these ends need no more than their tables hold
pub record SessionFits (net : Net) (l : Locals) (s : Session) : Type 0 where
  pub capacity : (e : ℕ) (x : End) → slice_get net.ends e ≡ Some x → Carries net l s e → held (demand_of net l e) ≤ x.iface.capacity
  pub mtu : (e : ℕ) (x : End) (k : EntryKey) (p : Part) → slice_get net.ends e ≡ Some x → k.session ≡ s → get (demand_of net l e) k ≡ Some p → p.flow.most ≤ x.iface.mtu
  pub one_style : (v w : LocalWant) → In v l.wants → In w l.wants → v.session ≡ s → w.session ≡ s → v.style ≡ w.style
  pub limits : (e : ℕ) (st : StyleKind) → Carries net l s e → IsWithinLimits st (goal net l (node_of net.ends e))

-- ---- what holds of it
-- each unit of each Resv of the session that arrives by the step stands at the node to which it comes as it was asked for
abbrev pub TakesAllOf : Session → ℕ → Step → World → Type 0
TakesAllOf s q t w =
    (y : Item) (m : ResvMsg) (f : Facts) (u : AskedUnit) → arrived t w ≡ Some y → y.arrival ≡ Spelt (message.Resv m) → m.session ≡ s → slice_get w.nodes (node_of w.net.ends y.end) ≡ Some f
    → In u (asked_units m.ask)
    → (r : ResvState)
    × (get (resvs_of (ask_style m.ask) (outcome q t w (node_of w.net.ends y.end) f).facts) (m.session, ((iface_of w.net.ends y.end, m.hop.addr), u.unit)) ≡ Some r)
    × (u.names ≡ Some r.part.senders) × (u.flow ≡ r.part.flow)

-- no ResvErr of the session with a flow is in flight
abbrev pub HasNoFlowErrorOf : Session → World → Type 0
HasNoFlowErrorOf s w = (y : Item) (m : ResvErrMsg) → In y w.flight → y.arrival ≡ Spelt (message.ResvErr m) → m.session ≡ s → m.blame.flow ≡ None

-- no blockade of the session is among these
abbrev pub HasNoBlockade : Session → Walls → Type 0
HasNoBlockade s walls = (t : Target) → get walls (s, t) ≡ None

abbrev pub IsFreeOfBlockadesOf : Session → World → Type 0
IsFreeOfBlockadesOf s w = (n : ℕ) (f : Facts) → slice_get w.nodes n ≡ Some f → HasNoBlockade s f.walls

-- what is wanted of the session over a hop is what stands for it, unit by unit
abbrev pub AreExactOf : Session → World → Type 0
AreExactOf s w = (st : StyleKind) (h : LinkHop) → In h (hops_of w.net.hops s.group) → IsExact st w s h
