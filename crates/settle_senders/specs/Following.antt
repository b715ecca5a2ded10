-- A host begins to send where receivers already wait: its path spreads down the tree, and the reservations for it follow up.
use Rattle.std.specs.Prelude.{◌≡◌, ℕ, true, Some, slice_get}
use Rattle.rsvp_base.specs.declared.part.Part.{Part}
use Rattle.rsvp_base.specs.declared.session.Sender.{Sender}
use Rattle.rsvp_base.specs.declared.session.Session.{Session}
use Rattle.rsvp_base.specs.declared.style.StyleKind.{StyleKind}
use Rattle.rsvp_base.specs.Members.{In}
use Rattle.rsvp_base.specs.Orders.{Names}
use Rattle.rsvp_base.specs.Styles.{name_of}
use Rattle.rsvp_base.specs.Table.{get, has}
use Rattle.rsvp_base.specs.TokenBucket.{TokenBucket}
use Rattle.rsvp_messages.specs.declared.message.Message.TheVariants as message
use Rattle.rsvp_messages.specs.declared.message.PathMsg.{PathMsg}
use Rattle.rsvp_messages.specs.declared.message.ResvMsg.{ResvMsg}
use Rattle.rsvp_messages.specs.Units.{AskedUnit, ask_style, asked_units}
use Rattle.router_rules.specs.Facts.{Facts, PathState, SenderKey}
use Rattle.router_rules.specs.Inputs.{Spelt}
use Rattle.tree_model.specs.declared.hops.LinkHop.{LinkHop}
use Rattle.tree_model.specs.Goals.{addr_of}
use Rattle.tree_model.specs.Networks.{node_of}
use Rattle.tree_model.specs.Trees.{hops_of, outward, tree}
use Rattle.network_model.specs.Locals.{locals_of}
use Rattle.network_model.specs.Sound.{AreResvsSound}
use Rattle.network_model.specs.Worlds.{Item, World}
use Rattle.settle_resvs.specs.Said.{HopKey, hop_over}
use Rattle.settle_resvs.specs.Sessions.{HasNoFlowErrorOf, IsFreeOfBlockadesOf, SessionFits}
use Rattle.settle_passes.specs.Passes.{AreSpreading, Knows}
use Rattle.settle_passes.specs.Reserving.{AreAskedFor, IsKeptOver}

-- ---- who is known
-- paths come from nodes that know their senders: whoever has a path, and whoever a Path goes to, stands behind such a node in the
-- sender's tree
pub record ArePathsFromKnown (w : World) : Type 0 where
  pub facts : (n : ℕ) (f : Facts) (k : SenderKey) (x : PathState) (h : LinkHop) → slice_get w.nodes n ≡ Some f → get f.paths k ≡ Some x → In h (tree w.net.hops k.0.group k.1.addr)
      → node_of w.net.ends h.to ≡ n → Knows w (node_of w.net.ends h.from) k
  pub items : (y : Item) (m : PathMsg) (x : Sender) (t : TokenBucket) (h : LinkHop) → In y w.flight → y.arrival ≡ Spelt (message.Path m) → m.sender ≡ Some (x, t)
      → In h (tree w.net.hops m.session.group x.addr) → h.to ≡ y.end → Knows w (node_of w.net.ends h.from) (m.session, x)

-- the node of an end knows a sender of the session that has this name in the style, and whose tree goes out by the end
pub record HasSenderNamed (w : World) (e : ℕ) (s : Session) (st : StyleKind) (x : Sender) : Type 0 where
  pub sender : Sender
  pub knows : Knows w (node_of w.net.ends e) (s, sender)
  pub leaves : In e (outward w.net (node_of w.net.ends e) s.group sender.addr)
  pub name : x ≡ name_of st sender

-- each name of a reservation is known so where it stands, and each name of a Resv where it goes
pub record AreNamesKnown (w : World) : Type 0 where
  pub kept : (k : HopKey) (v : Part) (x : Sender) → In (hop_over k) (hops_of w.net.hops k.session.group) → IsKeptOver w k v → has v.senders x ≡ true → HasSenderNamed w k.to k.session k.style x
  pub items : (y : Item) (m : ResvMsg) (u : AskedUnit) (names : Names) (x : Sender) → In y w.flight → y.arrival ≡ Spelt (message.Resv m) → In u (asked_units m.ask) → u.names ≡ Some names
      → has names x ≡ true → HasSenderNamed w y.end m.session (ask_style m.ask) x

-- ---- a network in which paths spread, and the reservations of a session follow them: paths come from nodes that know their senders, as
-- the names of reservations are; no reservation and no Resv in flight says more than is wanted; the session fits, nothing of it is
-- refused or blockaded, and each node has asked for what goes from it
pub record IsFollowing (q : ℕ) (s : Session) (w : World) : Type 0 where
  pub paths : AreSpreading q w
  pub from_known : ArePathsFromKnown w
  pub names : AreNamesKnown w
  pub sound : AreResvsSound w
  pub fit : SessionFits w.net (locals_of w) s
  pub free : IsFreeOfBlockadesOf s w
  pub no_error : HasNoFlowErrorOf s w
  -- each Resv goes to the end whose address it is sent to
  pub addressed : (y : Item) (m : ResvMsg) → In y w.flight → y.arrival ≡ Spelt (message.Resv m) → y.dst ≡ addr_of w.net y.end
  pub asked : AreAskedFor q s w
