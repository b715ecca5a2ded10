-- What every node keeps: the bounds within which its facts lie at a moment.
use Rattle.std.specs.Prelude.{◌≡◌, ℕ, ◌+◌, ◌*◌, ◌≤◌, ◌<◌, length, slice_get, Some}
use Rattle.rsvp_base.specs.declared.iface.Iface.{Iface}
use Rattle.rsvp_base.specs.declared.part.Part.{Part}
use Rattle.rsvp_base.specs.declared.session.Session.{Session}
use Rattle.rsvp_base.specs.declared.style.StyleKind.{StyleKind}
use Rattle.rsvp_base.specs.declared.style.StyleKind.TheVariants.{Wild, Fixed, Shared}
use Rattle.rsvp_base.specs.declared.style.Unit.{Unit as UnitOf}
use Rattle.rsvp_base.specs.declared.style.Unit.TheVariants.{One}
use Rattle.rsvp_base.specs.Orders.{senders as by_sender, units as by_unit}
use Rattle.rsvp_base.specs.SessionLimits.{IsWithinSessionLimits}
use Rattle.rsvp_base.specs.Table.{get, has, size}
use Rattle.rsvp_base.specs.TokenBucket.{TokenBucket, IsSound}
use Rattle.rsvp_messages.specs.Proper.{WhereThere}
use Rattle.rsvp_messages.specs.RsvpObjects.AdspecLaws.{IsAdspec}
use Rattle.style_rules.specs.Limits.{IsWithinLimits}
use Rattle.style_rules.specs.Lines.{LineKey, held}
use Rattle.rsvp_base.specs.declared.entry_key.EntryKey.{EntryKey}
use Rattle.style_rules.specs.Parts.{IsOfStyle}
use Rattle.rsvp_base.specs.Styles.{part_unit}
use Rattle.style_rules.specs.declared.target.Target.{Target}
use Rattle.style_rules.specs.declared.target.Target.TheVariants as target
use Rattle.router_rules.specs.Books.{book, lines_of}
use Rattle.router_rules.specs.Facts.{Facts, SenderKey, WantKey, PathState, ResvState, Want, Blockade, resvs_of, no_facts}
use Rattle.style_rules.specs.Targets.{WallKey}
use Rattle.router_rules.specs.Forgetting.{counted}
use Rattle.router_rules.specs.NodeConfig.{NodeConfig, period, lifetime, wall_lifetime}

-- ---- lifetimes: each fact dies after the clock, and no later than what was just refreshed
pub record LivesUpTo (c life dies : ℕ) : Type 0 where
  pub later : c < dies
  pub soon : dies ≤ c + life

pub record AreAlive (p : NodeConfig) (c : ℕ) (f : Facts) : Type 0 where
  pub paths : (k : SenderKey) (x : PathState) → get f.paths k ≡ Some x → LivesUpTo c (lifetime p (period p)) x.dies
  pub resvs : (st : StyleKind) (k : LineKey) (r : ResvState) → get (resvs_of st f) k ≡ Some r → LivesUpTo c (lifetime p (period p)) r.dies
  pub walls : (k : WallKey) (b : Blockade) → get f.walls k ≡ Some b → LivesUpTo c (wall_lifetime p) b.dies

-- ---- countdowns: exactly the sessions with a local sender or a path have one, and it is due within 1.5 R
pub record AreDue (p : NodeConfig) (c : ℕ) (f : Facts) : Type 0 where
  pub counted : (s : Session) → has f.due s ≡ has (counted f) s
  pub moment : (s : Session) (t : ℕ) → get f.due s ≡ Some t → LivesUpTo c (6 * p.quarter) t

-- ---- shapes
-- a reservation is of its style, stands under its unit, and names at most 16
pub record IsShaped (p : NodeConfig) (st : StyleKind) (k : LineKey) (r : ResvState) : Type 0 where
  pub iface : k.1.0.0 < length p.ifaces
  pub style : IsOfStyle st r.part
  pub unit : k.1.1 ≡ part_unit st r.part
  pub names : size r.part.senders ≤ 16
  pub flow : IsSound r.part.flow

-- a local want: a wildcard one has no senders, the others are as reservations are
abbrev pub IsWantShape : StyleKind → UnitOf → Part → Type 0
IsWantShape Wild u part = (u ≡ One) × (size part.senders ≡ 0)
IsWantShape Fixed u part = IsOfStyle Fixed part × (u ≡ part_unit Fixed part)
IsWantShape Shared u part = IsOfStyle Shared part × (u ≡ One)

pub record IsWantShaped (k : WantKey) (w : Want) : Type 0 where
  pub shape : IsWantShape w.style k.1 w.part
  pub names : size w.part.senders ≤ 16
  pub flow : IsSound w.part.flow

pub record IsPathShaped (p : NodeConfig) (x : PathState) : Type 0 where
  pub iface : x.iface < length p.ifaces
  pub tspec : IsSound x.tspec
  pub adspec : WhereThere IsAdspec x.adspec

-- a hop is behind an interface that is there
abbrev pub IsTarget : NodeConfig → Target → Type 0
IsTarget p (target.Hop i a) = i < length p.ifaces
IsTarget p (target.Sender s) = Unit {0}

pub record IsWallShaped (p : NodeConfig) (k : WallKey) (b : Blockade) : Type 0 where
  pub iface : IsTarget p k.1
  pub flow : IsSound b.wall.flow

pub record AreShaped (p : NodeConfig) (f : Facts) : Type 0 where
  pub senders : (k : SenderKey) (tspec : TokenBucket) → get f.senders k ≡ Some tspec → IsSound tspec
  pub paths : (k : SenderKey) (x : PathState) → get f.paths k ≡ Some x → IsPathShaped p x
  pub resvs : (st : StyleKind) (k : LineKey) (r : ResvState) → get (resvs_of st f) k ≡ Some r → IsShaped p st k r
  pub wants : (k : WantKey) (w : Want) → get f.wants k ≡ Some w → IsWantShaped k w
  pub walls : (k : WallKey) (b : Blockade) → get f.walls k ≡ Some b → IsWallShaped p k b
  -- the wants of a session have one style
  pub one_style : (s : Session) (u v : UnitOf) (a b : Want) → get f.wants (s, u) ≡ Some a → get f.wants (s, v) ≡ Some b → a.style ≡ b.style

-- ---- limits of the tables
pub record AreWithinLimits (f : Facts) : Type 0 where
  pub senders : IsWithinSessionLimits by_sender f.senders
  pub wants : IsWithinSessionLimits by_unit f.wants
  pub paths : IsWithinSessionLimits by_sender f.paths
  pub resvs : (st : StyleKind) → IsWithinLimits st (lines_of st (resvs_of st f))
  pub walls : size f.walls ≤ 512

-- ---- capacity: no book passes that of its interface, and no part the interface's MTU
pub record AreBooked (p : NodeConfig) (f : Facts) : Type 0 where
  pub capacity : (i : ℕ) (on : Iface) → slice_get p.ifaces i ≡ Some on → held (book f i) ≤ on.capacity
  pub mtu : (i : ℕ) (on : Iface) (k : EntryKey) (part : Part) → slice_get p.ifaces i ≡ Some on → get (book f i) k ≡ Some part → part.flow.most ≤ on.mtu

-- the facts of a node at a moment
pub record IsWithinBounds (p : NodeConfig) (c : ℕ) (f : Facts) : Type 0 where
  pub alive : AreAlive p c f
  pub due : AreDue p c f
  pub shapes : AreShaped p f
  pub limits : AreWithinLimits f
  pub booked : AreBooked p f

-- a router without facts, wherever it stands and at any moment
abbrev pub NoFactsAreWithinBounds : Type 0
NoFactsAreWithinBounds = (p : NodeConfig) (c : ℕ) → IsWithinBounds p c no_facts
