-- What is wanted has a style, and what nodes are asked to hold: the claims of the public laws.
use Rattle.std.specs.Prelude.{◌≡◌, ℕ, Some}
use Rattle.rsvp_base.specs.declared.part.Part.{Part}
use Rattle.rsvp_base.specs.declared.session.Session.{Session}
use Rattle.rsvp_base.specs.declared.style.StyleKind.{StyleKind}
use Rattle.rsvp_base.specs.declared.style.StyleKind.TheVariants.{Wild, Fixed, Shared}
use Rattle.rsvp_base.specs.declared.style.Unit.{Unit as UnitOf}
use Rattle.rsvp_base.specs.Members.{In}
use Rattle.rsvp_base.specs.Table.{get}
use Rattle.style_rules.specs.Limits.{IsWithinLimits}
use Rattle.style_rules.specs.Lines.{AreUnder, LineKey, book_of_end}
use Rattle.style_rules.specs.Parts.{IsOfStyle}
use Rattle.rsvp_base.specs.Styles.{part_unit}
use Rattle.tree_model.specs.declared.locals.LocalWant.{LocalWant}
use Rattle.tree_model.specs.Goals.{goal}
use Rattle.tree_model.specs.Wants.{Locals, want}
use Rattle.laws_steps.specs.AcceptingLaws.{HasPlace}
use Rattle.router_rules.specs.Asking.{Asker}
use Rattle.router_rules.specs.Books.{lines}
use Rattle.router_rules.specs.Facts.{Facts, ResvState, resvs_of}
use Rattle.tree_model.specs.declared.hops.LinkHop.{LinkHop}
use Rattle.tree_model.specs.Networks.{Net, node_of, end_at, iface_of}
use Rattle.settle_paths.specs.Locals.{locals_of}
use Rattle.settle_paths.specs.Sound.{IsSoundPart, IsSoundResv}
use Rattle.settle_paths.specs.Worlds.{World}
use Rattle.settle_resvs.specs.GoalByIface.{goal_at}

-- ---- styles of wants
-- a wildcard want lists no senders; another one is as its style has it
abbrev pub IsWantPart : StyleKind → Part → Type 0
IsWantPart Wild p = Unit {0}
IsWantPart Fixed p = IsOfStyle Fixed p
IsWantPart Shared p = IsOfStyle Shared p

abbrev pub AreWantParts : Locals → Type 0
AreWantParts l = (w : LocalWant) → In w l.wants → IsWantPart w.style w.part

-- someone wants something of the session in the style
pub record IsWantedBySomeone (st : StyleKind) (l : Locals) (s : Session) : Type 0 where
  pub want : LocalWant
  pub there : In want l.wants
  pub session : want.session ≡ s
  pub style : want.style ≡ st

-- what is wanted over a hop is of its style, stands under its unit, and is wanted by someone
pub record WantsHaveStyles (net : Net) (l : Locals) : Type 0 where
  pub shaped : (st : StyleKind) (s : Session) (h : LinkHop) (u : UnitOf) (p : Part) → get (want st net l s h) u ≡ Some p → IsOfStyle st p × (part_unit st p ≡ u)
  pub needs : (st : StyleKind) (s : Session) (h : LinkHop) (u : UnitOf) (p : Part) → get (want st net l s h) u ≡ Some p → IsWantedBySomeone st l s

-- what is wanted of a session, over whatever hop, has one style
abbrev pub HasOneStyle : Net → Locals → Session → Type 0
HasOneStyle net l s = (a b : StyleKind) (h g : LinkHop) (u v : UnitOf) (p r : Part) → get (want a net l s h) u ≡ Some p → get (want b net l s g) v ≡ Some r → a ≡ b

-- ---- the goal by interface: within the limits of the goal, and the book of an interface is that of its end
pub record IsTheGoalByIface (net : Net) (l : Locals) (n : ℕ) : Type 0 where
  pub limits : (st : StyleKind) → IsWithinLimits st (goal net l n) → IsWithinLimits st (goal_at net l n)
  pub book : (i e : ℕ) → end_at net.ends n i ≡ Some e → book_of_end i (goal_at net l n) ≡ book_of_end e (goal net l n)

-- ---- sound reservations lie under the goal of their node, and what is sound has a place there
abbrev pub AreSoundAt : World → ℕ → Facts → Type 0
AreSoundAt w n f = (st : StyleKind) (k : LineKey) (r : ResvState) → get (resvs_of st f) k ≡ Some r → IsSoundResv st w n k r

pub record SoundIsUnderTheGoal (w : World) : Type 0 where
  pub facts : (n : ℕ) (f : Facts) → AreSoundAt w n f → AreUnder (lines f) (goal_at w.net (locals_of w) n)
  pub unit : (o : Asker) (e : ℕ) (u : UnitOf) (p : Part) → IsSoundPart o.style w o.session e o.next u p → iface_of w.net.ends e ≡ o.iface
      → HasPlace o u p (goal_at w.net (locals_of w) (node_of w.net.ends e))
