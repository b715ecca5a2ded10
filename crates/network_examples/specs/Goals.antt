-- What nodes are asked to hold in small networks: where the laws on wants, styles and goals say something, and where they would be
-- wrong without a premise.
use Rattle.std.specs.Prelude.{◌≡◌, ℕ, [], ◌∷◌, false, Some, slice_get}
use Rattle.std.specs.Option.{unwrap_or}
use Rattle.rsvp_base.specs.declared.part.Part.{Part}
use Rattle.rsvp_base.specs.declared.session.Session.{Session}
use Rattle.rsvp_base.specs.declared.session.Sender.{Sender}
use Rattle.rsvp_base.specs.declared.style.StyleKind.TheVariants.{Wild, Fixed}
use Rattle.rsvp_base.specs.declared.style.Unit.TheVariants.{One, Of}
use Rattle.rsvp_base.specs.Members.{In}
use Rattle.rsvp_base.specs.Sets.{set_of}
use Rattle.rsvp_base.specs.Table.{empty, get}
use Rattle.rsvp_base.specs.TokenBucket.{TokenBucket}
use Rattle.style_rules.specs.Lines.{AreUnder, Line}
use Rattle.laws_steps.specs.AcceptingLaws.{CanBeHeld}
use Rattle.router_rules.specs.Books.{lines}
use Rattle.router_rules.specs.Facts.{Facts, no_facts}
use Rattle.router_rules.specs.Inputs.{WantAs}
use Rattle.router_examples.specs.ThreeRouters.{first, flow, group, r1, s1, second, session, usual}
use Rattle.tree_model.specs.declared.locals.LocalSender.{LocalSender}
use Rattle.tree_model.specs.declared.locals.LocalWant.{LocalWant}
use Rattle.tree_model.specs.Goals.{DemandsFit, goal}
use Rattle.tree_model.specs.Networks.{Net}
use Rattle.tree_model.specs.Valid.{IsValid}
use Rattle.tree_model.specs.Wants.{Locals, want}
use Rattle.network_model.specs.Bounds.{AreBounds}
use Rattle.network_model.specs.Locals.{locals_of}
use Rattle.network_model.specs.Runs.{first_facts}
use Rattle.network_model.specs.Steps.{At, Deliver, step}
use Rattle.network_model.specs.Worlds.{World, config_of}
use Rattle.laws_network.specs.Example.{pair_net, sending_world}
use Rattle.settle_paths.specs.Sure.{forth}
use Rattle.settle_resvs.specs.HopExample.{asked, asking_world}
use Rattle.settle_resvs.specs.LeftOverExample.{lost_plan}
use Rattle.settle_resvs.specs.GoalByIface.{goal_at}
use Rattle.settle_resvs.specs.Laws.{AreSoundAt, AreWantParts, HasOneStyle, WantsHaveStyles}

-- ---- wants have styles
-- a host asks for one sender by name
abbrev pub choosing_world : World
choosing_world = step 7500 (At 1 (WantAs session Fixed (set_of (first ∷ [])) usual false)) (step 7500 (Deliver 0) sending_world)

abbrev pub chosen : Part
chosen = record { senders = set_of (first ∷ []); flow = usual }

abbrev pub sender_of : Sender → LocalSender
sender_of x = record { node = 0; session = session; sender = x }

-- a fixed want of two senders at once, of which no call can be
abbrev pub both : Part
both = record { senders = set_of (first ∷ second ∷ []); flow = usual }

abbrev pub two_at_once : Locals
two_at_once = record { senders = sender_of first ∷ sender_of second ∷ []; wants = (record { node = 1; session = session; style = Fixed; part = both }) ∷ [] }

pub record AWantHasAStyle : Type 0 where
  pub bounds : AreBounds 7500 choosing_world
  pub there : In (record { node = 1; session = session; style = Fixed; part = chosen }) (locals_of choosing_world).wants
  pub over : get (want Fixed pair_net (locals_of choosing_world) session forth) (Of first) ≡ Some chosen
  pub no_part : AreWantParts two_at_once → ⊥
  pub no_style : WantsHaveStyles pair_net two_at_once → ⊥

-- ---- a session has one style
abbrev pub of_anyone : TokenBucket → LocalWant
of_anyone f = record { node = 1; session = session; style = Wild; part = record { senders = empty; flow = f } }

abbrev pub mixed : Locals
mixed = record { senders = sender_of first ∷ []; wants = of_anyone usual ∷ (record { node = 1; session = session; style = Fixed; part = chosen }) ∷ [] }

pub record ASessionHasOneStyle : Type 0 where
  pub fit : DemandsFit pair_net (locals_of asking_world)
  pub over : get (want Wild pair_net (locals_of asking_world) session forth) One ≡ Some asked
  pub two_styles : HasOneStyle pair_net mixed session → ⊥

-- ---- goals by interface: the tree goes from the second node to the first, so its end is number 1 and its interface number 0
abbrev pub back_net : Net
back_net = record pair_net { hops = (record { group = group; source = r1; hop = record { from = 1; to = 0 } }) ∷ [] }

abbrev pub back_locals : Locals
back_locals = record {
  senders = (record { node = 1; session = session; sender = record { addr = r1; port = 5004 } }) ∷ [];
  wants = (record { node = 0; session = session; style = Wild; part = record { senders = empty; flow = usual } }) ∷ [];
}

abbrev pub back_line : ℕ → Line
back_line e = record { style = Wild; session = session; end = e; next = s1; unit = One; part = record { senders = set_of ((record { addr = r1; port = 0 }) ∷ []); flow = usual } }

pub record AGoalHasInterfaces : Type 0 where
  pub net : IsValid back_net
  pub by_end : goal back_net back_locals 1 ≡ back_line 1 ∷ []
  pub by_iface : goal_at back_net back_locals 1 ≡ back_line 0 ∷ []

-- ---- a goal can be held
abbrev pub the_line : Line
the_line = record { style = Wild; session = session; end = 0; next = r1; unit = One; part = asked }

-- more than the link can carry
abbrev pub greedy : Locals
greedy = record { senders = sender_of first ∷ []; wants = of_anyone (flow 10001 2000 64 1500) ∷ [] }

pub record AGoalCanBeHeld : Type 0 where
  pub net : IsValid pair_net
  pub fit : DemandsFit pair_net (locals_of asking_world)
  pub is : goal_at pair_net (locals_of asking_world) 0 ≡ the_line ∷ []
  pub too_much : (s : Session) → CanBeHeld (config_of 7500 pair_net ((group, s1) ∷ []) 0) s 0 (goal_at pair_net greedy 0) → ⊥

-- ---- what is sound is under the goal: the Resv of the host has come
abbrev pub reserved_world : World
reserved_world = step 7500 (Deliver 0) asking_world

abbrev pub reserved : Facts
reserved = unwrap_or (slice_get reserved_world.nodes 0) no_facts

pub record AReservationIsUnderTheGoal : Type 0 where
  pub there : slice_get reserved_world.nodes 0 ≡ Some reserved
  pub sound : AreSoundAt reserved_world 0 reserved
  pub is : lines reserved ≡ the_line ∷ []
  -- a reservation that is left over, of a next hop that no end has, is under no line
  pub lost : AreUnder (lines (first_facts lost_plan 0)) (goal_at pair_net (locals_of asking_world) 0) → ⊥
