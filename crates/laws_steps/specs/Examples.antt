-- Facts and inputs that meet the premises of the laws: the middle node r of a line of three, with a path and a reservation.
use Rattle.std.specs.Prelude.{◌≡◌, ℕ, true, false, List, [], ◌∷◌, Some, None}
use Rattle.std.specs.List.{range_with_len}
use Rattle.rsvp_base.specs.declared.session.Session.{Session}
use Rattle.rsvp_base.specs.declared.session.Sender.{Sender}
use Rattle.rsvp_base.specs.declared.style.StyleKind.TheVariants.{Wild}
use Rattle.rsvp_base.specs.declared.style.Unit.TheVariants.{One}
use Rattle.rsvp_base.specs.Members.{In}
use Rattle.rsvp_base.specs.Orders.{senders}
use Rattle.rsvp_base.specs.SessionLimits.{IsWithinSessionLimits}
use Rattle.rsvp_base.specs.Table.{get, has, put_in}
use Rattle.rsvp_messages.specs.declared.message.Message.TheVariants as message
use Rattle.rsvp_messages.specs.declared.message.ResvMsg.{ResvMsg}
use Rattle.style_rules.specs.Lines.{Line, LineKey}
use Rattle.laws_bounds.specs.RouterRules.Asking.{ask_of, asker_of}
use Rattle.laws_bounds.specs.RouterRules.Bounds.{IsWithinBounds}
use Rattle.style_rules.specs.declared.target.Target.TheVariants as target
use Rattle.laws_bounds.specs.RouterRules.Facts.{Blockade, Facts, PathState, ResvState, SenderKey, no_facts}
use Rattle.style_rules.specs.Targets.{WallKey}
use Rattle.laws_bounds.specs.RouterRules.Inputs.{Input, Came, Moved, Spelt, StalePath, StaleResv, StaleWall, Wait}
use Rattle.laws_bounds.specs.RouterRules.Known.{Lane}
use Rattle.router_examples.specs.ThreeRouters.{error, first, flow, group, node_r, path, path_tear, r1, r2, refreshed, resv, resv_err, s1, scope, sent, session, t1, usual, wild}
use Rattle.laws_bounds.specs.RouterRules.NodeConfig.{NodeConfig}
use Rattle.laws_bounds.specs.RouterRules.Requests.{toward}
use Rattle.laws_bounds.specs.Frames.{on_paths, on_resvs, on_senders, on_walls, on_wants}
use Rattle.laws_bounds.specs.Sources.{CameOnTree, said_by}
use Rattle.laws_steps.specs.PathLaws.{PathDies, PathIsTorn}
use Rattle.laws_bounds.specs.RouterRules.Steps.{AreFewer, IsFit, IsFitStale, IsSameNode, facts_then, fired_then, is_calm, sent_then}
use Rattle.laws_steps.specs.AcceptingLaws.{CanBeHeld, CanBeTaken, line_at}
use Rattle.laws_steps.specs.ErrorLaws.{only_goes_on}

abbrev pub r : NodeConfig
r = node_r 10000

-- ---- inputs
abbrev pub of_port : ℕ → Sender
of_port port = record { addr = s1; port = port }

abbrev pub path_in : Sender → Input
path_in x = Came 0 group (Spelt (path true s1 x usual))

abbrev pub tear_in : Input
tear_in = Came 0 group (Spelt (path_tear s1 first))

abbrev pub resv_msg : ResvMsg
resv_msg = record { session = session; hop = record { addr = t1; handle = 0 }; period = 30000; confirm = None; ask = wild usual }

abbrev pub resv_in : Input
resv_in = Came 1 r2 (Spelt (message.Resv resv_msg))

-- ---- facts, at clock 0
abbrev pub one_path : Facts
one_path = facts_then r r 0 (path_in first) no_facts

abbrev pub one_resv : Facts
one_resv = facts_then r r 0 resv_in one_path

-- with the paths of senders of these ports
abbrev pub with_paths_of : List ℕ → Facts → Facts
with_paths_of [] f = f
with_paths_of (port ∷ ports) f = with_paths_of ports (facts_then r r 0 (path_in (of_port port)) f)

abbrev pub sixteen_paths : Facts
sixteen_paths = with_paths_of (range_with_len 1 16) no_facts

-- half a period later
abbrev pub half_later : Facts
half_later = facts_then r r 15000 (Wait 15000 0) one_resv

-- ---- paths
abbrev pub first_key : SenderKey
first_key = (session, first)

abbrev pub last_key : SenderKey
last_key = (session, of_port 17)

abbrev pub here : PathState
here = record { iface = 0; hop = record { addr = s1; handle = 0 }; tspec = usual; police = true; adspec = None; dies = 157500 }

-- a path that is learnt, one that finds no room, and one that dies, is replaced or torn down
pub record PathLawsHaveExamples : Type 0 where
  pub within : IsWithinBounds r 0 no_facts
  pub came : CameOnTree r (path_in first) first_key
  pub room : IsWithinSessionLimits senders (put_in no_facts.paths first_key (said_by r 0 (path_in first) first_key came))
  pub comes : get (facts_then r r 0 (path_in first) no_facts).paths first_key ≡ Some here
  pub within_full : IsWithinBounds r 0 sixteen_paths
  pub came_full : CameOnTree r (path_in (of_port 17)) last_key
  pub full : IsWithinSessionLimits senders (put_in sixteen_paths.paths last_key (said_by r 0 (path_in (of_port 17)) last_key came_full)) → ⊥
  pub within_one : IsWithinBounds r 0 one_path
  pub there : get one_path.paths first_key ≡ Some here
  pub dies : PathDies 157500 (Wait 1 0) here
  pub torn : PathIsTorn tear_in first_key here

-- ---- frames and countdowns
pub record FrameLawsHaveExamples : Type 0 where
  pub within : IsWithinBounds r 0 one_resv
  -- a new route may change no table by itself
  pub none : (on_senders Moved ≡ false) × (on_wants Moved ≡ false) × (on_paths Moved ≡ false) × (on_resvs Moved ≡ false) × (on_walls Moved ≡ false)
  pub calm : (is_calm (Wait 15000 0) ≡ true) × (is_calm resv_in ≡ true)

pub record CountdownLawHasExamples : Type 0 where
  pub within : IsWithinBounds r 15000 half_later
  pub due : get half_later.due session ≡ Some 30000
  pub moved : get (facts_then r r 30000 (Wait 15000 0) half_later).due session ≡ Some 45000
  pub fired : has (fired_then r 30000 (Wait 15000 0) half_later) session ≡ true
  pub not_yet : has (fired_then r 29999 (Wait 14999 0) half_later) session ≡ false
  pub new : get no_facts.due session ≡ None
  pub started : get one_path.due session ≡ Some 30000

-- ---- sends
abbrev pub back : Lane
back = record { session = session; style = Wild; hop = (0, s1) }

pub record SendLawsHaveExamples : Type 0 where
  pub path_sent : In (sent 1 group (path false r2 first usual)) (sent_then r r 0 (path_in first) no_facts)
  pub tear_sent : In (sent 1 group (path_tear r2 first)) (sent_then r r 0 tear_in one_path)
  pub within : IsWithinBounds r 15000 half_later
  pub fired : has (fired_then r 30000 (Wait 15000 0) half_later) session ≡ true
  pub asked : ask_of Wild (toward r (facts_then r r 30000 (Wait 15000 0) half_later) back) ≡ Some (wild usual)
  pub path_again : In (refreshed 1 group (path false r2 first usual)) (sent_then r r 30000 (Wait 15000 0) half_later)
  pub resv_again : In (refreshed 0 s1 (resv r1 None (wild usual))) (sent_then r r 30000 (Wait 15000 0) half_later)

-- ---- bounds; while half a period passes, each reservation is left
-- the reservation of t, and the blockade that stands where s refuses it
abbrev pub of_t : LineKey
of_t = (session, ((1, t1), One))

abbrev pub reserved : ResvState
reserved = record { part = record { senders = scope; flow = usual }; confirm = None; dies = 157500 }

abbrev pub wall_key : WallKey
wall_key = (session, target.Hop 0 s1)

abbrev pub blockaded : Blockade
blockaded = record { wall = record { flow = usual; sub = 2 }; dies = 120000 }

pub record BoundLawsHaveExamples : Type 0 where
  pub same : IsSameNode r r
  pub path_fit : IsFit r (path_in first)
  pub resv_fit : IsFit r resv_in
  pub wait_fit : IsFit r (Wait 15000 0)
  pub within : IsWithinBounds r 0 one_resv
  pub fewer : AreFewer one_resv half_later
  -- and what may be left over
  pub path_left : IsFitStale r 0 (StalePath first_key here)
  pub resv_left : IsFitStale r 0 (StaleResv Wild of_t reserved)
  pub wall_left : IsFitStale r 0 (StaleWall wall_key blockaded)

-- ---- acceptance
-- lines that the node can hold: one for the Resv
abbrev pub the_lines : List Line
the_lines = line_at (asker_of r 0 1 resv_msg) One (record { senders = scope; flow = usual }) ∷ []

pub record AcceptanceHasExamples : Type 0 where
  pub within : IsWithinBounds r 0 one_path
  pub can_be_held : (s : Session) (i : ℕ) → CanBeHeld r s i the_lines
  pub can_be_taken : CanBeTaken r 0 1 resv_msg one_path the_lines
  -- not those of a flow one byte per second above the capacity
  pub too_much : (s : Session) → CanBeHeld r s 1 (line_at (asker_of r 0 1 resv_msg) One (record { senders = scope; flow = flow 10001 2000 64 1500 }) ∷ []) → ⊥

-- ---- errors
-- the previous hop refuses what went to it
abbrev pub error_in : Input
error_in = Came 0 r1 (Spelt (resv_err s1 (error s1 false 1 2) Wild (Some scope) (Some usual)))

pub record ErrorLawsHaveExamples : Type 0 where
  pub within : IsWithinBounds r 0 one_resv
  pub fit : IsFit r error_in
  -- a blockade that was not there is set
  pub before : get one_resv.walls wall_key ≡ None
  pub after : get (facts_then r r 0 error_in one_resv).walls wall_key ≡ Some blockaded
  pub goes_on : only_goes_on (resv_err s1 (error s1 false 1 2) Wild (Some scope) (Some usual)) ≡ true
  -- and the next hop is told
  pub told : In (sent 1 t1 (resv_err r2 (error s1 false 1 2) Wild (Some scope) (Some usual))) (sent_then r r 0 error_in one_resv)
