-- The marks of local wants, as the lanes of a session are told (RFC 2205, 2.6): which are used, and what is left then.
use Rattle.std.specs.Prelude.{◌≡◌, ℕ, nat_lt, Bool, not, ◌&&◌, cond, List, [], Option, Some, None}
use Rattle.std.specs.List.{flat_map, list_any}
use Rattle.rsvp_base.specs.Orders.{units}
use Rattle.rsvp_base.specs.Sets.{Set, set_of}
use Rattle.rsvp_base.specs.Table.{changed, has, keys, size}
use Rattle.rsvp_base.specs.declared.session.Session.{Session}
use Rattle.rsvp_base.specs.declared.style.Unit.{Unit as UnitOf}
use Rattle.router_state.specs.StyleRules.Merge.{PartTable}
use Rattle.router_state.specs.RouterRules.Facts.{Facts, SenderKey, Want, WantKey}
use Rattle.router_state.specs.RouterRules.Inputs.{Asked}
use Rattle.router_state.specs.RouterRules.Known.{Lane}
use Rattle.router_state.specs.RouterRules.NodeConfig.{NodeConfig, is_session}
use Rattle.router_state.specs.RouterRules.Requests.{toward}
use Rattle.router_state.specs.RouterRules.Sends.{goes_on, marked_units, same_parts, unmarked, used_marks}
use Rattle.router_state.specs.State.{Said, said_at}
use Rattle.laws_sends.specs.Before.{lanes_by}
use Rattle.laws_sends.specs.Saying.{SessionLane, lane_by}
use Rattle.laws_sends.specs.SendsHere.{IsChangedAt, hops_in}

-- a Resv goes there for a change: something goes there, and not what was said before
abbrev pub is_new_lane : NodeConfig → Facts → Lane → PartTable → Bool
is_new_lane p g l was = nat_lt 0 (size (toward p g l)) && not (same_parts was (toward p g l))

abbrev pub is_new_at : NodeConfig → Facts → Session → Said → SessionLane → Bool
is_new_at p g s said e = is_new_lane p g (lane_by s e) (said_at said (lane_by s e))

-- the units of the session's wants whose marks are used there
abbrev pub used_at : NodeConfig → Facts → Session → Said → SessionLane → List UnitOf
used_at p g s said e = cond (is_new_at p g s said e) (marked_units p g (lane_by s e)) []

abbrev pub used_in : NodeConfig → Facts → Session → Said → List SessionLane → Set units
used_in p g s said es = set_of (flat_map (used_at p g s said) es)

-- a want of the session without its mark, where that was used
abbrev pub unmarked_in : Session → Set units → WantKey → Want → Option Want
unmarked_in s used k w = Some (record w { confirm = w.confirm && not (is_session s k.0 && has used k.1) })

-- ---- the claims of the public laws
-- whatever marks wants have, the same goes toward each hop
abbrev pub marked_by : (WantKey → Want → Bool) → WantKey → Want → Option Want
marked_by marks k w = Some (record w { confirm = marks k w })

abbrev pub MarksDoNotMatter : Type 0
MarksDoNotMatter = (marks : WantKey → Want → Bool) (p : NodeConfig) (f : Facts) (l : Lane) → toward p (record f { wants = changed (marked_by marks) f.wants }) l ≡ toward p f l

-- where one sender changed, and with it its session alone, the marks that are used are those of the session's lanes; and what
-- was taken goes on where a Resv goes to one of them for a change
pub record MarksOfOneSession : Type 0 where
  pub used : (p : NodeConfig) (k : SenderKey) (f g : Facts) (said : Said) → IsChangedAt p k f g → ((l : Lane) → said_at said l ≡ toward p f l)
      → changed (unmarked (used_marks p p f g None)) g.wants ≡ changed (unmarked_in k.0 (used_in p g k.0 said (lanes_by (keys (hops_in g k.0))))) g.wants
  pub goes_on : (p : NodeConfig) (k : SenderKey) (f g : Facts) (said : Said) → IsChangedAt p k f g → ((l : Lane) → said_at said l ≡ toward p f l)
      → (a : Asked) → a.session ≡ k.0 → goes_on p p f g a ≡ list_any (is_new_at p g k.0 said) (lanes_by (keys (hops_in g k.0)))
