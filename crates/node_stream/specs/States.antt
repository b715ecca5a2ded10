-- Where the router of a stream stands, as code has it.
use Rattle.std.specs.Prelude.{◌≡◌, ℕ, ◌≤◌, List, length, Option, None, Some, is_some}
use Rattle.network_replay.specs.Following.{IsArrival, Seen}
use Rattle.node_stream.specs.Layout.{frame_of}
use Rattle.node_stream.specs.Rules.{IsInRange, IsInTurn}
use Rattle.node_stream.specs.declared.frame.Frame.{Frame}
use Rattle.router_rules.specs.Bounds.{IsWithinBounds}
use Rattle.router_rules.specs.Inputs.{Arrival, Came, Input}
use Rattle.router_rules.specs.NodeConfig.{NodeConfig}
use Rattle.router_rules.specs.Rule.{heard_after}
use Rattle.router_rules.specs.declared.answers.Heard.{Heard}
use Rattle.rsvp_base.specs.declared.addr.Addr.{Addr}
use Rattle.node_stream.specs.Posting.{Posted}
use Rattle.node_stream.specs.Serving.{Acts, Follows, IsAnswered, Standing, behind, frames_with, place_if, sends_for}
use Rattle.node_stream.specs.declared.state.Limits.{Limits}

-- a router, with its moments counted from a clock
abbrev pub stands_at : {R : Type 0} → Seen R → R → ℕ → Standing
stands_at see r c = record { place = see.place r; clock = c; facts = see.facts r c }

abbrev pub stand : {R : Type 0} → Seen R → Option R → ℕ → Option Standing
stand see None c = None
stand see (Some r) c = Some (stands_at see r c)

-- ---- what holds of a router between two frames
-- its interfaces and its period are these, and few and short
pub record AreLimits (p : NodeConfig) (limits : Limits) : Type 0 where
  pub ifaces : length p.ifaces ≡ limits.ifaces
  pub few : limits.ifaces ≤ 16
  pub quarter : p.quarter ≡ limits.quarter
  pub some : 1 ≤ limits.quarter
  pub quick : limits.quarter ≤ 15000

abbrev pub IsMeasured : Option Standing → Limits → Type 0
IsMeasured None limits = Unit {0}
IsMeasured (Some st) limits = AreLimits st.place limits

-- its facts are within bounds at its clock
abbrev pub IsWithin : Standing → Type 0
IsWithin st = IsWithinBounds st.place st.clock st.facts

abbrev pub IsSound : Option Standing → Limits → Type 0
IsSound None limits = Unit {0}
IsSound (Some st) limits = AreLimits st.place limits × IsWithin st

-- ---- an input was done: the router stands where its rule says, within bounds, and what it sends was posted, all of it
pub record HasDone (old : Standing) (i : Input) (new : Standing) (out : Posted) : Type 0 where
  pub stands : new ≡ behind old i
  pub within : IsWithin new
  pub posted : out.bytes ≡ frames_with (sends_for old i)

-- a datagram was taken in, whatever the clock
pub record IsTakenIn {R : Type 0} (see : Seen R) (old new : R) (iface : ℕ) (dst : Addr) (datagram : List ℕ) (heard : Heard) (out : Posted) : Type 0 where
  pub arrival : Arrival
  pub reads : IsArrival datagram arrival
  pub done : (c : ℕ) → IsWithin (stands_at see old c) → HasDone (stands_at see old c) (Came iface dst arrival) (stands_at see new c) out
  pub said : (c : ℕ) → heard ≡ heard_after (see.place old) c iface dst arrival (see.facts old c)

-- ---- a frame was served, from a clock on
-- by an open router, which did what the frame says
pub record HasAnswered {R : Type 0} (see : Seen R) (old new : R) (c : ℕ) (contents : List ℕ) (said : Frame) (out : Posted) : Type 0 where
  pub clock : ℕ
  pub answered : IsAnswered (stands_at see old c) contents said (stands_at see new clock) out.bytes
  pub within : IsWithin (stands_at see new clock)

-- by a router that is open then, a frame of this kind and with these contents
pub record IsServedAs {R : Type 0} (see : Seen R) (old new : Option R) (limits : Limits) (c kind : ℕ) (contents : List ℕ) (out : Posted) : Type 0 where
  pub clock : ℕ
  pub said : Frame
  pub reads : frame_of kind contents ≡ Some said
  pub in_turn : IsInTurn (is_some (stand see old c)) said
  pub in_range : IsInRange (place_if (stand see old c)) contents said
  pub acts : Acts (stand see old c) contents said (stand see new clock) out.bytes
  pub sound : IsSound (stand see new clock) limits

pub record IsServedBy {R : Type 0} (see : Seen R) (old new : Option R) (limits : Limits) (c : ℕ) (frame : List ℕ) (out : Posted) : Type 0 where
  pub clock : ℕ
  pub follows : Follows (stand see old c) frame (stand see new clock) out.bytes
  pub sound : IsSound (stand see new clock) limits
