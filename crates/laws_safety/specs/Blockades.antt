-- What is sent and kept while a blockade lives (RFC 2205, 3.5).
use Rattle.std.specs.Prelude.{◌≡◌, ℕ, ◌+◌, ◌<◌, ◌≤◌, Bool, true, Some, slice_get}
use Rattle.rsvp_base.specs.declared.part.Part.{Part}
use Rattle.rsvp_base.specs.declared.session.Sender.{Sender}
use Rattle.rsvp_base.specs.declared.style.StyleKind.{StyleKind}
use Rattle.rsvp_base.specs.declared.style.StyleKind.TheVariants.{Wild, Fixed, Shared}
use Rattle.rsvp_base.specs.declared.style.Unit.{Unit as UnitOf}
use Rattle.rsvp_base.specs.declared.style.Unit.TheVariants.{Of}
use Rattle.rsvp_base.specs.Members.{In}
use Rattle.rsvp_base.specs.Table.{get, has, size}
use Rattle.rsvp_base.specs.TokenBucket.{TokenBucket}
use Rattle.rsvp_messages.specs.declared.message.Message.TheVariants as message
use Rattle.rsvp_messages.specs.declared.message.ResvErrMsg.{ResvErrMsg}
use Rattle.rsvp_messages.specs.declared.message.ResvMsg.{ResvMsg}
use Rattle.rsvp_messages.specs.declared.message.ResvTearMsg.{ResvTearMsg}
use Rattle.style_rules.specs.declared.target.Target.TheVariants as target
use Rattle.style_rules.specs.Targets.{WallKey}
use Rattle.style_rules.specs.Merge.{all_by}
use Rattle.style_rules.specs.Parts.{part_join}
use Rattle.style_rules.specs.Toward.{IsOpenRequestOf, IsRequestOf, Request, meet_at, open_of, parts_of, requests_at}
use Rattle.style_rules.specs.declared.wall.Wall.{Wall}
use Rattle.flow_merge.specs.FlowOrder.{IsAtMost}
use Rattle.laws_bounds.specs.ErrorLaws.{walls_set}
use Rattle.laws_bounds.specs.FactLaws.{ComesBy}
use Rattle.laws_steps.specs.ReservationLaws.{IsOfLane}
use Rattle.router_rules.specs.Errors.{blockade_of, is_admission, walled_by}
use Rattle.router_rules.specs.Facts.{Blockade, Facts}
use Rattle.router_rules.specs.Inputs.{Send, Spelt}
use Rattle.router_rules.specs.Known.{Lane}
use Rattle.router_rules.specs.NodeConfig.{NodeConfig, own}
use Rattle.router_rules.specs.Requests.{requests, toward}
use Rattle.tree_model.specs.declared.hops.End.{End}
use Rattle.tree_model.specs.Networks.{end_at, iface_of}
use Rattle.network_model.specs.Laws.{config_in}
use Rattle.network_model.specs.Links.{copy_to, goes_to}
use Rattle.network_model.specs.Steps.{ClearAt, Deliver, Step, ms_of, sent, step}
use Rattle.network_model.specs.Worlds.{Item, World}

-- ---- what a Resv says
-- a node sent it, over a link to this end, and it asks for what goes toward its previous hop by the node's facts after the step
pub record IsSentToward (q : ℕ) (s : Step) (w : World) (y : Item) (mark : Bool) (m : ResvMsg) : Type 0 where
  pub node : ℕ
  pub after : Facts
  pub there : slice_get (step q s w).nodes node ≡ Some after
  pub send : Send
  pub is : (y, mark) ≡ copy_to w.made send y.end
  pub goes : In y.end (goes_to w.net (end_at w.net.ends node send.iface) send.dst)
  pub says : IsOfLane (config_in q (step q s w) node) after send m

abbrev pub EachResvSaysWhatGoesToward : ℕ → Step → World → Type 0
EachResvSaysWhatGoesToward q s w = (y : Item) (mark : Bool) (m : ResvMsg) → In (y, mark) (sent q s w) → y.arrival ≡ Spelt (message.Resv m) → IsSentToward q s w y mark m

-- ---- below a blockade
-- a flow that the blockade does not keep back: it asks for less of what was refused
pub record IsBelow (wall : Wall) (flow : TokenBucket) : Type 0 where
  pub rate : wall.sub ≡ 2 → flow.r < wall.flow.r
  pub size : wall.sub ≡ 3 → flow.most < wall.flow.most

-- the blockades that speak of a request: a wildcard one is kept back by that of its hop, another by those of its senders
abbrev pub SpeaksOf : Lane → StyleKind → Part → WallKey → Type 0
SpeaksOf l Wild p k = k ≡ (l.session, target.Hop l.hop.0 l.hop.1)
SpeaksOf l Fixed p k = (x : Sender) × (has p.senders x ≡ true) × (k ≡ (l.session, target.Sender x))
SpeaksOf l Shared p k = (x : Sender) × (has p.senders x ≡ true) × (k ≡ (l.session, target.Sender x))

-- this part goes on of a unit that has a request that is not blockaded: the join of all of them, each below each blockade that speaks
-- of it
pub record GoesOn (p : NodeConfig) (f : Facts) (l : Lane) (u : UnitOf) (t : Part) : Type 0 where
  pub goes : get (toward p f l) u ≡ Some t
  pub join : Some t ≡ all_by part_join (parts_of (open_of (requests_at l.style u (requests p f l))))
  pub each : (r : Request) (k : WallKey) (b : Blockade) → IsOpenRequestOf l.style (requests p f l) u r → SpeaksOf l l.style r.part k → get f.walls k ≡ Some b → IsBelow b.wall r.part.flow
  -- so it is below the blockade of its hop, or of its sender
  pub wild : (b : Blockade) → l.style ≡ Wild → get f.walls (l.session, target.Hop l.hop.0 l.hop.1) ≡ Some b → IsBelow b.wall t.flow
  pub fixed : (x : Sender) (b : Blockade) → l.style ≡ Fixed → u ≡ Of x → get f.walls (l.session, target.Sender x) ≡ Some b → IsBelow b.wall t.flow

abbrev pub WhatGoesOnIsBelow : Type 0
WhatGoesOnIsBelow = (p : NodeConfig) (f : Facts) (l : Lane) (u : UnitOf) (r : Request) → IsOpenRequestOf l.style (requests p f l) u r → (t : Part) × GoesOn p f l u t

-- ---- a blockade is set, and stays until it dies, is replaced, or its node is cleared
-- a ResvErr of an admission failure arrives at the node with these facts, which takes it, and sets a blockade of this key: it is for
-- the node's own address, a previous hop of its session sent it, and there is room for its blockades
pub record SetsBlockade (q : ℕ) (s : Step) (w : World) (n : ℕ) (f : Facts) (k : WallKey) : Type 0 where
  pub place : ℕ
  pub item : Item
  pub end : End
  pub error : ResvErrMsg
  pub flow : TokenBucket
  pub step_is : s ≡ Deliver place
  pub arrives : slice_get w.flight place ≡ Some item
  pub there : slice_get w.net.ends item.end ≡ Some end
  pub node : end.node ≡ n
  pub mine : item.dst ≡ own (config_in q w n) (iface_of w.net.ends item.end)
  pub says : item.arrival ≡ Spelt (message.ResvErr error)
  pub admission : is_admission error.err ≡ true
  pub with_flow : error.blame.flow ≡ Some flow
  pub target : In k (walled_by (iface_of w.net.ends item.end) error error.blame.style)
  pub sender : Sender
  pub comes : ComesBy f error.session (iface_of w.net.ends item.end, error.hop.addr) sender
  pub room : size (walls_set (config_in q w n) (w.clock + ms_of s) (iface_of w.net.ends item.end) error f) ≤ 512

-- the blockade that it sets stands behind the step, with the flow and the value of the error
abbrev pub AnAdmissionErrorSetsItsBlockade : ℕ → Step → World → Type 0
AnAdmissionErrorSetsItsBlockade q s w =
    (n : ℕ) (f g : Facts) (k : WallKey) → slice_get w.nodes n ≡ Some f → slice_get (step q s w).nodes n ≡ Some g → (r : SetsBlockade q s w n f k)
    → get g.walls k ≡ Some (blockade_of (config_in q w n) (w.clock + ms_of s) r.error r.flow)

abbrev pub ABlockadeStays : ℕ → Step → World → Type 0
ABlockadeStays q s w =
    (n : ℕ) (f g : Facts) (k : WallKey) (b : Blockade) → slice_get w.nodes n ≡ Some f → slice_get (step q s w).nodes n ≡ Some g → get f.walls k ≡ Some b → w.clock + ms_of s < b.dies
    → (s ≡ ClearAt n → ⊥) → (SetsBlockade q s w n f k → ⊥) → get g.walls k ≡ Some b

-- ---- a blockade drops no unit, and what an error leaves
pub record BlockadesDropNothing : Type 0 where
  -- the units toward a hop are those of the requests toward it, whatever the blockades
  pub units : (p : NodeConfig) (f : Facts) (l : Lane) (u : UnitOf)
      → (has (toward p f l) u ≡ true → (r : Request) × IsRequestOf l.style (requests p f l) u r)
      × ((r : Request) → IsRequestOf l.style (requests p f l) u r → has (toward p f l) u ≡ true)
  -- each at least with the meet of the flows of its requests
  pub least : (p : NodeConfig) (f : Facts) (l : Lane) (u : UnitOf) (t : Part) (flow : TokenBucket) → get (toward p f l) u ≡ Some t
      → meet_at l.style (requests p f l) u ≡ Some flow → IsAtMost flow t.flow

pub record AnErrorTearsNothing (q : ℕ) (s : Step) (w : World) (y : Item) (m : ResvErrMsg) : Type 0 where
  pub no_tear : (x : Item) (mark : Bool) (t : ResvTearMsg) → In (x, mark) (sent q s w) → x.arrival ≡ Spelt (message.ResvTear t) → ⊥
  pub resvs : (n : ℕ) (f g : Facts) → slice_get w.nodes n ≡ Some f → slice_get (step q s w).nodes n ≡ Some g → g.resvs ≡ f.resvs

abbrev pub AResvErrTearsNothing : ℕ → Step → World → Type 0
AResvErrTearsNothing q s w = (k : ℕ) (y : Item) (m : ResvErrMsg) → s ≡ Deliver k → slice_get w.flight k ≡ Some y → y.arrival ≡ Spelt (message.ResvErr m) → AnErrorTearsNothing q s w y m
