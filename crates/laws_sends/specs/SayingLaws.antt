-- What is said of the telling of lanes: the claims of the public laws.
use Rattle.std.specs.Prelude.{◌≡◌, ℕ, false, [], List, map as each, Option, Some}
use Rattle.std.specs.List.{filter_map, flat_map}
use Rattle.std.specs.Option.{option_map}
use Rattle.router_state.specs.PathState.declared.fact.PathFact.{PathFact}
use Rattle.router_state.specs.ResvState.Merging.{requests_toward}
use Rattle.router_state.specs.ResvState.Walks.{rests}
use Rattle.rsvp_base.specs.Orders.{sessions}
use Rattle.rsvp_base.specs.Table.{empty, get, keys}
use Rattle.rsvp_base.specs.Under.{under}
use Rattle.rsvp_base.specs.declared.session.Session.{Session}
use Rattle.rsvp_base.specs.declared.style.StyleKind.{StyleKind}
use Rattle.router_state.specs.StyleRules.Lines.{NextHop}
use Rattle.router_state.specs.StyleRules.Merge.{PartTable}
use Rattle.router_state.specs.StyleRules.Toward.{toward as merged_toward}
use Rattle.router_state.specs.StyleRules.Ways.{WayTable}
use Rattle.router_state.specs.RouterRules.Facts.{Facts, SenderKey}
use Rattle.router_state.specs.RouterRules.Inputs.{Asked, only_heard}
use Rattle.router_state.specs.RouterRules.Known.{Lane}
use Rattle.router_state.specs.RouterRules.NodeConfig.{NodeConfig}
use Rattle.router_state.specs.RouterRules.Requests.{toward}
use Rattle.router_state.specs.RouterRules.Sends.{resv_send_to, resv_tear, sends}
use Rattle.router_state.specs.RouterRules.declared.answers.Heard.{Heard}
use Rattle.router_state.specs.Changes.{paths_put}
use Rattle.router_state.specs.State.{IsSaid, Said, State, facts_of, said_at, table_in}
use Rattle.laws_sends.specs.Changed.{IsChangedFor}
use Rattle.laws_sends.specs.Saying.{AreLanesOf, IsCleared, IsRoomy, IsTold, SessionLane, lane_by, told_lane, torn_lane}
use Rattle.laws_sends.specs.Before.{lanes_by}
use Rattle.laws_sends.specs.SendsHere.{hops_in}
use Rattle.laws_sends.specs.Seen.{own_at, toward_at, up_at}

-- what the table of a style merges toward a hop is what the rule sends there
abbrev pub MergedIsToward : Type 0
MergedIsToward =
    (c : ℕ) (n : State) (s : Session) (hop : NextHop) (up : WayTable) (own : PartTable) (st : StyleKind) → up ≡ up_at c n s st hop → own ≡ own_at c n s st hop
    → merged_toward st (requests_toward up (under sessions rests (table_in st n) s).rows own) ≡ toward_at c n s st hop

-- where nothing changed, nothing is sent
abbrev pub NothingIsSent : Type 0
NothingIsSent = (p : NodeConfig) (f : Facts) (h : Heard) → sends p p f f (only_heard h f) ≡ []

-- a path that is heard again by the same hop changes nothing of what goes toward any
abbrev pub RefreshIsQuiet : Type 0
RefreshIsQuiet =
    (n : State) (k : SenderKey) (old : PathFact × ℕ) → get n.paths k ≡ Some old → (fact : PathFact) (left : ℕ) → old.0.iface ≡ fact.iface → old.0.hop.addr ≡ fact.hop.addr
    → (c : ℕ) (p : NodeConfig) (l : Lane) → toward p (facts_of c n) l ≡ toward p (facts_of c (paths_put n k fact left)) l

-- once the lanes of the session that changed are told, what was said is what goes toward each hop
abbrev pub AllIsSaid : Type 0
AllIsSaid =
    (k : SenderKey) (n m : State) → IsChangedFor k n m → m.said ≡ n.said → IsSaid n.said n → (es : List SessionLane)
    → ((c : ℕ) → AreLanesOf (facts_of c n) k.0 es) → (said : Said) → IsCleared m k.0 es said
    → (ds : List SessionLane) → ((c : ℕ) → AreLanesOf (facts_of c m) k.0 ds) → (last : Said) → IsTold (record m { said = said }) k.0 ds last → IsRoomy m last → IsSaid last m

-- what is told lane by lane of what was said before is what the rule sends
pub record LanesAreTold : Type 0 where
  pub tears : (p : NodeConfig) (f g : Facts) (s : Session) (said : Said) → ((l : Lane) → said_at said l ≡ toward p f l) → (es : List SessionLane)
      → flat_map (λ e. torn_lane p g (lane_by s e) (said_at said (lane_by s e))) es ≡ flat_map (resv_tear p p f g) (each (lane_by s) es)
  pub resvs : (p : NodeConfig) (f g : Facts) (s : Session) (said : Said) → ((l : Lane) → said_at said l ≡ toward p f l) → (asked : Option Asked) (es : List SessionLane)
      → flat_map (λ e. told_lane p g (lane_by s e) (option_map (λ a. a.confirm) asked) false (said_at said (lane_by s e))) es ≡ filter_map (resv_send_to p p f g empty asked) (each (lane_by s) es)
  pub lanes : (s : Session) (f : Facts) → AreLanesOf f s (lanes_by (keys (hops_in f s)))
