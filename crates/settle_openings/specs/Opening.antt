-- A network that opens: no node keeps a path, a reservation or a blockade yet, hosts begin to send and receivers ask, all at once; and then half
-- periods go by, each followed by a pass. What holds on the way, until all has settled and from then on.
use Rattle.std.specs.Prelude.{◌≡◌, ℕ, ◌+◌, ◌*◌, ◌≤◌, ◌⊎◌, List, [], ◌∷◌, length, take, true, false, Some, slice_get}
use Rattle.rsvp_base.specs.declared.part.Part.{Part}
use Rattle.rsvp_base.specs.declared.session.Sender.{Sender}
use Rattle.rsvp_base.specs.declared.session.Session.{Session}
use Rattle.rsvp_base.specs.declared.style.StyleKind.{StyleKind}
use Rattle.rsvp_base.specs.Members.{In}
use Rattle.rsvp_base.specs.Table.{empty, get, has}
use Rattle.rsvp_base.specs.TokenBucket.{TokenBucket}
use Rattle.router_rules.specs.RsvpMessages.declared.message.Message.TheVariants as message
use Rattle.router_rules.specs.RsvpMessages.declared.message.PathMsg.{PathMsg}
use Rattle.router_rules.specs.RsvpMessages.declared.message.ResvMsg.{ResvMsg}
use Rattle.router_rules.specs.RsvpMessages.Units.{ask_style}
use Rattle.router_rules.specs.Lines.{LineKey}
use Rattle.router_rules.specs.Facts.{Facts, PathState, ResvState, SenderKey, Want, WantKey, no_resvs, resvs_of}
use Rattle.router_rules.specs.Inputs.{Spelt}
use Rattle.router_rules.specs.Requests.{toward}
use Rattle.tree_model.specs.declared.hops.LinkHop.{LinkHop}
use Rattle.tree_model.specs.Goals.{DemandsFit, addr_of}
use Rattle.tree_model.specs.Networks.{Net, node_of, peers}
use Rattle.tree_model.specs.Trees.{hops_of, outward, tree}
use Rattle.network_model.specs.Bounds.{AreBounds, AreHosts}
use Rattle.network_model.specs.Laws.{config_in}
use Rattle.network_model.specs.Locals.{IsLive, locals_of}
use Rattle.network_model.specs.Sound.{TakesAll}
use Rattle.network_model.specs.Steps.{Step, step}
use Rattle.network_model.specs.Worlds.{Item, World}
use Rattle.laws_network.specs.Refreshes.{due_at}
use Rattle.settle_paths.specs.SoftPaths.{path_at}
use Rattle.settle_resvs.specs.Said.{HopKey, IsOver, hop_over, lane_of, resv_key}
use Rattle.settle_resvs.specs.SoftResvs.{SaysResv, line_key_of, resv_at}
use Rattle.settle_passes.specs.Passes.{IsPathOver}
use Rattle.settle_passes.specs.Reserving.{IsKeptOver}
use Rattle.settle_senders.specs.Following.{IsFollowing}
use Rattle.settle_refreshes.specs.Refreshes.{HasOnlyRefreshes, NobodyWaits}

-- ---- what is kept lasts
-- the node refreshes the session next at a moment from which on 15 quarters of a period are left
pub record IsInTime (q : ℕ) (w : World) (n : ℕ) (s : Session) (dies : ℕ) : Type 0 where
  pub moment : ℕ
  pub due : due_at w n s ≡ Some moment
  pub long : moment + 15 * q ≤ dies

-- the world with the first n of what is in flight, and nothing else in flight
abbrev pub with_first : ℕ → World → World
with_first n w = record w { flight = take n w.flight }

-- one of the first n in flight is a Resv of the key, over its hop
pub record IsAskedAgain (n : ℕ) (w : World) (k : HopKey) : Type 0 where
  pub item : Item
  pub flight : In item (take n w.flight)
  pub part : Part
  pub says : SaysResv w.net (resv_key w.net k) item part

-- each path that came over a hop, and each reservation that came back over one, lives 15 quarters of a period or more beyond the moment at which
-- the node that sent it refreshes it next; or one of the first n items in flight renews it
pub record AreLasting (q n : ℕ) (w : World) : Type 0 where
  pub paths : (m : ℕ) (f : Facts) (k : SenderKey) (x : PathState) (h : LinkHop) → slice_get w.nodes m ≡ Some f → get f.paths k ≡ Some x → In h (tree w.net.hops k.0.group k.1.addr)
      → node_of w.net.ends h.to ≡ m → IsInTime q w (node_of w.net.ends h.from) k.0 x.dies ⊎ IsPathOver (with_first n w) k x.tspec h
  pub resvs : (k : HopKey) (r : ResvState) → In (hop_over k) (hops_of w.net.hops k.session.group)
      → resv_at w (node_of w.net.ends k.to) k.style (line_key_of w.net (resv_key w.net k)) ≡ Some r
      → IsInTime q w (node_of w.net.ends k.from) k.session r.dies ⊎ IsAskedAgain n w k

-- each Path and Resv in flight is for a full lifetime, and each Path goes to its group
pub record AreFull (q : ℕ) (w : World) : Type 0 where
  pub paths : (y : Item) (m : PathMsg) → In y w.flight → y.arrival ≡ Spelt (message.Path m) → (m.period ≡ 4 * q) × (y.dst ≡ m.session.group)
  pub resvs : (y : Item) (m : ResvMsg) → In y w.flight → y.arrival ≡ Spelt (message.Resv m) → m.period ≡ 4 * q

-- ---- names stay
-- the item asks for the name, with the key's unit
abbrev pub Names : Net → HopKey → Sender → Item → Type 0
Names net k x y = (v : Part) × SaysResv net (resv_key net k) y v × (has v.senders x ≡ true)

-- and so does each of these that is a Resv of the key's session and style over its hop
abbrev pub AllName : Net → HopKey → Sender → List Item → Type 0
AllName net k x ys = (y : Item) (m : ResvMsg) → In y ys → y.arrival ≡ Spelt (message.Resv m) → IsOver net k y m.session m.hop.addr (ask_style m.ask) → Names net k x y

-- where one of these asks for it, so do all that were sent later
abbrev pub IsNamedOn : Net → HopKey → Sender → List Item → Type 0
IsNamedOn net k x [] = Unit {0}
IsNamedOn net k x (y ∷ ys) = (Names net k x y → AllName net k x ys) × IsNamedOn net k x ys

-- the node that asks would do so now
pub record GoesOn (q : ℕ) (w : World) (k : HopKey) (x : Sender) : Type 0 where
  pub facts : Facts
  pub there : slice_get w.nodes (node_of w.net.ends k.from) ≡ Some facts
  pub part : Part
  pub goes : get (toward (config_in q w (node_of w.net.ends k.from)) facts (lane_of w.net k)) k.unit ≡ Some part
  pub named : has part.senders x ≡ true

-- what was asked for over a hop is asked for still: each name of a reservation by all that is on its way, and each name of these by all
-- that was sent later; and by the node
pub record DoNamesStay (q : ℕ) (w : World) : Type 0 where
  pub kept : (k : HopKey) (v : Part) (x : Sender) → In (hop_over k) (hops_of w.net.hops k.session.group) → IsKeptOver w k v → has v.senders x ≡ true → AllName w.net k x w.flight × GoesOn q w k x
  pub items : (k : HopKey) (x : Sender) (y : Item) → In (hop_over k) (hops_of w.net.hops k.session.group) → In y w.flight → Names w.net k x y → GoesOn q w k x
  pub order : (k : HopKey) (x : Sender) → In (hop_over k) (hops_of w.net.hops k.session.group) → IsNamedOn w.net k x w.flight

-- ---- a network that opens, apart from how long what it keeps lasts
pub record IsGoingOn (q : ℕ) (w : World) : Type 0 where
  pub follows : (s : Session) → IsFollowing q s w
  -- no error, no tear and no confirmation is in flight, and nobody waits for one
  pub only : HasOnlyRefreshes w
  pub waits : NobodyWaits w
  pub full : AreFull q w
  pub names : DoNamesStay q w

-- a network that opens: what does not live that long is renewed by one of the first n items in flight
pub record IsOpeningWith (q n : ℕ) (w : World) : Type 0 where
  pub on : IsGoingOn q w
  pub lasting : AreLasting q n w

-- by any item in flight; and where it is rested by none, so that all lives that long, as behind a pass of all that was in flight
abbrev pub IsOpening : ℕ → World → Type 0
IsOpening q w = IsOpeningWith q (length w.flight) w

abbrev pub IsRested : ℕ → World → Type 0
IsRested q w = IsOpeningWith q 0 w

-- ---- the start
-- a Path that a local sender's node sends, by an end by which its tree leaves
pub record IsFirstPath (q : ℕ) (w : World) (y : Item) : Type 0 where
  pub node : ℕ
  pub facts : Facts
  pub there : slice_get w.nodes node ≡ Some facts
  pub path : PathMsg
  pub spelt : y.arrival ≡ Spelt (message.Path path)
  pub sender : Sender
  pub tspec : TokenBucket
  pub of : path.sender ≡ Some (sender, tspec)
  pub sends : get facts.senders (path.session, sender) ≡ Some tspec
  pub end : ℕ
  pub at : node_of w.net.ends end ≡ node
  pub leaves : In end (outward w.net node path.session.group sender.addr)
  pub hop : path.hop.addr ≡ addr_of w.net end
  pub to : In y.end (peers w.net.links end)
  pub dst : y.dst ≡ path.session.group
  pub period : path.period ≡ 4 * q

-- a world within bounds with hosts: no node keeps a path, a reservation or a blockade; the Paths of its local senders are in flight, all of them
-- and nothing else; what is asked for fits, and nobody wants a confirmation
pub record IsUntouched (q : ℕ) (w : World) : Type 0 where
  pub bounds : AreBounds q w
  pub hosts : AreHosts w
  pub fit : DemandsFit w.net (locals_of w)
  pub paths : (n : ℕ) (f : Facts) → slice_get w.nodes n ≡ Some f → f.paths ≡ empty
  pub resvs : (n : ℕ) (f : Facts) → slice_get w.nodes n ≡ Some f → f.resvs ≡ no_resvs
  pub walls : (n : ℕ) (f : Facts) → slice_get w.nodes n ≡ Some f → f.walls ≡ empty
  pub unmarked : (n : ℕ) (f : Facts) (k : WantKey) (x : Want) → slice_get w.nodes n ≡ Some f → get f.wants k ≡ Some x → x.confirm ≡ false
  pub sent : (y : Item) → In y w.flight → IsFirstPath q w y
  pub all : (k : SenderKey) (t : TokenBucket) (h : LinkHop) (f : Facts) → IsLive w k t → In h (tree w.net.hops k.0.group k.1.addr) → slice_get w.nodes (node_of w.net.ends h.from) ≡ Some f
      → has f.senders k ≡ true → IsPathOver w k t h

-- ---- nothing is lost
-- from a world to one that a step leads to: where a node kept a path of a sender it keeps one of it still, and each name of a reservation that
-- it kept is named still, by one of the same session, style, interface, next hop and unit. Of flows nothing is said
pub record LosesNothing (w u : World) : Type 0 where
  pub paths : (n : ℕ) (f : Facts) (k : SenderKey) (x : PathState) → slice_get w.nodes n ≡ Some f → get f.paths k ≡ Some x → (y : PathState) × (path_at u n k ≡ Some y)
  pub resvs : (n : ℕ) (f : Facts) (st : StyleKind) (key : LineKey) (r : ResvState) (x : Sender) → slice_get w.nodes n ≡ Some f → get (resvs_of st f) key ≡ Some r → has r.part.senders x ≡ true
      → (y : ResvState) × (resv_at u n st key ≡ Some y) × (has y.part.senders x ≡ true)

-- by none of these steps, one after the other, is anything lost so; and each Resv that arrives by one of them is taken whole
abbrev pub NothingIsLost : ℕ → List Step → World → Type 0
NothingIsLost q [] w = Unit {0}
NothingIsLost q (s ∷ ss) w = (LosesNothing w (step q s w) × TakesAll q s w) × NothingIsLost q ss (step q s w)
