-- What is said of the sends of several sessions: the claims of the public laws.
use Rattle.std.specs.Prelude.{◌≡◌, ◌⊎◌, true, false, List, [], ◌++◌, Some, None}
use Rattle.std.specs.List.{filter, filter_map, flat_map}
use Rattle.rsvp_base.specs.Orders.{sessions}
use Rattle.rsvp_base.specs.Sets.{Set}
use Rattle.rsvp_base.specs.Table.{has, keys}
use Rattle.rsvp_base.specs.declared.session.Session.{Session}
use Rattle.router_state.specs.RouterRules.Facts.{Facts, SenderKey, sender_keys}
use Rattle.router_state.specs.RouterRules.Inputs.{Change}
use Rattle.router_state.specs.RouterRules.Known.{Lane, lanes}
use Rattle.router_state.specs.RouterRules.NodeConfig.{NodeConfig}
use Rattle.router_state.specs.RouterRules.Offers.{Offer, offers}
use Rattle.router_state.specs.RouterRules.Requests.{toward}
use Rattle.router_state.specs.RouterRules.Sends.{path_sends, path_tears, resv_send_to, resv_tear, sends}
use Rattle.router_state.specs.State.{Said, said_at}
use Rattle.laws_sends.specs.Saying.{told_lane, torn_lane}
use Rattle.laws_sends.specs.SendsHere.{AreSameOf}
use Rattle.laws_sends.specs.Told.{offered}
use Rattle.laws_sends.specs.Several.{AreSessions, gone_told, is_among, known_offers, lanes_for, offers_for, paths_of, refreshed, tears_of}

-- ---- lists by session
-- the lanes and the offers of these sessions are those of each, session after session
pub record InOrder : Type 0 where
  pub lanes : (ss : List Session) → AreSessions ss → (f : Facts) → filter (λ l. is_among ss l.session) (keys (lanes f)) ≡ lanes_for ss f
  pub offers : (ss : List Session) → AreSessions ss → (f : Facts) → filter (λ e. is_among ss e.0.0) (known_offers f).rows ≡ offers_for ss f

-- ---- Paths and PathTears, sender after sender; the routes may be others than before
pub record SendersAreTold : Type 0 where
  pub tears : (old p : NodeConfig) (f g : Facts) → path_tears p (offers old f) (offers p g) ≡ flat_map (tears_of old p f g) (keys (known_offers f))
  pub paths : (old p : NodeConfig) (f g : Facts) (fired : Set sessions) → path_sends p (offers old f) (offers p g) fired ≡ flat_map (paths_of old p f g fired) (known_offers g).rows
  -- of the senders that are gone, where these are among a list in order
  pub gone : (p : NodeConfig) (f g : Facts) (dead : Set sender_keys) → ((k : SenderKey) (o : Offer) → offered f k ≡ Some o → offered g k ≡ None → has dead k ≡ true)
      → path_tears p (offers p f) (offers p g) ≡ gone_told p f g (keys dead)
  -- all of the sessions that came due, where nothing is offered that was not offered before
  pub refreshed : (p : NodeConfig) (f g : Facts) (fired : Set sessions) → ((k : SenderKey) (o : Offer) → offered g k ≡ Some o → offered f k ≡ Some o)
      → path_sends p (offers p f) (offers p g) fired ≡ flat_map (refreshed p g) (keys fired)

-- ---- lanes, by what was said before; the routes may be others than before
pub record LanesAreSaid : Type 0 where
  pub tears : (old p : NodeConfig) (f g : Facts) (said : Said) → ((l : Lane) → said_at said l ≡ toward old f l) → (l : Lane) → torn_lane p g l (said_at said l) ≡ resv_tear old p f g l
  pub resvs : (old p : NodeConfig) (f g : Facts) (said : Said) → ((l : Lane) → said_at said l ≡ toward old f l) → (fired : Set sessions) (ls : List Lane)
      → flat_map (λ l. told_lane p g l None (has fired l.session) (said_at said l)) ls ≡ filter_map (resv_send_to old p f g fired None) ls

-- ---- all six groups
-- where the facts of the sessions that have previous hops differ only in some of them, and only these come due, nothing is
-- asked for, and nothing new is offered
pub record IsPassage (ss : List Session) (dead : Set sender_keys) (f g : Facts) (k : Change) : Type 0 where
  pub sessions : AreSessions ss
  pub elsewhere : (l : Lane) → is_among ss l.session ≡ false → (has (lanes f) l ≡ true) ⊎ (has (lanes g) l ≡ true) → AreSameOf l.session f g
  pub fired : (s : Session) → is_among ss s ≡ false → has k.fired s ≡ false
  pub gone : (j : SenderKey) (o : Offer) → offered f j ≡ Some o → offered g j ≡ None → has dead j ≡ true
  pub known : (j : SenderKey) (o : Offer) → offered g j ≡ Some o → offered f j ≡ Some o
  pub errors : k.errors ≡ []
  pub confs : k.confs ≡ []
  pub asked : k.asked ≡ None

-- then the senders that are gone are torn, in order; the lanes of these sessions are torn; the sessions that came due are
-- refreshed; and Resvs go toward the hops of these sessions
abbrev pub PassageIsTold : Type 0
PassageIsTold =
    (p : NodeConfig) (ss : List Session) (dead : Set sender_keys) (f g : Facts) (k : Change) → IsPassage ss dead f g k
    → sends p p f g k ≡ gone_told p f g (keys dead)
    ++ (flat_map (resv_tear p p f g) (lanes_for ss f)
    ++ (flat_map (refreshed p g) (keys k.fired) ++ filter_map (resv_send_to p p f g k.fired None) (lanes_for ss g)))

-- with other routes than before: over all sessions that have paths, and all senders
pub record IsRerouting (ss : List Session) (f : Facts) (k : Change) : Type 0 where
  pub sessions : AreSessions ss
  pub all : (l : Lane) → has (lanes f) l ≡ true → is_among ss l.session ≡ true
  pub errors : k.errors ≡ []
  pub confs : k.confs ≡ []
  pub asked : k.asked ≡ None

abbrev pub ReroutingIsTold : Type 0
ReroutingIsTold =
    (old p : NodeConfig) (ss : List Session) (f : Facts) (k : Change) → IsRerouting ss f k
    → sends old p f f k ≡ flat_map (tears_of old p f f) (keys (known_offers f))
    ++ (flat_map (resv_tear old p f f) (lanes_for ss f)
    ++ (flat_map (paths_of old p f f k.fired) (known_offers f).rows ++ filter_map (resv_send_to old p f f k.fired None) (lanes_for ss f)))
