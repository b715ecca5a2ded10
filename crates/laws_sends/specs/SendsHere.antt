-- What is sent where only some sessions, or one sender, changed: the claims of the public laws.
use Rattle.std.specs.Prelude.{◌≡◌, ℕ, Bool, false, List, ◌++◌, map as each, Option, None}
use Rattle.std.specs.List.{filter_map, flat_map}
use Rattle.std.specs.Ordering.{eq_by_cmp}
use Rattle.rsvp_base.specs.Orders.{sessions, senders}
use Rattle.rsvp_base.specs.Sets.{Set, set_of}
use Rattle.rsvp_base.specs.Table.{empty, get, has, keys}
use Rattle.rsvp_base.specs.declared.session.Sender.{Sender}
use Rattle.rsvp_base.specs.declared.session.Session.{Session}
use Rattle.rsvp_base.specs.declared.style.StyleKind.{StyleKind}
use Rattle.rsvp_base.specs.declared.style.StyleKind.TheVariants.{Wild, Fixed, Shared}
use Rattle.router_state.specs.StyleRules.Lines.{NextHop, next_hops}
use Rattle.router_state.specs.RouterRules.Facts.{Facts, PathState, SenderKey, paths_in, resvs_in, senders_in, sender_keys, wants_in}
use Rattle.router_state.specs.RouterRules.Inputs.{Change, Send, only_heard}
use Rattle.router_state.specs.RouterRules.Known.{Lane}
use Rattle.router_state.specs.RouterRules.Offers.{OfferKey, offers}
use Rattle.router_state.specs.RouterRules.NodeConfig.{NodeConfig}
use Rattle.router_state.specs.RouterRules.Sends.{conf_sends, confirmed, error_sends, resv_send_to, resv_tear, sends}
use Rattle.router_state.specs.RouterRules.declared.answers.Heard.{Heard}
use Rattle.router_state.specs.StyleRules.declared.target.Target.{Target}
use Rattle.laws_sends.specs.Told.{offered, told_gone, told_new}

-- ---- facts of one session
-- two nodes' facts of a session are the same
pub record AreSameOf (s : Session) (f g : Facts) : Type 0 where
  pub senders : senders_in f s ≡ senders_in g s
  pub advertised : (x : Sender) → has f.advertised (s, x) ≡ has g.advertised (s, x)
  pub paths : paths_in f s ≡ paths_in g s
  pub wants : wants_in f s ≡ wants_in g s
  pub resvs : (st : StyleKind) → resvs_in st f s ≡ resvs_in st g s
  pub walls : (t : Target) → get f.walls (s, t) ≡ get g.walls (s, t)

-- the facts of each session that fails a test are the same
abbrev pub AreSameOff : (Session → Bool) → Facts → Facts → Type 0
AreSameOff t f g = (s : Session) → t s ≡ false → AreSameOf s f g

-- ---- the lanes of a session
abbrev pub hop_of : PathState → NextHop
hop_of x = (x.iface, x.hop.addr)

-- its previous hops
abbrev pub hops_in : Facts → Session → Set next_hops
hops_in f s = set_of (each (λ e. hop_of e.1) (paths_in f s).rows)

abbrev pub lanes_toward : Session → StyleKind → List NextHop → List Lane
lanes_toward s st hops = each (λ hop. record { session = s; style = st; hop = hop }) hops

-- for each style, its previous hops in order
abbrev pub lanes_at : Session → List NextHop → List Lane
lanes_at s hops = lanes_toward s Wild hops ++ (lanes_toward s Fixed hops ++ lanes_toward s Shared hops)

-- ---- one sender changed
-- what is offered of the others is the same, and so are the facts of other sessions
pub record IsChangedAt (p : NodeConfig) (k : SenderKey) (f g : Facts) : Type 0 where
  pub elsewhere : AreSameOff (eq_by_cmp sessions.cmp k.0) f g
  pub others : (j : OfferKey) → eq_by_cmp sender_keys.cmp k (j.session, j.sender) ≡ false → get (offers p f) j ≡ get (offers p g) j

-- what is sent then, of the sender and of its session's lanes: PathTears, ResvTears, errors, confirmations, Paths, and Resvs
abbrev pub sent_with : NodeConfig → SenderKey → Facts → Facts → Change → List Send
sent_with p k f g c =
    told_gone p k (offered f k) (offered g k)
    ++ (flat_map (resv_tear p p f g) (lanes_at k.0 (keys (hops_in f k.0)))
    ++ (error_sends c.errors
    ++ (conf_sends (c.confs ++ confirmed p p f g c.asked)
    ++ (told_new p k (offered f k) (offered g k)
    ++ filter_map (resv_send_to p p f g empty c.asked) (lanes_at k.0 (keys (hops_in g k.0)))))))

abbrev pub OneSessionIsTold : Type 0
OneSessionIsTold = (p : NodeConfig) (k : SenderKey) (f g : Facts) (c : Change) → IsChangedAt p k f g → c.fired ≡ empty → sends p p f g c ≡ sent_with p k f g c

-- without errors and confirmations
abbrev pub sent_at : NodeConfig → SenderKey → Facts → Facts → List Send
sent_at p k f g =
    told_gone p k (offered f k) (offered g k)
    ++ (flat_map (resv_tear p p f g) (lanes_at k.0 (keys (hops_in f k.0)))
    ++ (told_new p k (offered f k) (offered g k)
    ++ filter_map (resv_send_to p p f g empty None) (lanes_at k.0 (keys (hops_in g k.0)))))

abbrev pub OneSenderIsTold : Type 0
OneSenderIsTold = (p : NodeConfig) (k : SenderKey) (f g : Facts) (h : Heard) → IsChangedAt p k f g → sends p p f g (only_heard h g) ≡ sent_at p k f g
