-- What comes to a node, and what its handling gives.
use Rattle.std.specs.Prelude.{ℕ, Bool, cond, List, [], ◌∷◌, Option, None}
use Rattle.std.specs.Ordering.{is_lt}
use Rattle.rsvp_base.specs.declared.addr.Addr.{Addr}
use Rattle.rsvp_base.specs.declared.session.Sender.{Sender}
use Rattle.rsvp_base.specs.declared.session.Session.{Session}
use Rattle.rsvp_base.specs.declared.style.StyleKind.{StyleKind}
use Rattle.rsvp_base.specs.Keys.{Keys}
use Rattle.rsvp_base.specs.Orders.{sessions, Names}
use Rattle.rsvp_base.specs.Sets.{Set}
use Rattle.rsvp_base.specs.Table.{empty}
use Rattle.rsvp_base.specs.TokenBucket.{TokenBucket}
use Rattle.rsvp_messages.specs.declared.ask.Ask.{Ask}
use Rattle.rsvp_messages.specs.declared.fault.MsgErr.{MsgErr}
use Rattle.rsvp_messages.specs.declared.message.Message.{Message}
use Rattle.rsvp_messages.specs.declared.message.PathErrMsg.{PathErrMsg}
use Rattle.rsvp_messages.specs.declared.message.ResvErrMsg.{ResvErrMsg}
use Rattle.rsvp_messages.specs.declared.message.ResvConfMsg.{ResvConfMsg}
use Rattle.style_rules.specs.Lines.{LineKey}
use Rattle.router_rules.specs.declared.answers.Heard.{Heard}
use Rattle.router_rules.specs.Facts.{Facts, SenderKey, PathState, ResvState, Blockade}
use Rattle.style_rules.specs.Targets.{WallKey}

-- ---- inputs
-- what the bytes of a datagram are
pub data Arrival : Type 0 where
  Spelt : Message → Arrival
  Unspelt : MsgErr → Arrival

pub data Local : Type 0 where
  SendAs : Session → Sender → TokenBucket → Local
  DropAs : Session → Sender → Local
  -- the node tells what the path of a local sender offers, from now on
  AdvertAs : Session → Sender → Local
  -- a style, senders and a flow; and whether a confirmation is wanted
  WantAs : Session → StyleKind → Names → TokenBucket → Bool → Local
  QuitAll : Session → Local

pub data Input : Type 0 where
  Call : Local → Input
  -- milliseconds and a random word
  Wait : ℕ → ℕ → Input
  Clear : Input
  -- by an interface, to an address
  Came : ℕ → Addr → Arrival → Input
  -- the routes are others than before (RFC 2205, 3.6)
  Moved : Input

-- facts that a node is given and did not learn
pub data Stale : Type 0 where
  StalePath : SenderKey → PathState → Stale
  StaleResv : StyleKind → LineKey → ResvState → Stale
  StaleWall : WallKey → Blockade → Stale

-- ---- sends
-- by an interface, to an address; whether it is the refresh of a session that came due
pub record Send : Type 0 where
  pub iface : ℕ
  pub dst : Addr
  pub message : Message
  pub refresh : Bool

-- errors and confirmations, which a rule makes itself
pub data ErrMsg : Type 0 where
  OfPath : PathErrMsg → ErrMsg
  OfResv : ResvErrMsg → ErrMsg

pub record ErrSend : Type 0 where
  pub iface : ℕ
  pub dst : Addr
  pub error : ErrMsg

pub record ConfSend : Type 0 where
  pub iface : ℕ
  pub dst : Addr
  pub conf : ResvConfMsg

-- ---- changes
-- an address that a Resv brought for confirmation: whence, and what of it was taken
pub record Asked : Type 0 where
  pub session : Session
  pub confirm : Addr
  pub iface : ℕ
  pub hop : Addr
  pub taken : Option Ask

-- what an input does by itself: facts, before names are forgotten and countdowns settled; the errors and confirmations that
-- it makes; the sessions that came due; a wish to be confirmed; what was heard
pub record Change : Type 0 where
  pub facts : Facts
  pub errors : List ErrSend
  pub confs : List ConfSend
  pub fired : Set sessions
  pub asked : Option Asked
  pub heard : Heard

-- facts and what was heard, and nothing else
abbrev pub only_heard : Heard → Facts → Change
only_heard h f = record { facts = f; errors = []; confs = []; fired = empty; asked = None; heard = h }

-- ---- lists in the order of a key, those that tie as they came
module _ {X K : Type 0} (o : Keys K) (key : X → K) where
  abbrev pub put_in_order : X → List X → List X
  put_in_order x [] = x ∷ []
  put_in_order x (y ∷ ys) = cond (is_lt (o.cmp (key y) (key x))) (y ∷ put_in_order x ys) (x ∷ y ∷ ys)

  abbrev pub in_order : List X → List X
  in_order [] = []
  in_order (x ∷ xs) = put_in_order x (in_order xs)
