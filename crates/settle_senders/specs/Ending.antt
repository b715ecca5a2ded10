-- A host ends to send where receivers have what it sends: what nodes keep meanwhile, and whom it names in the end.
use Rattle.std.specs.Prelude.{◌≡◌, ℕ, ◌<◌, ◌≤◌, length, true, false, Some, slice_get}
use Rattle.rsvp_base.specs.declared.session.Sender.{Sender}
use Rattle.rsvp_base.specs.declared.session.Session.{Session}
use Rattle.rsvp_base.specs.declared.style.StyleKind.{StyleKind}
use Rattle.rsvp_base.specs.Members.{In}
use Rattle.rsvp_base.specs.Orders.{Names}
use Rattle.rsvp_base.specs.Styles.{name_of}
use Rattle.rsvp_base.specs.Table.{get, has}
use Rattle.rsvp_base.specs.TokenBucket.{TokenBucket}
use Rattle.rsvp_messages.specs.declared.message.Message.TheVariants as message
use Rattle.rsvp_messages.specs.declared.message.ResvErrMsg.{ResvErrMsg}
use Rattle.rsvp_messages.specs.declared.message.ResvMsg.{ResvMsg}
use Rattle.rsvp_messages.specs.Units.{AskedUnit, ask_style, asked_units}
use Rattle.style_rules.specs.Lines.{LineKey, held}
use Rattle.router_rules.specs.Books.{book}
use Rattle.router_rules.specs.Errors.{sets_walls}
use Rattle.router_rules.specs.Facts.{Facts, ResvState, resvs_of}
use Rattle.router_rules.specs.Inputs.{Spelt}
use Rattle.tree_model.specs.Goals.{demand_of}
use Rattle.tree_model.specs.Networks.{iface_of, node_of}
use Rattle.network_model.specs.Locals.{IsLive, locals_of}
use Rattle.network_model.specs.Sound.{IsSoundResv}
use Rattle.network_model.specs.Steps.{Step, arrived, outcome}
use Rattle.network_model.specs.Worlds.{Item, World}

-- each reservation of the later world is at most what was wanted over its hop in the earlier one
abbrev pub AreNoMoreThanWanted : World → World → Type 0
AreNoMoreThanWanted w u = (st : StyleKind) (n : ℕ) (f : Facts) (k : LineKey) (r : ResvState) → slice_get u.nodes n ≡ Some f → get (resvs_of st f) k ≡ Some r → IsSoundResv st w n k r

-- and the book of each end holds no more than its demand was
abbrev pub EndsHoldNoMore : World → World → Type 0
EndsHoldNoMore w u =
    (e : ℕ) (f : Facts) → e < length w.net.ends → slice_get u.nodes (node_of w.net.ends e) ≡ Some f → held (book f (iface_of w.net.ends e)) ≤ held (demand_of w.net (locals_of w) e)

-- somebody sends in the session under the name that it has in the style
pub record IsNameOfLive (w : World) (s : Session) (st : StyleKind) (x : Sender) : Type 0 where
  pub sender : Sender
  pub flow : TokenBucket
  pub live : IsLive w (s, sender) flow
  pub name : x ≡ name_of st sender

-- reservations name senders alone that send
abbrev pub AreNamesLive : World → Type 0
AreNamesLive w =
    (st : StyleKind) (n : ℕ) (f : Facts) (k : LineKey) (r : ResvState) (x : Sender) → slice_get w.nodes n ≡ Some f → get (resvs_of st f) k ≡ Some r → has r.part.senders x ≡ true
    → IsNameOfLive w k.0 st x

-- nor does a Resv in flight name anyone else
abbrev pub AreAsksOfLive : World → Type 0
AreAsksOfLive w =
    (y : Item) (m : ResvMsg) (v : AskedUnit) (names : Names) (x : Sender) → In y w.flight → y.arrival ≡ Spelt (message.Resv m) → In v (asked_units m.ask) → v.names ≡ Some names
    → has names x ≡ true → IsNameOfLive w m.session (ask_style m.ask) x

-- no ResvErr in flight sets a blockade: none with a flow says that something did not fit
abbrev pub SetNoBlockade : World → Type 0
SetNoBlockade w = (y : Item) (m : ResvErrMsg) → In y w.flight → y.arrival ≡ Spelt (message.ResvErr m) → sets_walls m ≡ false

-- whatever arrives by the step is taken for those that send: the reservation of a unit that lists such a name has it, and the flow that was
-- asked for
abbrev pub TakesForLive : ℕ → Step → World → Type 0
TakesForLive q s w =
    (y : Item) (m : ResvMsg) (f : Facts) (u : AskedUnit) (names : Names) (x : Sender) → arrived s w ≡ Some y → y.arrival ≡ Spelt (message.Resv m)
    → slice_get w.nodes (node_of w.net.ends y.end) ≡ Some f → In u (asked_units m.ask) → u.names ≡ Some names → has names x ≡ true → IsNameOfLive w m.session (ask_style m.ask) x
    → (r : ResvState) × (get (resvs_of (ask_style m.ask) (outcome q s w (node_of w.net.ends y.end) f).facts) (m.session, ((iface_of w.net.ends y.end, m.hop.addr), u.unit)) ≡ Some r)
    × (has r.part.senders x ≡ true) × (r.part.flow ≡ u.flow)
