-- What is in flight in a network that has settled (RFC 2205, 3.7): refreshes, and what may go round for good.
use Rattle.std.specs.Prelude.{◌≡◌, ◌⊎◌, ℕ, ◌+◌, ◌*◌, false, None, Some, slice_get}
use Rattle.rsvp_base.specs.declared.session.Sender.{Sender}
use Rattle.rsvp_base.specs.declared.session.Session.{Session}
use Rattle.rsvp_base.specs.declared.style.StyleKind.{StyleKind}
use Rattle.rsvp_base.specs.declared.style.StyleKind.TheVariants.{Wild}
use Rattle.rsvp_base.specs.Members.{In}
use Rattle.rsvp_base.specs.Table.{get}
use Rattle.rsvp_messages.specs.declared.fault.MsgErr.{MsgErr}
use Rattle.rsvp_messages.specs.declared.message.Message.TheVariants as message
use Rattle.rsvp_messages.specs.declared.message.PathMsg.{PathMsg}
use Rattle.rsvp_messages.specs.declared.message.ResvConfMsg.{ResvConfMsg}
use Rattle.rsvp_messages.specs.declared.message.ResvErrMsg.{ResvErrMsg}
use Rattle.rsvp_messages.specs.declared.message.ResvMsg.{ResvMsg}
use Rattle.style_rules.specs.Lines.{LineKey}
use Rattle.router_rules.specs.Facts.{Facts, ResvState, Want, WantKey, resvs_of}
use Rattle.router_rules.specs.Inputs.{Spelt, Unspelt}
use Rattle.tree_model.specs.Wants.{live}
use Rattle.network_model.specs.Locals.{locals_of}
use Rattle.network_model.specs.Worlds.{Item, World}

-- ---- refreshes
-- a Path, or a Resv that asks for no confirmation
abbrev pub IsRefresh : Item → Type 0
IsRefresh y = ((m : PathMsg) × (y.arrival ≡ Spelt (message.Path m))) ⊎ ((m : ResvMsg) × (y.arrival ≡ Spelt (message.Resv m)) × (m.confirm ≡ None))

-- nothing else is in flight: no error, no tear and no confirmation
abbrev pub HasOnlyRefreshes : World → Type 0
HasOnlyRefreshes w = (y : Item) → In y w.flight → IsRefresh y

-- ---- what may go round: it goes on to reservations of each sender's tree, whichever tree it came along
-- a ResvErr with a fixed or a shared filter that names nobody: it is for all
abbrev pub IsForAll : ResvErrMsg → Type 0
IsForAll m = (m.blame.senders ≡ None) × (m.blame.style ≡ Wild → ⊥)

abbrev pub IsErrorForAll : Session → Item → Type 0
IsErrorForAll s y = (m : ResvErrMsg) × (y.arrival ≡ Spelt (message.ResvErr m)) × (m.session ≡ s) × IsForAll m

abbrev pub IsConfirmation : Session → Item → Type 0
IsConfirmation s y = (m : ResvConfMsg) × (y.arrival ≡ Spelt (message.ResvConf m)) × (m.session ≡ s)

abbrev pub MayGoRound : Item → Type 0
MayGoRound y = (s : Session) × (IsErrorForAll s y ⊎ IsConfirmation s y)

-- each item in flight is a refresh, or may go round
abbrev pub HasNothingElse : World → Type 0
HasNothingElse w = (y : Item) → In y w.flight → IsRefresh y ⊎ MayGoRound y

-- ---- what cannot go round
-- the session has one live sender at most
abbrev pub HasOneSender : World → Session → Type 0
HasOneSender w s = (x y : Sender) → In x (live (locals_of w) s) → In y (live (locals_of w) s) → x ≡ y

-- bytes that spell no message, of a Resv of the session with a fixed or a shared filter: such are answered by a ResvErr for all
abbrev pub IsBadResv : Session → Item → Type 0
IsBadResv s y = (e : MsgErr) × (y.arrival ≡ Unspelt e) × (e.hint.session ≡ Some s) × (st : StyleKind) × (e.hint.style ≡ Some st) × (st ≡ Wild → ⊥)

abbrev pub HasNoErrorForAll : World → Session → Type 0
HasNoErrorForAll w s = (y : Item) → In y w.flight → (IsErrorForAll s y → ⊥) × (IsBadResv s y → ⊥)

-- nobody waits for a confirmation: no reservation keeps an address for one, no want has a mark, and no Resv in flight asks for one
pub record NobodyWaits (w : World) : Type 0 where
  pub resvs : (n : ℕ) (f : Facts) (st : StyleKind) (k : LineKey) (r : ResvState) → slice_get w.nodes n ≡ Some f → get (resvs_of st f) k ≡ Some r
      → r.confirm ≡ None
  pub wants : (n : ℕ) (f : Facts) (k : WantKey) (x : Want) → slice_get w.nodes n ≡ Some f → get f.wants k ≡ Some x → x.confirm ≡ false
  pub items : (y : Item) (m : ResvMsg) → In y w.flight → y.arrival ≡ Spelt (message.Resv m) → m.confirm ≡ None

-- nothing goes round: of each session with several senders no ResvErr for all is in flight, and nothing that is answered by one; and each
-- session has one sender at most, or nobody waits
pub record NothingGoesRound (w : World) : Type 0 where
  pub errors : (s : Session) → HasOneSender w s ⊎ HasNoErrorForAll w s
  pub confirmations : ((s : Session) → HasOneSender w s) ⊎ NobodyWaits w

-- 14 H + 15 calm rounds, H the length of the longest chain of hops
abbrev pub to_refreshes : ℕ → ℕ
to_refreshes long = 14 * long + 15
