-- Waves: how much is in flight when a network opens. Each Resv in flight that changes what is kept is counted once for each sender whose tree has
-- the hop that it goes back over: these senders pay for it. What it makes a node ask for goes back over the hops before, which share these
-- senders out: no sender's tree has two of them. So the count does not rise.
use Rattle.std.specs.Prelude.{◌≡◌, ℕ, ◌+◌, ◌==◌, ◌&&◌, Bool, false, List, [], length, None, Some, slice_get, sum_by}
use Rattle.std.specs.List.{filter, list_any}
use Rattle.rsvp_base.specs.declared.addr.Addr.{Addr}
use Rattle.rsvp_base.specs.declared.session.Sender.{Sender}
use Rattle.rsvp_base.specs.declared.session.Session.{Session}
use Rattle.rsvp_base.specs.Members.{In}
use Rattle.rsvp_base.specs.Table.{get, has}
use Rattle.rsvp_messages.specs.declared.message.Message.{Message}
use Rattle.rsvp_messages.specs.declared.message.Message.TheVariants as message
use Rattle.rsvp_messages.specs.declared.message.PathMsg.{PathMsg}
use Rattle.router_rules.specs.Facts.{Facts, PathState, SenderKey}
use Rattle.router_rules.specs.Inputs.{AdvertAs, Arrival, DropAs, Local, QuitAll, SendAs, Spelt, Unspelt, WantAs}
use Rattle.router_rules.specs.NodeConfig.{is_addr}
use Rattle.tree_model.specs.declared.hops.LinkHop.{LinkHop}
use Rattle.tree_model.specs.declared.locals.LocalSender.{LocalSender}
use Rattle.tree_model.specs.Goals.{addr_of}
use Rattle.tree_model.specs.Networks.{Net, peers}
use Rattle.tree_model.specs.Ranks.{Follows}
use Rattle.tree_model.specs.Trees.{goes_out_of, tree}
use Rattle.tree_model.specs.Wants.{Locals, live}
use Rattle.network_model.specs.Worlds.{Item, World}

-- ---- networks: no link has more than two ends; and where a hop follows another in some tree of a group, each tree of the group that has the one
-- before has both
abbrev pub AreWired : Net → Type 0
AreWired net = (a b c : ℕ) → In b (peers net.links a) → In c (peers net.links a) → b ≡ c

abbrev pub AreNested : Net → Type 0
AreNested net = (g : Addr) (h h' : LinkHop) → Follows net g h h' → (source : Addr) → In h (tree net.hops g source) → In h' (tree net.hops g source)

-- ---- who pays
-- the hop goes out of the end, to the end of this address
abbrev pub is_back : Net → ℕ → Addr → LinkHop → Bool
is_back net e a h = (h.from == e) && is_addr (addr_of net h.to) a

-- the sender's tree has such a hop
abbrev pub goes_from : Net → Session → ℕ → Addr → Sender → Bool
goes_from net s e a x = list_any (is_back net e a) (tree net.hops s.group x.addr)

abbrev pub senders_over : Net → Locals → Session → ℕ → Addr → List Sender
senders_over net l s e a = filter (goes_from net s e a) (live l s)

-- who pays for a message that comes to an end: for a Resv the senders whose trees have the hop from that end to the address it came from, and for
-- a Path all senders of its session
abbrev pub payers_of : Net → Locals → ℕ → Message → List Sender
payers_of net l e (message.Path m) = live l m.session
payers_of net l e (message.Resv m) = senders_over net l m.session e m.hop.addr
payers_of net l e (message.PathErr m) = []
payers_of net l e (message.ResvErr m) = []
payers_of net l e (message.PathTear m) = []
payers_of net l e (message.ResvTear m) = []
payers_of net l e (message.ResvConf m) = []

abbrev pub payers_by : Net → Locals → ℕ → Arrival → List Sender
payers_by net l e (Spelt m) = payers_of net l e m
payers_by net l e (Unspelt m) = []

abbrev pub payers : Net → Locals → Item → List Sender
payers net l y = payers_by net l y.end y.arrival

-- ---- nobody advertises: no node tells what a path offers, no path keeps it, and no Path in flight carries it
pub record HasNoAdverts (w : World) : Type 0 where
  pub own : (n : ℕ) (f : Facts) (k : SenderKey) → slice_get w.nodes n ≡ Some f → has f.advertised k ≡ false
  pub paths : (n : ℕ) (f : Facts) (k : SenderKey) (x : PathState) → slice_get w.nodes n ≡ Some f → get f.paths k ≡ Some x → x.adspec ≡ None
  pub items : (y : Item) (m : PathMsg) → In y w.flight → y.arrival ≡ Spelt (message.Path m) → m.adspec ≡ None

-- ---- how much may be in flight
-- over each hop of a sender's tree: as many as the session has senders, for what is news there, and four refreshes, a Path and a Resv of each style
abbrev pub sender_room : Net → Locals → LocalSender → ℕ
sender_room net l x = sum_by (λ (h : LinkHop). length (live l x.session) + 4) (tree net.hops x.session.group x.sender.addr)

abbrev pub room_of : Net → Locals → ℕ
room_of net l = sum_by (sender_room net l) l.senders

-- how many pay for these, each counted for each item
abbrev pub paid_for : Net → Locals → List Item → ℕ
paid_for net l ys = sum_by (λ y. length (payers net l y)) ys

-- what pays for what a call puts in flight before anything is delivered: over each hop out of the node of the sender that begins
abbrev pub call_price : Net → Locals → ℕ → Local → ℕ
call_price net l n (SendAs s x t) = sum_by (λ (h : LinkHop). length (live l s)) (filter (goes_out_of net.ends n) (tree net.hops s.group x.addr))
call_price net l n (DropAs s x) = 0
call_price net l n (AdvertAs s x) = 0
call_price net l n (WantAs s st names flow mark) = 0
call_price net l n (QuitAll s) = 0
