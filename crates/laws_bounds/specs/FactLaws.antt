-- What the tests tell, and what is found where: the claims of the public laws on facts.
use Rattle.std.specs.Prelude.{◌≡◌, ℕ, ◌⊎◌, ◌↔◌, nat_lt, Bool, true, false, cond, ◌&&◌, ◌||◌, length, Some, None, IsTrue}
use Rattle.router_rules.specs.RsvpBase.declared.addr.Addr.{Addr}
use Rattle.router_rules.specs.RsvpBase.declared.session.Sender.{Sender}
use Rattle.router_rules.specs.RsvpBase.declared.session.Session.{Session}
use Rattle.router_rules.specs.RsvpBase.declared.style.StyleKind.{StyleKind}
use Rattle.router_rules.specs.RsvpBase.declared.style.Unit.{Unit as UnitOf}
use Rattle.router_rules.specs.RsvpBase.Members.{In}
use Rattle.router_rules.specs.RsvpBase.Orders.{Names, senders, units, entry_keys}
use Rattle.router_rules.specs.RsvpBase.SessionLimits.{IsWithinSessionLimits, has_room_at}
use Rattle.router_rules.specs.RsvpBase.Table.{empty, get, has, put_in, with_rows}
use Rattle.router_rules.specs.RsvpBase.TokenBucket.{TokenBucket}
use Rattle.router_rules.specs.Limits.{IsWithinLimits}
use Rattle.router_rules.specs.Lines.{Line, LineKey, NextHop, entry_key, at_end}
use Rattle.router_rules.specs.RsvpBase.declared.entry_key.EntryKey.{EntryKey}
use Rattle.router_rules.specs.Merge.{merge_at, PartTable}
use Rattle.router_rules.specs.RsvpBase.Styles.{name_of}
use Rattle.router_rules.specs.Toward.{Request, toward_at}
use Rattle.router_rules.specs.Books.{book, fits, line_of, lines, lines_of}
use Rattle.router_rules.specs.Facts.{Facts, SenderKey, PathState, Resvs, ResvState, Want, resvs_of}
use Rattle.router_rules.specs.Calls.{wanted}
use Rattle.router_rules.specs.Forgetting.{counted}
use Rattle.router_rules.specs.Known.{Lane, came_by, known, lanes, named_as, names_via, names_via_where, via}
use Rattle.router_rules.specs.Offers.{OfferKey, offer_at, offers}
use Rattle.router_rules.specs.NodeConfig.{NodeConfig, goes_out, is_addr, is_session}
use Rattle.router_rules.specs.Requests.{is_blockaded, is_style, requests, resv_part, toward, want_part}
use Rattle.router_rules.specs.Sends.{same_flow, same_parts}

-- ---- each test tells what it is the test of
pub record TestsTell : Type 0 where
  pub by_addr : (a b : Addr) → IsTrue (is_addr a b) ↔ (a ≡ b)
  pub by_session : (s t : Session) → IsTrue (is_session s t) ↔ (s ≡ t)
  pub by_style : (a b : StyleKind) → IsTrue (is_style a b) ↔ (a ≡ b)
  pub by_flow : (a b : TokenBucket) → IsTrue (same_flow a b) ↔ (a ≡ b)
  pub by_parts : (s t : PartTable) → IsTrue (same_parts s t) ↔ (s ≡ t)
  pub by_hop : (hop : NextHop) (x : PathState) → IsTrue (came_by hop x) ↔ ((x.iface ≡ hop.0) × (x.hop.addr ≡ hop.1))
  pub by_limits : (st : StyleKind) (t : Resvs) → IsTrue (fits st t) ↔ IsWithinLimits st (lines_of st t)

-- ---- known senders and previous hops
-- a path of the session's sender comes from the hop
pub record ComesBy (f : Facts) (s : Session) (hop : NextHop) (x : Sender) : Type 0 where
  pub path : PathState
  pub there : get f.paths (s, x) ≡ Some path
  pub by : came_by hop path ≡ true

-- a sender of the set that passes the test has the name
pub record IsNamed (st : StyleKind) (names : Names) (test : Sender → Bool) (x : Sender) : Type 0 where
  pub sender : Sender
  pub among : has names sender ≡ true
  pub passes : test sender ≡ true
  pub name : x ≡ name_of st sender

pub record KnownAndVia : Type 0 where
  pub known_by : (f : Facts) (s : Session) (x : Sender) → has (known f s) x ≡ (has f.senders (s, x) || has f.paths (s, x))
  pub via_by : (f : Facts) (s : Session) (hop : NextHop) (x : Sender) → (has (via f s hop) x ≡ true) ↔ ComesBy f s hop x
  pub named_by : (st : StyleKind) (names : Names) (x : Sender) → (has (named_as st names) x ≡ true) ↔ IsNamed st names (λ y. true) x
  pub names_by : (f : Facts) (l : Lane) (test : Sender → Bool) (x : Sender) → (has (names_via_where f l test) x ≡ true) ↔ IsNamed l.style (via f l.session l.hop) test x
  pub all_by : (f : Facts) (l : Lane) (x : Sender) → (has (names_via f l) x ≡ true) ↔ IsNamed l.style (via f l.session l.hop) (λ y. true) x
  pub lanes_by : (f : Facts) (l : Lane) → (has (lanes f) l ≡ true) ↔ ((x : Sender) × ComesBy f l.session l.hop x)
  pub counted_by : (f : Facts) (s : Session) → (has (counted f) s ≡ true) ↔ ((x : Sender) × (has (known f s) x ≡ true))

-- ---- offers
-- the sender's tree goes out of an interface that is there
abbrev pub is_way : NodeConfig → OfferKey → Bool
is_way p k = nat_lt k.iface (length p.ifaces) && goes_out p k.session k.iface k.sender

abbrev pub OffersByWay : Type 0
OffersByWay = (p : NodeConfig) (f : Facts) (k : OfferKey) → get (offers p f) k ≡ cond (is_way p k) (offer_at f k) None

-- ---- requests
pub record IsResvRequest (p : NodeConfig) (f : Facts) (l : Lane) (r : Request) : Type 0 where
  pub key : NextHop × UnitOf
  pub resv : ResvState
  pub there : get (resvs_of l.style f) (l.session, key) ≡ Some resv
  pub part : resv_part p f l (key, resv) ≡ Some r.part
  pub blockaded : r.blockaded ≡ is_blockaded l.style f.walls l r.part

pub record IsWantRequest (f : Facts) (l : Lane) (r : Request) : Type 0 where
  pub unit : UnitOf
  pub want : Want
  pub there : get f.wants (l.session, unit) ≡ Some want
  pub style : want.style ≡ l.style
  pub part : want_part l.style (names_via f l) want.part ≡ Some r.part
  pub blockaded : r.blockaded ≡ is_blockaded l.style f.walls l r.part

pub record RequestsAndToward : Type 0 where
  pub each : (p : NodeConfig) (f : Facts) (l : Lane) (r : Request) → In r (requests p f l) ↔ (IsResvRequest p f l r ⊎ IsWantRequest f l r)
  pub at : (p : NodeConfig) (f : Facts) (l : Lane) (u : UnitOf) → get (toward p f l) u ≡ toward_at l.style (requests p f l) u
  -- nothing goes toward a hop from which no path comes
  pub nowhere : (p : NodeConfig) (f : Facts) (l : Lane) → has (lanes f) l ≡ false → toward p f l ≡ empty

-- ---- the book
pub record IsLine (f : Facts) (line : Line) : Type 0 where
  pub style : StyleKind
  pub key : LineKey
  pub resv : ResvState
  pub there : get (resvs_of style f) key ≡ Some resv
  pub is : line ≡ line_of style (key, resv)

pub record BooksAndLines : Type 0 where
  pub each : (f : Facts) (line : Line) → In line (lines f) ↔ IsLine f line
  pub at : (f : Facts) (i : ℕ) (k : EntryKey) → get (book f i) k ≡ merge_at entry_keys entry_key (λ l. l.part) k (at_end i (lines f))

-- ---- limits by session: a table within them, changed at one session, is within them exactly where the test there passes
pub record RoomTells : Type 0 where
  pub of_senders : (f : Facts) (k : SenderKey) (tspec : TokenBucket) → IsWithinSessionLimits senders f.senders
      → IsTrue (has_room_at senders (put_in f.senders k tspec) k.0) ↔ IsWithinSessionLimits senders (put_in f.senders k tspec)
  pub of_paths : (f : Facts) (k : SenderKey) (x : PathState) → IsWithinSessionLimits senders f.paths
      → IsTrue (has_room_at senders (put_in f.paths k x) k.0) ↔ IsWithinSessionLimits senders (put_in f.paths k x)
  pub of_wants : (f : Facts) (s : Session) (st : StyleKind) (names : Names) (flow : TokenBucket) (mark : Bool) → IsWithinSessionLimits units f.wants
      → IsTrue (has_room_at units (with_rows f.wants (wanted s st names flow mark)) s) ↔ IsWithinSessionLimits units (with_rows f.wants (wanted s st names flow mark))
