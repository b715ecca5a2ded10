-- What a node makes of where a message came, of messages that are not spelt, and of errors: the claims of the public laws.
use Rattle.std.specs.Prelude.{◌≡◌, ℕ, ◌<◌, ◌≤◌, ◌⊎◌, ◌↔◌, true, false, [], ◌∷◌, List, map as each, Option, Some, None, IsTrue}
use Rattle.std.specs.FinMap.Entries.{is_sorted}
use Rattle.std.specs.Ordering.{is_lt}
use Rattle.rsvp_base.specs.declared.addr.Addr.{Addr}
use Rattle.rsvp_base.specs.declared.err_spec.ErrSpec.{ErrSpec}
use Rattle.rsvp_base.specs.declared.hop.Hop.{Hop}
use Rattle.rsvp_base.specs.declared.session.Sender.{Sender}
use Rattle.rsvp_base.specs.declared.session.Session.{Session}
use Rattle.rsvp_base.specs.declared.style.StyleKind.{StyleKind}
use Rattle.rsvp_base.specs.declared.style.Unit.{Unit as UnitOf}
use Rattle.rsvp_base.specs.Members.{In}
use Rattle.rsvp_base.specs.Orders.{Names, units}
use Rattle.rsvp_base.specs.Sets.{listed}
use Rattle.rsvp_base.specs.Table.{get, has, size}
use Rattle.rsvp_base.specs.TokenBucket.{TokenBucket}
use Rattle.router_rules.specs.Lines.{NextHop, next_hops}
use Rattle.router_rules.specs.RsvpMessages.declared.fault.MsgErr.{MsgErr}
use Rattle.router_rules.specs.RsvpMessages.declared.message.Kind.TheVariants as kind
use Rattle.router_rules.specs.RsvpMessages.declared.message.Message.{Message}
use Rattle.router_rules.specs.RsvpMessages.declared.message.PathErrMsg.{PathErrMsg}
use Rattle.router_rules.specs.RsvpMessages.declared.message.ResvErrMsg.{ResvErrMsg}
use Rattle.router_rules.specs.declared.answers.Heard.TheVariants as heard
use Rattle.router_rules.specs.declared.answers.Why.TheVariants as why
use Rattle.router_rules.specs.Act.{act, act_message, is_mine}
use Rattle.router_rules.specs.Asking.{answered, as_listed}
use Rattle.router_rules.specs.Errors.{act_path_err, act_resv_err, act_unspelt, fault_code, blamed, error_to, errors_on, is_told, lane_of, reply_to, sets_walls, walled_by, walls_with}
use Rattle.router_rules.specs.Errors.{blockade_of, is_admission}
use Rattle.router_rules.specs.Facts.{Facts, PathState, ResvState, Walls, resvs_of, Blockade}
use Rattle.router_rules.specs.Targets.{WallKey}
use Rattle.router_rules.specs.Inputs.{Came, Change, ErrSend, OfPath, OfResv, Spelt, Unspelt, only_heard}
use Rattle.router_rules.specs.Known.{Lane}
use Rattle.router_rules.specs.NodeConfig.{NodeConfig, goes_out, own}
use Rattle.laws_bounds.specs.FactLaws.{ComesBy}

-- ---- a message for others changes nothing, and one for this node is handled by its kind
pub record ArrivalsByAddress : Type 0 where
  pub not_mine : (p : NodeConfig) (c e : ℕ) (dst : Addr) (m : Message) (f : Facts) → is_mine p e dst m ≡ false → act p c (Came e dst (Spelt m)) f ≡ only_heard (heard.Dropped why.NotMine) f
  pub mine : (p : NodeConfig) (c e : ℕ) (dst : Addr) (m : Message) (f : Facts) → is_mine p e dst m ≡ true → act p c (Came e dst (Spelt m)) f ≡ act_message p c e m f
  pub unspelt : (p : NodeConfig) (c e : ℕ) (dst : Addr) (m : MsgErr) (f : Facts) → act p c (Came e dst (Unspelt m)) f ≡ act_unspelt p e dst m f

-- ---- messages that are not spelt
-- the error that the node makes of a fault at an interface
abbrev pub fault_at : NodeConfig → ℕ → ℕ × ℕ → ErrSpec
fault_at p e code = record { node = own p e; in_place = false; not_guilty = false; code = code.0; value = code.1 }

-- to the hop that sent it, with the sender of a Path, or the style of a Resv
abbrev pub path_reply : NodeConfig → ℕ → ℕ × ℕ → Session → Hop → Option Sender → ErrSend
path_reply p e code s h x = record { iface = e; dst = h.addr; error = OfPath (record { session = s; err = fault_at p e code; sender = x }) }

abbrev pub resv_reply : NodeConfig → ℕ → ℕ × ℕ → Session → Hop → StyleKind → ErrSend
resv_reply p e code s h st = record {
  iface = e;
  dst = h.addr;
  error = OfResv (record {
    session = s;
    hop = record { addr = own p e; handle = 0 };
    err = fault_at p e code;
    blame = record { style = st; senders = None; flow = None };
  });
}

module _ (p : NodeConfig) (e : ℕ) (dst : Addr) (m : MsgErr) (s : ErrSend) where
  -- a Path that came to its group is answered to its hop, with its sender
  pub record IsPathReply : Type 0 where
    pub session : Session
    pub hop : Hop
    pub code : ℕ × ℕ
    pub of_kind : m.kind ≡ Some kind.Path
    pub of : m.hint.session ≡ Some session
    pub by : m.hint.hop ≡ Some hop
    pub told : fault_code kind.Path m.fault ≡ Some code
    pub mine : dst ≡ session.group
    pub is : s ≡ path_reply p e code session hop m.hint.sender

  -- a Resv that came to this node is answered to its hop, without senders and flow
  pub record IsResvReply : Type 0 where
    pub session : Session
    pub hop : Hop
    pub style : StyleKind
    pub code : ℕ × ℕ
    pub of_kind : m.kind ≡ Some kind.Resv
    pub of : m.hint.session ≡ Some session
    pub by : m.hint.hop ≡ Some hop
    pub in_style : m.hint.style ≡ Some style
    pub told : fault_code kind.Resv m.fault ≡ Some code
    pub mine : dst ≡ own p e
    pub is : s ≡ resv_reply p e code session hop style

-- a fault is answered in these two cases alone, and nothing changes
pub record FaultsByHint : Type 0 where
  pub reply : (p : NodeConfig) (e : ℕ) (dst : Addr) (m : MsgErr) (s : ErrSend) → (reply_to p e dst m ≡ Some s) ↔ (IsPathReply p e dst m s ⊎ IsResvReply p e dst m s)
  pub told : (p : NodeConfig) (e : ℕ) (dst : Addr) (m : MsgErr) (f : Facts) (s : ErrSend) → reply_to p e dst m ≡ Some s
      → act_unspelt p e dst m f ≡ record (only_heard (answered s.error) f) { errors = s ∷ [] }
  pub dropped : (p : NodeConfig) (e : ℕ) (dst : Addr) (m : MsgErr) (f : Facts) → reply_to p e dst m ≡ None → act_unspelt p e dst m f ≡ only_heard (heard.Dropped why.Unspelt) f

-- ---- a PathErr is dropped for one of three reasons, ends at a local sender, or goes back along the path
pub record PathErrsByTests : Type 0 where
  pub no_sender : (p : NodeConfig) (e : ℕ) (m : PathErrMsg) (f : Facts) → m.sender ≡ None → act_path_err p e m f ≡ only_heard (heard.Dropped why.NoSender) f
  pub not_outward : (p : NodeConfig) (e : ℕ) (m : PathErrMsg) (f : Facts) (x : Sender) → m.sender ≡ Some x → goes_out p m.session e x ≡ false
      → act_path_err p e m f ≡ only_heard (heard.Dropped why.NotOutward) f
  pub local : (p : NodeConfig) (e : ℕ) (m : PathErrMsg) (f : Facts) (x : Sender) → m.sender ≡ Some x → goes_out p m.session e x ≡ true
      → has f.senders (m.session, x) ≡ true → act_path_err p e m f ≡ only_heard heard.Taken f
  pub no_state : (p : NodeConfig) (e : ℕ) (m : PathErrMsg) (f : Facts) (x : Sender) → m.sender ≡ Some x → goes_out p m.session e x ≡ true
      → has f.senders (m.session, x) ≡ false → get f.paths (m.session, x) ≡ None
      → act_path_err p e m f ≡ only_heard (heard.Dropped why.NoState) f
  pub on : (p : NodeConfig) (e : ℕ) (m : PathErrMsg) (f : Facts) (x : Sender) (path : PathState) → m.sender ≡ Some x
      → goes_out p m.session e x ≡ true → has f.senders (m.session, x) ≡ false → get f.paths (m.session, x) ≡ Some path
      → act_path_err p e m f ≡ record (only_heard heard.Taken f) { errors = (record { iface = path.iface; dst = path.hop.addr; error = OfPath m }) ∷ [] }

-- ---- a ResvErr is dropped where no previous hop of its session sent it, or where its blockades do not all fit; else it sets
-- them, and goes on as they then stand
abbrev pub walls_set : NodeConfig → ℕ → ℕ → ResvErrMsg → Facts → Walls
walls_set p c e m f = walls_with p c e m m.blame.flow f.walls

-- what it does where a previous hop sent it and all of its blockades fit
abbrev pub errors_with : NodeConfig → ℕ → ℕ → ResvErrMsg → Facts → Change
errors_with p c e m f = record (only_heard heard.Taken (record f { walls = walls_set p c e m f })) { errors = errors_on p (record f { walls = walls_set p c e m f }) (lane_of e m) m }

pub record ResvErrsByTests : Type 0 where
  pub no_state : (p : NodeConfig) (c e : ℕ) (m : ResvErrMsg) (f : Facts) → ((x : Sender) → ComesBy f m.session (e, m.hop.addr) x → ⊥)
      → act_resv_err p c e m f ≡ only_heard (heard.Dropped why.NoState) f
  pub full : (p : NodeConfig) (c e : ℕ) (m : ResvErrMsg) (f : Facts) (x : Sender) → ComesBy f m.session (e, m.hop.addr) x → sets_walls m ≡ true
      → 512 < size (walls_set p c e m f) → act_resv_err p c e m f ≡ only_heard (heard.Dropped why.Full) f
  pub taken : (p : NodeConfig) (c e : ℕ) (m : ResvErrMsg) (f : Facts) (x : Sender) → ComesBy f m.session (e, m.hop.addr) x → size (walls_set p c e m f) ≤ 512
      → act_resv_err p c e m f ≡ errors_with p c e m f
  -- it does one of the three
  pub one : (p : NodeConfig) (c e : ℕ) (m : ResvErrMsg) (f : Facts)
      → (act_resv_err p c e m f ≡ only_heard (heard.Dropped why.NoState) f)
      ⊎ (((x : Sender) × ComesBy f m.session (e, m.hop.addr) x)
      × ((act_resv_err p c e m f ≡ only_heard (heard.Dropped why.Full) f) ⊎ (act_resv_err p c e m f ≡ errors_with p c e m f)))
  -- one that sets none is not tested for room
  pub sets_none : (p : NodeConfig) (c e : ℕ) (m : ResvErrMsg) (f : Facts) → sets_walls m ≡ false → walls_set p c e m f ≡ f.walls
  pub taken_too : (p : NodeConfig) (c e : ℕ) (m : ResvErrMsg) (f : Facts) (x : Sender) → ComesBy f m.session (e, m.hop.addr) x → sets_walls m ≡ false
      → act_resv_err p c e m f ≡ record (only_heard heard.Taken f) { errors = errors_on p f (lane_of e m) m }
  -- a blockade of something else stays
  pub beside : (p : NodeConfig) (c e : ℕ) (m : ResvErrMsg) (f : Facts) (k : WallKey) → (In k (walled_by e m m.blame.style) → ⊥) → get (walls_set p c e m f) k ≡ get f.walls k

-- ---- next hops, each once and in order
abbrev pub AreOnce : List NextHop → Type 0
AreOnce hops = IsTrue (is_sorted next_hops.cmp (listed hops))

-- a reservation of the hop and unit that the error speaks of, and whom of it the error blames
pub record IsSpokenOf (p : NodeConfig) (f : Facts) (l : Lane) (m : ResvErrMsg) (hop : NextHop) (unit : UnitOf) (names : Option Names) : Type 0 where
  pub resv : ResvState
  pub there : get (resvs_of l.style f) (l.session, (hop, unit)) ≡ Some resv
  pub told : is_told p f l m ((hop, unit), resv) ≡ true
  pub blames : blamed l.style m.blame.senders resv.part.senders ≡ as_listed names

-- the error to a next hop, with those who are blamed of the last of its units that the error speaks of
pub record IsErrorTo (p : NodeConfig) (f : Facts) (l : Lane) (m : ResvErrMsg) (e : ErrSend) : Type 0 where
  pub hop : NextHop
  pub unit : UnitOf
  pub names : Option Names
  pub spoken : IsSpokenOf p f l m hop unit names
  pub last : (v : UnitOf) (others : Option Names) → IsSpokenOf p f l m hop v others → is_lt (units.cmp unit v) ≡ false
  pub is : error_to p m hop (as_listed names) ≡ Some (hop, e)

-- each next hop of a reservation that is spoken of is told, once, and nobody else
pub record ErrorsOnceEach : Type 0 where
  pub exactly : (p : NodeConfig) (f : Facts) (l : Lane) (m : ResvErrMsg) (e : ErrSend) → In e (errors_on p f l m) ↔ IsErrorTo p f l m e
  pub told : (p : NodeConfig) (f : Facts) (l : Lane) (m : ResvErrMsg) (hop : NextHop) (unit : UnitOf) (names : Option Names)
      → IsSpokenOf p f l m hop unit names → (e : ErrSend) × In e (errors_on p f l m) × (e.iface ≡ hop.0) × (e.dst ≡ hop.1)
  pub once : (p : NodeConfig) (f : Facts) (l : Lane) (m : ResvErrMsg) → AreOnce (each (λ (e : ErrSend). (e.iface, e.dst)) (errors_on p f l m))

-- ---- what errors blockade
pub record ErrorsAndWalls : Type 0 where
  -- a blockade was there, or the error set it
  pub source : (p : NodeConfig) (c e : ℕ) (m : ResvErrMsg) (w : Walls) (k : WallKey) (b : Blockade) → get (walls_with p c e m m.blame.flow w) k ≡ Some b
      → (get w k ≡ Some b) ⊎ ((flow : TokenBucket) × (m.blame.flow ≡ Some flow) × (is_admission m.err ≡ true) × In k (walled_by e m m.blame.style) × (b ≡ blockade_of p c m flow))
  pub set : (p : NodeConfig) (c e : ℕ) (m : ResvErrMsg) (w : Walls) (k : WallKey) (flow : TokenBucket) → is_admission m.err ≡ true
      → In k (walled_by e m m.blame.style) → get (walls_with p c e m (Some flow) w) k ≡ Some (blockade_of p c m flow)
