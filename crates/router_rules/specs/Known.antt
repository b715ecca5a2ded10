-- Known senders, and previous hops (RFC 2205, 1.1 and 2.1; RFC 2209, 1: the PHOP of a PSB).
use Rattle.std.specs.Prelude.{◌≡◌, ◌==◌, Bool, true, cond, ◌&&◌, List, [], ◌∷◌, map as each, Some, None}
use Rattle.std.specs.List.{flat_map}
use Rattle.rsvp_base.specs.declared.session.Sender.{Sender}
use Rattle.rsvp_base.specs.declared.session.Session.{Session}
use Rattle.rsvp_base.specs.declared.style.StyleKind.{StyleKind}
use Rattle.rsvp_base.specs.declared.style.StyleKind.TheVariants.{Wild, Fixed, Shared}
use Rattle.rsvp_base.specs.Keys.{Keys, by, pairs}
use Rattle.rsvp_base.specs.Orders.{sessions, styles, Names}
use Rattle.rsvp_base.specs.Sets.{Set, set_of, union}
use Rattle.rsvp_base.specs.Table.{Table, keys, kept, changed}
use Rattle.style_rules.specs.Lines.{NextHop, next_hops}
use Rattle.rsvp_base.specs.Styles.{name_of}
use Rattle.router_rules.specs.Facts.{Facts, PathState, SenderKey, senders_in, paths_in}
use Rattle.router_rules.specs.NodeConfig.{is_addr}

-- the keys of the rows that pass a test
abbrev pub keys_where : {K X : Type 0} {o : Keys K} → (K → X → Bool) → Table o X → Set o
keys_where test m = changed (λ k x. cond (test k x) (Some tt) None) m

-- ---- known: a local sender, or one with a path
abbrev pub known : Facts → Session → Names
known f s = union (keys_where (λ x tspec. true) (senders_in f s)) (keys_where (λ x path. true) (paths_in f s))

-- the names under which a style lists senders
abbrev pub named_as : StyleKind → Names → Names
named_as st names = set_of (each (name_of st) (keys names))

-- ---- previous hops: an interface, and the address of the node behind it
abbrev pub came_by : NextHop → PathState → Bool
came_by hop x = (x.iface == hop.0) && is_addr x.hop.addr hop.1

-- the senders whose Paths come from a previous hop
abbrev pub via : Facts → Session → NextHop → Names
via f s hop = keys_where (λ x path. came_by hop path) (paths_in f s)

-- ---- lanes: a session, a style and a previous hop, toward which requests go
pub record Lane : Type 0 where
  pub session : Session
  pub style : StyleKind
  pub hop : NextHop

pub lane_apart : (a b : Lane) → ◌≡◌ {A = Session × (StyleKind × NextHop)} (a.session, (a.style, a.hop)) (b.session, (b.style, b.hop)) → a ≡ b
lane_apart a b e = λ i. record { session = (e i).0; style = (e i).1.0; hop = (e i).1.1 }

abbrev pub lane_keys : Keys Lane
lane_keys = by (λ (l : Lane). (l.session, (l.style, l.hop))) lane_apart (pairs sessions (pairs styles next_hops))

abbrev pub lanes_of : SenderKey × PathState → List Lane
lanes_of e = each (λ st. record { session = e.0.0; style = st; hop = (e.1.iface, e.1.hop.addr) }) (Wild ∷ Fixed ∷ Shared ∷ [])

abbrev pub lanes : Facts → Set lane_keys
lanes f = set_of (flat_map lanes_of f.paths.rows)

-- the names via a lane's hop that pass a test of their senders, and all of them
abbrev pub names_via_where : Facts → Lane → (Sender → Bool) → Names
names_via_where f l test = named_as l.style (kept test (via f l.session l.hop))

abbrev pub names_via : Facts → Lane → Names
names_via f l = named_as l.style (via f l.session l.hop)
