-- A line of nodes s, r, t with a sender at s and a receiver at t, and the same with a second receiver at u behind r: what
-- the worked rows speak of. Their link ends are s1-r1, r2-t1 and r3-u1, of 10,000 bytes per second unless it is said.
use Rattle.std.specs.Prelude.{ℕ, ◌+◌, ◌*◌, Bool, true, false, List, [], ◌∷◌, Option, Some, None}
use Rattle.rsvp_base.specs.declared.iface.Iface.{Iface}
use Rattle.rsvp_base.specs.declared.addr.Addr.{Addr}
use Rattle.rsvp_base.specs.declared.err_spec.ErrSpec.{ErrSpec}
use Rattle.rsvp_base.specs.declared.flow.Peak.TheVariants.{Infinite}
use Rattle.rsvp_base.specs.declared.session.Sender.{Sender}
use Rattle.rsvp_base.specs.declared.session.Session.{Session}
use Rattle.rsvp_base.specs.declared.style.StyleKind.{StyleKind}
use Rattle.rsvp_base.specs.Orders.{Names}
use Rattle.rsvp_base.specs.Sets.{set_of}
use Rattle.rsvp_base.specs.TokenBucket.{TokenBucket}
use Rattle.router_rules.specs.RsvpMessages.declared.ask.Ask.{Ask}
use Rattle.router_rules.specs.RsvpMessages.declared.ask.Ask.TheVariants as ask
use Rattle.router_rules.specs.RsvpMessages.declared.message.Message.{Message}
use Rattle.router_rules.specs.RsvpMessages.declared.message.Message.TheVariants as message
use Rattle.router_rules.specs.Facts.{Facts}
use Rattle.router_rules.specs.Inputs.{Call, Came, Local, Send, Spelt, Wait}
use Rattle.router_rules.specs.NodeConfig.{NodeConfig}
use Rattle.router_rules.specs.Rule.{Outcome, rule}

abbrev pub ip : ℕ → ℕ → ℕ → ℕ → Addr
ip a b c d = record { 0 = ((a * 256 + b) * 256 + c) * 256 + d }

-- ---- addresses of the link ends
abbrev pub s1 : Addr
s1 = ip 10 0 1 1

abbrev pub r1 : Addr
r1 = ip 10 0 1 2

abbrev pub r2 : Addr
r2 = ip 10 0 2 1

abbrev pub t1 : Addr
t1 = ip 10 0 2 2

abbrev pub r3 : Addr
r3 = ip 10 0 3 1

abbrev pub u1 : Addr
u1 = ip 10 0 3 2

-- ---- the session 239.1.1.1/17/5004 with senders 10.0.1.1:5004 and 10.0.1.1:5006
abbrev pub group : Addr
group = ip 239 1 1 1

abbrev pub session : Session
session = record { group = group; proto = 17; port = 5004 }

abbrev pub first : Sender
first = record { addr = s1; port = 5004 }

abbrev pub second : Sender
second = record { addr = s1; port = 5006 }

-- the address of both, as a wildcard filter names it
abbrev pub scope : Names
scope = set_of ((record { addr = s1; port = 0 }) ∷ [])

abbrev pub flow : ℕ → ℕ → ℕ → ℕ → TokenBucket
flow r b low most = record { r = r; b = b; p = Infinite; low = low; most = most }

-- what the first sender sends
abbrev pub usual : TokenBucket
usual = flow 1000 2000 64 1500

-- ---- nodes: a quarter of 30 seconds, interfaces, and the tree of 10.0.1.1
abbrev pub iface : Addr → ℕ → Iface
iface addr capacity = record { addr = addr; capacity = capacity; mtu = 1500; latency = 0 }

abbrev pub node : List Iface → Option ℕ → ℕ → NodeConfig
node ifaces inward outward = record { quarter = 7500; ifaces = ifaces; routes = (record { group = group; source = s1; inward = inward; outward = outward }) ∷ [] }

abbrev pub node_s : ℕ → NodeConfig
node_s capacity = node (iface s1 capacity ∷ []) None 1

-- in the line, with the capacity of r2
abbrev pub node_r : ℕ → NodeConfig
node_r capacity = node (iface r1 10000 ∷ iface r2 capacity ∷ []) (Some 0) 2

abbrev pub node_t : NodeConfig
node_t = node (iface t1 10000 ∷ []) (Some 0) 0

-- with two receivers behind it
abbrev pub fork_r : NodeConfig
fork_r = node (iface r1 10000 ∷ iface r2 10000 ∷ iface r3 10000 ∷ []) (Some 0) 6

-- ---- inputs
abbrev pub came : NodeConfig → ℕ → ℕ → Addr → Message → Facts → Outcome
came p clock e dst m f = rule p p clock (Came e dst (Spelt m)) f

abbrev pub waited : NodeConfig → ℕ → ℕ → ℕ → Facts → Outcome
waited p clock ms word f = rule p p clock (Wait ms word) f

abbrev pub called : NodeConfig → ℕ → Local → Facts → Outcome
called p clock l f = rule p p clock (Call l) f

-- ---- messages, whose hops have handle 0 and whose period is 30 seconds
abbrev pub path : Bool → Addr → Sender → TokenBucket → Message
path police hop x tspec = message.Path (record { session = session; police = police; hop = record { addr = hop; handle = 0 }; period = 30000; sender = Some (x, tspec); adspec = None })

abbrev pub resv : Addr → Option Addr → Ask → Message
resv hop confirm a = message.Resv (record { session = session; hop = record { addr = hop; handle = 0 }; period = 30000; confirm = confirm; ask = a })

abbrev pub wild : TokenBucket → Ask
wild f = ask.Wild (Some scope) f

abbrev pub shared : List Sender → TokenBucket → Ask
shared names f = ask.Shared (record { senders = set_of names; flow = f })

abbrev pub error : Addr → Bool → ℕ → ℕ → ErrSpec
error node in_place code value = record { node = node; in_place = in_place; not_guilty = false; code = code; value = value }

abbrev pub resv_err : Addr → ErrSpec → StyleKind → Option Names → Option TokenBucket → Message
resv_err hop err st names f = message.ResvErr (record { session = session; hop = record { addr = hop; handle = 0 }; err = err; blame = record { style = st; senders = names; flow = f } })

abbrev pub conf : Addr → Addr → Ask → Message
conf node confirm a = message.ResvConf (record { session = session; err = error node false 0 0; confirm = confirm; ask = a })

abbrev pub path_tear : Addr → Sender → Message
path_tear hop x = message.PathTear (record { session = session; hop = record { addr = hop; handle = 0 }; sender = Some x })

abbrev pub sent : ℕ → Addr → Message → Send
sent i dst m = record { iface = i; dst = dst; message = m; refresh = false }

abbrev pub refreshed : ℕ → Addr → Message → Send
refreshed i dst m = record { iface = i; dst = dst; message = m; refresh = true }
