-- The values that the words of lines stand for.
use Rattle.std.specs.Prelude.{◌≡◌, ℕ, ◌≤◌, ◌<◌, ◌^◌, ◌%◌, ◌⊎◌, false, List, map as each, None}
use Rattle.std.specs.List.{All}
use Rattle.rsvp_base.specs.Orders.{Names, names_from}
use Rattle.rsvp_base.specs.Table.{keys}
use Rattle.rsvp_base.specs.declared.part.Part.{Part}
use Rattle.rsvp_base.specs.declared.session.Sender.{Sender}
use Rattle.rsvp_base.specs.declared.style.StyleKind.{StyleKind}
use Rattle.script_words.specs.declared.raw.SenderWord.{SenderWord}
use Rattle.script_words.specs.Addresses.{IsAddr, IsGroup, IsHost, addr_value}
use Rattle.script_words.specs.Flows.{IsFlow, flow_value}
use Rattle.script_words.specs.Sessions.{IsSender, IsSession, sender_value, session_value}
use Rattle.rsvp_base.specs.Styles.{unit_of_first}
use Rattle.style_rules.specs.Lines.{LineKey}
use Rattle.style_rules.specs.declared.target.Target.TheVariants as target
use Rattle.network_model.specs.RouterRules.Inputs.{Local, SendAs, DropAs, AdvertAs, WantAs, QuitAll, Stale, StalePath, StaleResv, StaleWall}
use Rattle.network_model.specs.TreeModel.declared.hops.LinkHop.{LinkHop}
use Rattle.network_model.specs.TreeModel.declared.hops.TreeHop.{TreeHop}
use Rattle.network_model.specs.TreeModel.declared.locals.LocalSender.{LocalSender}
use Rattle.network_model.specs.TreeModel.declared.hops.End.{End}
use Rattle.network_model.specs.TreeModel.Networks.{iface_of}
use Rattle.script_grammar.specs.Draft.{Draft, node_number, end_number, lifetime_of_period, wall_lifetime_of_period}
use Rattle.script_grammar.specs.declared.line.EndLine.{EndLine}
use Rattle.script_grammar.specs.declared.line.HopEnds.{HopEnds}
use Rattle.script_grammar.specs.declared.line.HopLine.{HopLine}
use Rattle.script_grammar.specs.declared.line.StalePathLine.{StalePathLine}
use Rattle.script_grammar.specs.declared.line.StaleResvLine.{StaleResvLine}
use Rattle.script_grammar.specs.declared.line.StaleHopWallLine.{StaleHopWallLine}
use Rattle.script_grammar.specs.declared.line.StaleSenderWallLine.{StaleSenderWallLine}
use Rattle.script_grammar.specs.declared.line.SendLine.{SendLine}
use Rattle.script_grammar.specs.declared.line.SenderLine.{SenderLine}
use Rattle.script_grammar.specs.declared.line.WantLine.{WantLine}
use Rattle.script_grammar.specs.declared.line.InjectLine.{InjectLine}
use Rattle.script_grammar.specs.declared.line.RerouteLine.{RerouteLine}

-- ---- ranges
pub record IsPeriod (ms : ℕ) : Type 0 where
  pub from : 1000 ≤ ms
  pub to : ms ≤ 60000
  pub quarters : ms % 4 ≡ 0

pub record IsFrom1To (most n : ℕ) : Type 0 where
  pub some : 1 ≤ n
  pub few : n ≤ most

-- the most milliseconds of a wait, passes, rounds, and places in flight
abbrev pub most_wait : ℕ
most_wait = 3600000

abbrev pub most_passes : ℕ
most_passes = 1000

abbrev pub most_rounds : ℕ
most_rounds = 10000

abbrev pub most_places : ℕ
most_places = 8192

pub record IsEndInRange (l : EndLine) : Type 0 where
  pub addr : IsAddr l.addr
  pub host : IsHost (addr_value l.addr)
  pub capacity : l.capacity < 2 ^ 46
  pub mtu : IsFrom1To 65535 l.mtu

pub record IsHopInRange (l : HopLine) : Type 0 where
  pub addr : IsAddr l.group
  pub group : IsGroup (addr_value l.group)
  pub source : IsAddr l.source

pub record IsRerouteInRange (l : RerouteLine) : Type 0 where
  pub addr : IsAddr l.group
  pub group : IsGroup (addr_value l.group)
  pub source : IsAddr l.source

pub record IsStalePathInRange (period : ℕ) (l : StalePathLine) : Type 0 where
  pub session : IsSession l.session
  pub sender : IsSender l.sender
  pub hop : IsAddr l.hop
  pub flow : IsFlow l.flow
  pub left : IsFrom1To (lifetime_of_period period) l.left

pub record IsStaleResvInRange (period : ℕ) (l : StaleResvLine) : Type 0 where
  pub session : IsSession l.session
  pub next : IsAddr l.next
  pub senders : All IsSender l.senders
  pub flow : IsFlow l.flow
  pub left : IsFrom1To (lifetime_of_period period) l.left

-- an error of code 1 says by its value what was refused: 2 the rate, 3 the packet size (RFC 2205, B)
abbrev pub IsSub : ℕ → Type 0
IsSub n = (n ≡ 2) ⊎ (n ≡ 3)

pub record IsStaleHopWallInRange (period : ℕ) (l : StaleHopWallLine) : Type 0 where
  pub session : IsSession l.session
  pub hop : IsAddr l.hop
  pub sub : IsSub l.sub
  pub flow : IsFlow l.flow
  pub left : IsFrom1To (wall_lifetime_of_period period) l.left

pub record IsStaleSenderWallInRange (period : ℕ) (l : StaleSenderWallLine) : Type 0 where
  pub session : IsSession l.session
  pub sender : IsSender l.sender
  pub sub : IsSub l.sub
  pub flow : IsFlow l.flow
  pub left : IsFrom1To (wall_lifetime_of_period period) l.left

pub record IsSendInRange (l : SendLine) : Type 0 where
  pub session : IsSession l.session
  pub sender : IsSender l.sender
  pub flow : IsFlow l.flow

pub record IsDropInRange (l : SenderLine) : Type 0 where
  pub session : IsSession l.session
  pub sender : IsSender l.sender

pub record IsWantInRange (l : WantLine) : Type 0 where
  pub session : IsSession l.session
  pub senders : All IsSender l.senders
  pub flow : IsFlow l.flow

-- ---- what is declared
abbrev pub end_value : Draft → EndLine → End
end_value d l = record { node = node_number d l.node; iface = record { addr = addr_value l.addr; capacity = l.capacity; mtu = l.mtu; latency = 0 } }

abbrev pub hop_value : Draft → HopEnds → LinkHop
hop_value d h = record { from = end_number d h.from; to = end_number d h.to }

abbrev pub tree_hop_value : Draft → HopLine → TreeHop
tree_hop_value d l = record { group = addr_value l.group; source = addr_value l.source; hop = hop_value d l.ends }

abbrev pub hop_values : Draft → RerouteLine → List LinkHop
hop_values d l = each (hop_value d) l.hops

-- ---- senders
abbrev pub senders_value : List SenderWord → Names
senders_value words = names_from (each sender_value words)

-- ---- what is left over, at the moment 0: it dies when it has lived what is left
-- the interface of an end
abbrev pub iface_at : Draft → List ℕ → ℕ
iface_at d name = iface_of d.net.ends (end_number d name)

abbrev pub stale_path_value : Draft → StalePathLine → Stale
stale_path_value d l =
    StalePath (session_value l.session, sender_value l.sender)
    (record { iface = iface_at d l.end; hop = record { addr = addr_value l.hop; handle = 0 }; tspec = flow_value l.flow; police = false; adspec = None; dies = l.left })

abbrev pub stale_part : StaleResvLine → Part
stale_part l = record { senders = senders_value l.senders; flow = flow_value l.flow }

-- the key of a left-over reservation: its session, next hop, and the unit of its senders (RFC 2205, 1.3)
abbrev pub stale_key : Draft → StaleResvLine → LineKey
stale_key d l = (session_value l.session, ((iface_at d l.end, addr_value l.next), unit_of_first l.style (keys (senders_value l.senders))))

abbrev pub stale_resv_value : Draft → StaleResvLine → Stale
stale_resv_value d l = StaleResv l.style (stale_key d l) (record { part = stale_part l; confirm = None; dies = l.left })

abbrev pub stale_hop_wall_value : Draft → StaleHopWallLine → Stale
stale_hop_wall_value d l =
    StaleWall (session_value l.session, target.Hop (iface_at d l.end) (addr_value l.hop)) (record { wall = record { flow = flow_value l.flow; sub = l.sub }; dies = l.left })

abbrev pub stale_sender_wall_value : StaleSenderWallLine → Stale
stale_sender_wall_value l =
    StaleWall (session_value l.session, target.Sender (sender_value l.sender)) (record { wall = record { flow = flow_value l.flow; sub = l.sub }; dies = l.left })

-- ---- what hosts ask
abbrev pub send_value : SendLine → Local
send_value l = SendAs (session_value l.session) (sender_value l.sender) (flow_value l.flow)

abbrev pub drop_value : SenderLine → Local
drop_value l = DropAs (session_value l.session) (sender_value l.sender)

abbrev pub advert_value : SenderLine → Local
advert_value l = AdvertAs (session_value l.session) (sender_value l.sender)

abbrev pub want_value : WantLine → Local
want_value l = WantAs (session_value l.session) l.style (senders_value l.senders) (flow_value l.flow) l.confirm
