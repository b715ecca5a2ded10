-- The rules of script lines, and the fault of a line that breaks one.
use Rattle.std.specs.Prelude.{◌≡◌, ◌≢◌, ℕ, ◌^◌, ◌<◌, ◌≤◌, ◌==◌, Bool, true, false, ◌&&◌, List, [], ◌∷◌, ◌++◌, map as each, Option, None, Some, IsSome, IfSome, length, count_by, slice_get}
use Rattle.std.specs.List.{All, Contains, list_any}
use Rattle.rsvp_base.specs.Table.{has, size}
use Rattle.rsvp_base.specs.declared.addr.Addr.{Addr}
use Rattle.rsvp_base.specs.declared.session.Sender.{Sender}
use Rattle.rsvp_base.specs.declared.session.Session.{Session}
use Rattle.rsvp_base.specs.declared.style.StyleKind.{StyleKind}
use Rattle.rsvp_base.specs.declared.style.StyleKind.TheVariants.{Wild, Fixed, Shared}
use Rattle.script_words.specs.declared.raw.SenderWord.{SenderWord}
use Rattle.script_words.specs.Addresses.{IsAddr, addr_value}
use Rattle.script_words.specs.Sessions.{sender_value, session_value, IsSession}
use Rattle.network_model.specs.RouterRules.Bounds.{AreBooked, AreWithinLimits}
use Rattle.network_model.specs.RouterRules.Facts.{Facts, resvs_of}
use Rattle.network_model.specs.RouterRules.Inputs.{Stale, StalePath, StaleResv, StaleWall}
use Rattle.network_model.specs.TreeModel.declared.hops.LinkHop.{LinkHop}
use Rattle.network_model.specs.TreeModel.declared.hops.TreeHop.{TreeHop}
use Rattle.network_model.specs.TreeModel.declared.locals.LocalSender.{LocalSender}
use Rattle.network_model.specs.TreeModel.declared.locals.LocalWant.{LocalWant}
use Rattle.network_model.specs.TreeModel.Networks.{Net, ends_of, link_of, node_of, owner}
use Rattle.network_model.specs.TreeModel.Ranks.{IsLoopFreeIn}
use Rattle.network_model.specs.TreeModel.Trees.{IsGrown, of_tree}
use Rattle.network_model.specs.TreeModel.Wants.{Locals, live}
use Rattle.tree_routing.specs.Answers.{Fits, IsLeastOnLoop, with_hop}
use Rattle.network_model.specs.Events.{Event, Reports, ReportsFlags, ReportsAdverts}
use Rattle.network_model.specs.Worlds.{config_of, ifaces_at}
use Rattle.script_grammar.specs.Adds.{is_sender, link_value, net_rerouted, wants_at, wants_value, with_sender, with_wants}
use Rattle.network_model.specs.Excesses.{excess_at}
use Rattle.script_grammar.specs.Draft.{Draft, end_named, end_number, node_named, node_number, period_of, plan_of, with_session}
use Rattle.network_model.specs.LeftFacts.{facts_at}
use Rattle.script_grammar.specs.Values.{IsDropInRange, IsEndInRange, IsFrom1To, IsHopInRange, IsPeriod, IsRerouteInRange, IsSendInRange, IsStaleHopWallInRange, IsStalePathInRange}
use Rattle.script_grammar.specs.Values.{IsStaleResvInRange, IsStaleSenderWallInRange, IsWantInRange, end_value, hop_values, most_passes, most_places, most_rounds, most_wait, senders_value}
use Rattle.script_grammar.specs.Values.{stale_hop_wall_value, stale_path_value, stale_resv_value, stale_sender_wall_value, tree_hop_value}
use Rattle.network_model.specs.declared.excess.Excess.{Excess}
use Rattle.script_grammar.specs.declared.fault.Fault.{Fault}
use Rattle.script_grammar.specs.declared.fault.Fault.TheVariants.{Word, Late, Range, Name, Twice, Style, Limit, NotTree, Over, Loop}
use Rattle.script_grammar.specs.declared.line.ScriptLine.{ScriptLine}
use Rattle.script_grammar.specs.declared.line.ScriptLine.TheVariants as line
use Rattle.script_grammar.specs.declared.line.EndLine.{EndLine}
use Rattle.script_grammar.specs.declared.line.HopLine.{HopLine}
use Rattle.script_grammar.specs.declared.line.LatencyLine.{LatencyLine}
use Rattle.script_grammar.specs.declared.line.StalePathLine.{StalePathLine}
use Rattle.script_grammar.specs.declared.line.StaleResvLine.{StaleResvLine}
use Rattle.script_grammar.specs.declared.line.StaleHopWallLine.{StaleHopWallLine}
use Rattle.script_grammar.specs.declared.line.StaleSenderWallLine.{StaleSenderWallLine}
use Rattle.script_grammar.specs.declared.line.SendLine.{SendLine}
use Rattle.script_grammar.specs.declared.line.SenderLine.{SenderLine}
use Rattle.script_grammar.specs.declared.line.WantLine.{WantLine}
use Rattle.script_grammar.specs.declared.line.QuitLine.{QuitLine}
use Rattle.script_grammar.specs.declared.line.InjectLine.{InjectLine}
use Rattle.script_grammar.specs.declared.line.RerouteLine.{RerouteLine}

-- the rules that a line keeps, in the order in which they are looked at
pub data Rule : Type 0 where
  -- no line of a later part of the script came before
  InTime : Rule
  -- its numbers, addresses and flows are in range
  InRange : Rule
  -- what it names was declared, or is there
  Known : Rule
  -- what it adds is not there yet
  New : Rule
  -- it is of the style of what is there
  OfStyle : Rule
  -- there is room for it
  WithinLimits : Rule
  -- its hops are those of a tree
  OfTree : Rule
  -- its interface has what it asks for
  WithinCapacity : Rule
  -- no chain of hops of a group is closed by it
  LoopFree : Rule

-- ---- limits
abbrev pub most_nodes : ℕ
most_nodes = 256

abbrev pub most_ifaces : ℕ
most_ifaces = 16

abbrev pub most_links : ℕ
most_links = 512

abbrev pub most_hops : ℕ
most_hops = 8192

abbrev pub most_sessions : ℕ
most_sessions = 32

abbrev pub most_senders : ℕ
most_senders = 16

abbrev pub most_units : ℕ
most_units = 16

abbrev pub most_reports : ℕ
most_reports = 16

abbrev pub most_adverts : ℕ
most_adverts = 16

-- ---- the parts of a script: declarations, what is left over, what happens
pub record OnlyDeclares (d : Draft) : Type 0 where
  pub no_fact : d.stale ≡ []
  pub no_event : d.events ≡ []

-- a period and a seed come before each node, too
pub record BeforeNodes (d : Draft) : Type 0 where
  pub no_node : d.nodes ≡ []
  pub no_fact : d.stale ≡ []
  pub no_event : d.events ≡ []

-- ---- names
abbrev pub IsNode : Draft → List ℕ → Type 0
IsNode d name = IsSome (node_named d name)

abbrev pub IsEnd : Draft → List ℕ → Type 0
IsEnd d name = IsSome (end_named d name)

-- the node and the end were declared, and the end is of the node
pub record IsEndOf (d : Draft) (node end : List ℕ) : Type 0 where
  pub node_there : IsNode d node
  pub end_there : IsEnd d end
  pub of_node : node_of d.net.ends (end_number d end) ≡ node_number d node

-- an end has this address
abbrev pub IsSource : Draft → Addr → Type 0
IsSource d a = IsSome (owner d.net.ends a)

-- ---- links
-- of the ends that were declared no two, and none twice, are of one node
abbrev pub AreOfDifferentNodes : Draft → List (List ℕ) → Type 0
AreOfDifferentNodes d names =
    (i j : ℕ) (a b : List ℕ) → slice_get names i ≡ Some a → slice_get names j ≡ Some b → IsEnd d a → IsEnd d b
    → node_of d.net.ends (end_number d a) ≡ node_of d.net.ends (end_number d b) → i ≡ j

abbrev pub AreInNoLink : Draft → List (List ℕ) → Type 0
AreInNoLink d names = All (λ e. link_of d.net.links e ≡ []) (link_value d names)

-- ---- what is there already
-- neither a name nor an address of another end
pub record IsNewEnd (d : Draft) (l : EndLine) : Type 0 where
  pub name : end_named d l.name ≡ None
  pub addr : owner d.net.ends (addr_value l.addr) ≡ None

-- none of them stands twice
abbrev pub AreDistinct : {X : Type 0} → List X → Type 0
AreDistinct [] = Unit {0}
AreDistinct (x ∷ xs) = (Contains xs x → ⊥) × AreDistinct xs

-- the senders of a line
abbrev pub sender_list : List SenderWord → List Sender
sender_list words = each sender_value words

-- ---- what is left over at a node
-- no fact of this key is there
abbrev pub IsNewFact : Facts → Stale → Type 0
IsNewFact f (StalePath k x) = has f.paths k ≡ false
IsNewFact f (StaleResv st k r) = has (resvs_of st f) k ≡ false
IsNewFact f (StaleWall k b) = has f.walls k ≡ false

-- the tables of the node have room for one more
abbrev pub HasRoomForFact : Draft → ℕ → Stale → Type 0
HasRoomForFact d node s = AreWithinLimits (facts_at (d.stale ++ (node, s) ∷ []) node)

-- with it, the merged reservations on each interface of the node pass neither its capacity nor its MTU (RFC 2205, 1:
-- admission control)
abbrev pub IsAdmitted : Draft → ℕ → Stale → Type 0
IsAdmitted d node s = AreBooked (config_of (plan_of d).quarter d.net [] node) (facts_at (d.stale ++ (node, s) ∷ []) node)

abbrev pub HasRoomForSession : Draft → Session → Type 0
HasRoomForSession d s = length (with_session d.sessions s) ≤ most_sessions

-- ---- left-over reservations
abbrev pub stale_node : Draft → StaleResvLine → ℕ
stale_node d l = node_of d.net.ends (end_number d l.end)

-- a fixed filter names one sender
abbrev pub IsListOfStyle : StyleKind → List Sender → Type 0
IsListOfStyle Wild xs = Unit {0}
IsListOfStyle Fixed xs = length xs ≡ 1
IsListOfStyle Shared xs = Unit {0}

-- a fixed filter of several senders has no key
pub record IsNewResv (d : Draft) (l : StaleResvLine) : Type 0 where
  pub no_sender_twice : AreDistinct (sender_list l.senders)
  pub no_fact : IsListOfStyle l.style (sender_list l.senders) → IsNewFact (facts_at d.stale (stale_node d l)) (stale_resv_value d l)

pub record HasRoomForResv (d : Draft) (l : StaleResvLine) : Type 0 where
  pub few_senders : size (senders_value l.senders) ≤ most_senders
  pub one_sender : IsListOfStyle l.style (sender_list l.senders)
  pub session : HasRoomForSession d (session_value l.session)
  pub tables : HasRoomForFact d (stale_node d l) (stale_resv_value d l)

pub record HasRoomForOther (d : Draft) (node : ℕ) (s : Session) (fact : Stale) : Type 0 where
  pub session : HasRoomForSession d s
  pub tables : HasRoomForFact d node fact

-- ---- senders and wants
abbrev pub is_sender_at : ℕ → Session → Sender → LocalSender → Bool
is_sender_at n s x l = (l.node == n) && is_sender s x l

-- the node was declared, and sends as this sender
pub record IsSending (d : Draft) (l : SenderLine) : Type 0 where
  pub node : IsNode d l.node
  pub sends : list_any (is_sender_at (node_number d l.node) (session_value l.session) (sender_value l.sender)) d.locals.senders ≡ true

-- the node was declared, and has the sender's address
pub record CanSend (d : Draft) (l : SendLine) : Type 0 where
  pub node : IsNode d l.node
  pub own : owner d.net.ends (addr_value l.sender.addr) ≡ Some (node_number d l.node)

pub record IsWanting (d : Draft) (l : QuitLine) : Type 0 where
  pub node : IsNode d l.node
  pub wants : wants_at d.locals.wants (node_number d l.node) (session_value l.session) ≢ []

abbrev pub IsOfWantedStyle : Draft → WantLine → Type 0
IsOfWantedStyle d l = All (λ w. w.style ≡ l.style) (wants_at d.locals.wants (node_number d l.node) (session_value l.session))

pub record HasRoomForSender (d : Draft) (l : SendLine) : Type 0 where
  pub session : HasRoomForSession d (session_value l.session)
  pub few_senders : length (live (with_sender d.locals (node_number d l.node) (session_value l.session) (sender_value l.sender)) (session_value l.session)) ≤ most_senders

pub record HasRoomForWants (d : Draft) (l : WantLine) : Type 0 where
  pub few_senders : size (senders_value l.senders) ≤ most_senders
  pub session : HasRoomForSession d (session_value l.session)
  pub few_units : length (wants_at (with_wants d.locals.wants (wants_value d l)) (node_number d l.node) (session_value l.session)) ≤ most_units

-- ---- routes
-- the ends are there, the source is an address of one, and the tree was declared
pub record AreRoutesKnown (d : Draft) (l : RerouteLine) : Type 0 where
  pub from : All (λ h. IsEnd d h.from) l.hops
  pub to : All (λ h. IsEnd d h.to) l.hops
  pub source : IsSource d (addr_value l.source)
  pub tree : list_any (of_tree (addr_value l.group) (addr_value l.source)) d.net.hops ≡ true

pub record IsHopKnown (d : Draft) (l : HopLine) : Type 0 where
  pub from : IsEnd d l.ends.from
  pub to : IsEnd d l.ends.to
  pub source : IsSource d (addr_value l.source)

-- ---- reports
abbrev pub is_report : Event → Bool
is_report (Reports end) = true
is_report ReportsFlags = true
is_report _ = false

-- ---- lines that ask what the paths offer are counted apart
abbrev pub asks_adverts : Event → Bool
asks_adverts ReportsAdverts = true
asks_adverts _ = false

abbrev pub HasRoomForAdverts : Draft → Type 0
HasRoomForAdverts d = count_by asks_adverts d.events < most_adverts

abbrev pub HasRoomForReport : Draft → Type 0
HasRoomForReport d = count_by is_report d.events < most_reports

-- ---- the rules of each kind of line; one that is not listed, it keeps
abbrev pub PeriodKeeps : Draft → ℕ → Rule → Type 0
PeriodKeeps d ms InTime = BeforeNodes d
PeriodKeeps d ms InRange = IsPeriod ms
PeriodKeeps d ms New = d.period ≡ None
PeriodKeeps d ms _ = Unit {0}

abbrev pub SeedKeeps : Draft → ℕ → Rule → Type 0
SeedKeeps d n InTime = BeforeNodes d
SeedKeeps d n InRange = n < 2 ^ 64
SeedKeeps d n New = d.seed ≡ None
SeedKeeps d n _ = Unit {0}

abbrev pub NodeKeeps : Draft → List ℕ → Rule → Type 0
NodeKeeps d name InTime = OnlyDeclares d
NodeKeeps d name New = node_named d name ≡ None
NodeKeeps d name WithinLimits = length d.nodes < most_nodes
NodeKeeps d name _ = Unit {0}

abbrev pub EndKeeps : Draft → EndLine → Rule → Type 0
EndKeeps d l InTime = OnlyDeclares d
EndKeeps d l InRange = IsEndInRange l
EndKeeps d l Known = IsNode d l.node
EndKeeps d l New = IsNewEnd d l
EndKeeps d l WithinLimits = length (ends_of d.net.ends (node_number d l.node)) < most_ifaces
EndKeeps d l _ = Unit {0}

abbrev pub LatencyKeeps : Draft → LatencyLine → Rule → Type 0
LatencyKeeps d l InTime = OnlyDeclares d
LatencyKeeps d l InRange = l.latency < 2 ^ 32
LatencyKeeps d l Known = IsEnd d l.end
LatencyKeeps d l New = list_any (λ e. e == end_number d l.end) d.timed ≡ false
LatencyKeeps d l _ = Unit {0}

abbrev pub LinkKeeps : Draft → List (List ℕ) → Rule → Type 0
LinkKeeps d names InTime = OnlyDeclares d
LinkKeeps d names InRange = AreOfDifferentNodes d names
LinkKeeps d names Known = All (IsEnd d) names
LinkKeeps d names New = AreInNoLink d names
LinkKeeps d names WithinLimits = length d.net.links < most_links
LinkKeeps d names _ = Unit {0}

abbrev pub HopKeeps : Draft → HopLine → Rule → Type 0
HopKeeps d l InTime = OnlyDeclares d
HopKeeps d l InRange = IsHopInRange l
HopKeeps d l Known = IsHopKnown d l
HopKeeps d l WithinLimits = length d.net.hops < most_hops
HopKeeps d l OfTree = Fits d.net (tree_hop_value d l)
HopKeeps d l LoopFree = IsLoopFreeIn (with_hop d.net (tree_hop_value d l)) (addr_value l.group)
HopKeeps d l _ = Unit {0}

abbrev pub StalePathKeeps : Draft → StalePathLine → Rule → Type 0
StalePathKeeps d l InTime = d.events ≡ []
StalePathKeeps d l InRange = IsStalePathInRange (period_of d) l
StalePathKeeps d l Known = IsEndOf d l.node l.end
StalePathKeeps d l New = IsNewFact (facts_at d.stale (node_number d l.node)) (stale_path_value d l)
StalePathKeeps d l WithinLimits = HasRoomForOther d (node_number d l.node) (session_value l.session) (stale_path_value d l)
StalePathKeeps d l _ = Unit {0}

abbrev pub StaleResvKeeps : Draft → StaleResvLine → Rule → Type 0
StaleResvKeeps d l InTime = d.events ≡ []
StaleResvKeeps d l InRange = IsStaleResvInRange (period_of d) l
StaleResvKeeps d l Known = IsEnd d l.end
StaleResvKeeps d l New = IsNewResv d l
StaleResvKeeps d l WithinLimits = HasRoomForResv d l
StaleResvKeeps d l WithinCapacity = IsAdmitted d (stale_node d l) (stale_resv_value d l)
StaleResvKeeps d l _ = Unit {0}

abbrev pub StaleHopWallKeeps : Draft → StaleHopWallLine → Rule → Type 0
StaleHopWallKeeps d l InTime = d.events ≡ []
StaleHopWallKeeps d l InRange = IsStaleHopWallInRange (period_of d) l
StaleHopWallKeeps d l Known = IsEndOf d l.node l.end
StaleHopWallKeeps d l New = IsNewFact (facts_at d.stale (node_number d l.node)) (stale_hop_wall_value d l)
StaleHopWallKeeps d l WithinLimits = HasRoomForOther d (node_number d l.node) (session_value l.session) (stale_hop_wall_value d l)
StaleHopWallKeeps d l _ = Unit {0}

abbrev pub StaleSenderWallKeeps : Draft → StaleSenderWallLine → Rule → Type 0
StaleSenderWallKeeps d l InTime = d.events ≡ []
StaleSenderWallKeeps d l InRange = IsStaleSenderWallInRange (period_of d) l
StaleSenderWallKeeps d l Known = IsNode d l.node
StaleSenderWallKeeps d l New = IsNewFact (facts_at d.stale (node_number d l.node)) (stale_sender_wall_value l)
StaleSenderWallKeeps d l WithinLimits = HasRoomForOther d (node_number d l.node) (session_value l.session) (stale_sender_wall_value l)
StaleSenderWallKeeps d l _ = Unit {0}

abbrev pub SendKeeps : Draft → SendLine → Rule → Type 0
SendKeeps d l InRange = IsSendInRange l
SendKeeps d l Known = CanSend d l
SendKeeps d l WithinLimits = HasRoomForSender d l
SendKeeps d l _ = Unit {0}

abbrev pub DropKeeps : Draft → SenderLine → Rule → Type 0
DropKeeps d l InRange = IsDropInRange l
DropKeeps d l Known = IsSending d l
DropKeeps d l _ = Unit {0}

-- a sender is advertised where it could be dropped
abbrev pub AdvertKeeps : Draft → SenderLine → Rule → Type 0
AdvertKeeps d l rule = DropKeeps d l rule

abbrev pub WantKeeps : Draft → WantLine → Rule → Type 0
WantKeeps d l InRange = IsWantInRange l
WantKeeps d l Known = IsNode d l.node
WantKeeps d l New = AreDistinct (sender_list l.senders)
WantKeeps d l OfStyle = IsOfWantedStyle d l
WantKeeps d l WithinLimits = HasRoomForWants d l
WantKeeps d l _ = Unit {0}

abbrev pub QuitKeeps : Draft → QuitLine → Rule → Type 0
QuitKeeps d l InRange = IsSession l.session
QuitKeeps d l Known = IsWanting d l
QuitKeeps d l _ = Unit {0}

-- a number from 1 on
abbrev pub NumberKeeps : ℕ → ℕ → Rule → Type 0
NumberKeeps most n InRange = IsFrom1To most n
NumberKeeps most n _ = Unit {0}

abbrev pub ClearKeeps : Draft → List ℕ → Rule → Type 0
ClearKeeps d node Known = IsNode d node
ClearKeeps d node _ = Unit {0}

abbrev pub ReportKeeps : Draft → Rule → Type 0
ReportKeeps d WithinLimits = HasRoomForReport d
ReportKeeps d _ = Unit {0}

abbrev pub AdvertsKeeps : Draft → Rule → Type 0
AdvertsKeeps d WithinLimits = HasRoomForAdverts d
AdvertsKeeps d _ = Unit {0}

abbrev pub ReportEndKeeps : Draft → List ℕ → Rule → Type 0
ReportEndKeeps d end Known = IsEnd d end
ReportEndKeeps d end WithinLimits = HasRoomForReport d
ReportEndKeeps d end _ = Unit {0}

abbrev pub InjectKeeps : Draft → InjectLine → Rule → Type 0
InjectKeeps d l InRange = IsAddr l.dst
InjectKeeps d l Known = IsEnd d l.end
InjectKeeps d l _ = Unit {0}

abbrev pub RerouteKeeps : Draft → RerouteLine → Rule → Type 0
RerouteKeeps d l InRange = IsRerouteInRange l
RerouteKeeps d l Known = AreRoutesKnown d l
RerouteKeeps d l WithinLimits = length (net_rerouted d l).hops ≤ most_hops
RerouteKeeps d l OfTree = IsGrown d.net (addr_value l.source) (hop_values d l)
RerouteKeeps d l LoopFree = IsLoopFreeIn (net_rerouted d l) (addr_value l.group)
RerouteKeeps d l _ = Unit {0}

abbrev pub Keeps : Draft → ScriptLine → Rule → Type 0
Keeps d line.Skipped rule = Unit {0}
Keeps d (line.Period ms) rule = PeriodKeeps d ms rule
Keeps d (line.Seed n) rule = SeedKeeps d n rule
Keeps d (line.Node name) rule = NodeKeeps d name rule
Keeps d (line.End l) rule = EndKeeps d l rule
Keeps d (line.Latency l) rule = LatencyKeeps d l rule
Keeps d (line.Link names) rule = LinkKeeps d names rule
Keeps d (line.Hop l) rule = HopKeeps d l rule
Keeps d (line.StalePath l) rule = StalePathKeeps d l rule
Keeps d (line.StaleResv l) rule = StaleResvKeeps d l rule
Keeps d (line.StaleHopWall l) rule = StaleHopWallKeeps d l rule
Keeps d (line.StaleSenderWall l) rule = StaleSenderWallKeeps d l rule
Keeps d (line.Send l) rule = SendKeeps d l rule
Keeps d (line.Drop l) rule = DropKeeps d l rule
Keeps d (line.Advert l) rule = AdvertKeeps d l rule
Keeps d (line.Want l) rule = WantKeeps d l rule
Keeps d (line.Quit l) rule = QuitKeeps d l rule
Keeps d (line.Wait ms) rule = NumberKeeps most_wait ms rule
Keeps d (line.Pass n) rule = NumberKeeps most_passes n rule
Keeps d (line.Deliver k) rule = NumberKeeps most_places k rule
Keeps d (line.Lose k) rule = NumberKeeps most_places k rule
Keeps d (line.Copy k) rule = NumberKeeps most_places k rule
Keeps d (line.Clear node) rule = ClearKeeps d node rule
Keeps d (line.Rounds n) rule = NumberKeeps most_rounds n rule
Keeps d (line.Trace on) rule = Unit {0}
Keeps d line.Report rule = ReportKeeps d rule
Keeps d (line.ReportEnd end) rule = ReportEndKeeps d end rule
Keeps d line.Flags rule = ReportKeeps d rule
Keeps d line.Adverts rule = AdvertsKeeps d rule
Keeps d (line.Inject l) rule = InjectKeeps d l rule
Keeps d (line.Reroute l) rule = RerouteKeeps d l rule

-- ---- the loop that a line would close: the least hop on one, by the names of its ends
abbrev pub IsNamedHop : Draft → List ℕ → List ℕ → LinkHop → Type 0
IsNamedHop d from to h = (slice_get d.names h.from ≡ Some from) × (slice_get d.names h.to ≡ Some to)

abbrev pub IsLoopOf : Draft → Net → Addr → Addr → List ℕ → List ℕ → Type 0
IsLoopOf d net g group from to = (group ≡ g) × (h : LinkHop) × IsLeastOnLoop net g h × IsNamedHop d from to h

abbrev pub Closes : Draft → ScriptLine → Addr → List ℕ → List ℕ → Type 0
Closes d (line.Hop l) group from to = IsLoopOf d (with_hop d.net (tree_hop_value d l)) (addr_value l.group) group from to
Closes d (line.Reroute l) group from to = IsLoopOf d (net_rerouted d l) (addr_value l.group) group from to
Closes d _ group from to = ⊥

-- ---- what the interface has too little of for a left-over reservation
abbrev pub IsExcessAt : Draft → ℕ → Stale → Excess → Type 0
IsExcessAt d node s much = excess_at (ifaces_at d.net.ends (ends_of d.net.ends node)) s (facts_at (d.stale ++ (node, s) ∷ []) node) ≡ Some much

abbrev pub Exceeds : Draft → ScriptLine → Excess → Type 0
Exceeds d (line.StaleResv l) much = IsExcessAt d (stale_node d l) (stale_resv_value d l) much
Exceeds d _ much = ⊥

-- ---- all rules are kept, or a first one is not
pub record KeepsAll (rules : Rule → Type 0) : Type 0 where
  pub in_time : rules InTime
  pub in_range : rules InRange
  pub known : rules Known
  pub new : rules New
  pub of_style : rules OfStyle
  pub within_limits : rules WithinLimits
  pub of_tree : rules OfTree
  pub within_capacity : rules WithinCapacity
  pub loop_free : rules LoopFree

-- the first rule that is broken is that of this fault, and the fault tells of the excess or the loop
abbrev pub BreaksFirst : (Rule → Type 0) → (Excess → Type 0) → (Addr → List ℕ → List ℕ → Type 0) → Fault → Type 0
BreaksFirst rules excess loop Word = ⊥
BreaksFirst rules excess loop Late = rules InTime → ⊥
BreaksFirst rules excess loop Range = rules InTime × (rules InRange → ⊥)
BreaksFirst rules excess loop Name = rules InTime × rules InRange × (rules Known → ⊥)
BreaksFirst rules excess loop Twice = rules InTime × rules InRange × rules Known × (rules New → ⊥)
BreaksFirst rules excess loop Style = rules InTime × rules InRange × rules Known × rules New × (rules OfStyle → ⊥)
BreaksFirst rules excess loop Limit = rules InTime × rules InRange × rules Known × rules New × rules OfStyle × (rules WithinLimits → ⊥)
BreaksFirst rules excess loop NotTree = rules InTime × rules InRange × rules Known × rules New × rules OfStyle × rules WithinLimits × (rules OfTree → ⊥)
BreaksFirst rules excess loop (Over much) =
    rules InTime × rules InRange × rules Known × rules New × rules OfStyle × rules WithinLimits × rules OfTree × (rules WithinCapacity → ⊥) × excess much
BreaksFirst rules excess loop (Loop group from to) =
    rules InTime × rules InRange × rules Known × rules New × rules OfStyle × rules WithinLimits × rules OfTree × rules WithinCapacity
    × (rules LoopFree → ⊥) × loop group from to
