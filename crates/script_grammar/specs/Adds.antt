-- What each line adds to those before.
use Rattle.std.specs.Prelude.{◌≡◌, ℕ, Bool, not, ◌&&◌, ◌==◌, List, [], ◌∷◌, ◌++◌, map as each, Option, None, Some, if◌then◌else◌}
use Rattle.std.specs.List.{filter, list_any}
use Rattle.std.specs.Ordering.{eq_by_cmp}
use Rattle.rsvp_base.specs.Orders.{sessions as by_session, senders as by_sender, styles as by_style, units as by_unit, Names}
use Rattle.rsvp_base.specs.Table.{empty, keys}
use Rattle.rsvp_base.specs.TokenBucket.{TokenBucket}
use Rattle.rsvp_base.specs.declared.session.Sender.{Sender}
use Rattle.rsvp_base.specs.declared.session.Session.{Session}
use Rattle.rsvp_base.specs.declared.style.StyleKind.{StyleKind}
use Rattle.rsvp_base.specs.declared.style.StyleKind.TheVariants.{Wild, Fixed, Shared}
use Rattle.network_model.specs.Units.{only}
use Rattle.script_words.specs.Addresses.{addr_value}
use Rattle.script_words.specs.Flows.{flow_value}
use Rattle.script_words.specs.Sessions.{sender_value, session_value}
use Rattle.message_codec.specs.Spells.{Spells, IsFirstFault}
use Rattle.rsvp_base.specs.Styles.{part_unit}
use Rattle.network_model.specs.RouterRules.Inputs.{Arrival, Local, QuitAll, Stale}
use Rattle.network_model.specs.TreeModel.declared.hops.TreeHop.{TreeHop}
use Rattle.network_model.specs.TreeModel.declared.locals.LocalSender.{LocalSender}
use Rattle.network_model.specs.TreeModel.declared.locals.LocalWant.{LocalWant}
use Rattle.network_model.specs.TreeModel.Networks.{Net, node_of}
use Rattle.network_model.specs.TreeModel.Wants.{Locals}
use Rattle.tree_routing.specs.Answers.{with_end, with_hop, with_latency, with_link, with_node}
use Rattle.network_model.specs.Events.{Event, AtNode, Waits, Pass, DeliverAt, LoseAt, CopyAt, ClearNode, Rounds, Traces, Reports, ReportsFlags, ReportsAdverts, Injects, Reroutes}
use Rattle.network_model.specs.Happenings.{IsSpelling}
use Rattle.network_model.specs.Steps.{rerouted}
use Rattle.script_grammar.specs.Draft.{Draft, end_number, node_number, routing, same_session, with_session}
use Rattle.script_grammar.specs.Values.{end_value, tree_hop_value, hop_values, stale_path_value, stale_resv_value, stale_hop_wall_value, stale_sender_wall_value, send_value, drop_value}
use Rattle.script_grammar.specs.Values.{advert_value, want_value, senders_value}
use Rattle.script_grammar.specs.declared.line.ScriptLine.{ScriptLine}
use Rattle.script_grammar.specs.declared.line.ScriptLine.TheVariants as line
use Rattle.script_grammar.specs.declared.line.EndLine.{EndLine}
use Rattle.script_grammar.specs.declared.line.HopLine.{HopLine}
use Rattle.script_grammar.specs.declared.line.LatencyLine.{LatencyLine}
use Rattle.script_grammar.specs.declared.line.SendLine.{SendLine}
use Rattle.script_grammar.specs.declared.line.SenderLine.{SenderLine}
use Rattle.script_grammar.specs.declared.line.WantLine.{WantLine}
use Rattle.script_grammar.specs.declared.line.QuitLine.{QuitLine}
use Rattle.script_grammar.specs.declared.line.InjectLine.{InjectLine}
use Rattle.script_grammar.specs.declared.line.RerouteLine.{RerouteLine}

-- ---- the network
abbrev pub link_value : Draft → List (List ℕ) → List ℕ
link_value d names = each (end_number d) names

abbrev pub with_tree_hop : Draft → TreeHop → Draft
with_tree_hop d h = record d { net = with_hop d.net h; force = d.force ++ h ∷ [] }

-- an interface has this latency, in microseconds
abbrev pub with_latency_line : Draft → LatencyLine → Draft
with_latency_line d l = record d { net = with_latency d.net (end_number d l.end) l.latency; timed = d.timed ++ end_number d l.end ∷ [] }

-- ---- what is left over
abbrev pub with_stale : Draft → ℕ → Session → Stale → Draft
with_stale d node s fact = record d { stale = d.stale ++ (node, fact) ∷ []; sessions = with_session d.sessions s }

-- ---- who sends
abbrev pub is_sender : Session → Sender → LocalSender → Bool
is_sender s x l = same_session s l.session && eq_by_cmp by_sender.cmp x l.sender

abbrev pub sends : List LocalSender → Session → Sender → Bool
sends ls s x = list_any (is_sender s x) ls

-- a sender that sends already stands once
abbrev pub with_sender : Locals → ℕ → Session → Sender → Locals
with_sender l n s x =
    if sends l.senders s x then l else record l { senders = l.senders ++ (record { node = n; session = s; sender = x }) ∷ [] }

abbrev pub without_sender : Locals → Session → Sender → Locals
without_sender l s x = record l { senders = filter (λ e. not (is_sender s x e)) l.senders }

-- ---- who wants what
-- wants of a session at a node
abbrev pub is_want_at : ℕ → Session → LocalWant → Bool
is_want_at n s w = (w.node == n) && same_session s w.session

abbrev pub wants_at : List LocalWant → ℕ → Session → List LocalWant
wants_at ws n s = filter (is_want_at n s) ws

-- a want in the place of one of its unit
abbrev pub is_in_place_of : LocalWant → LocalWant → Bool
is_in_place_of new w =
    is_want_at new.node new.session w
    && (eq_by_cmp by_style.cmp new.style w.style && eq_by_cmp by_unit.cmp (part_unit new.style new.part) (part_unit w.style w.part))

abbrev pub with_want : List LocalWant → LocalWant → List LocalWant
with_want ws new = filter (λ w. not (is_in_place_of new w)) ws ++ new ∷ []

abbrev pub with_wants : List LocalWant → List LocalWant → List LocalWant
with_wants ws [] = ws
with_wants ws (new ∷ more) = with_wants (with_want ws new) more

-- what a line wants: a wildcard want of nobody by name, a fixed one for each sender
abbrev pub wanted : ℕ → Session → StyleKind → Names → TokenBucket → List LocalWant
wanted n s Wild names flow = (record { node = n; session = s; style = Wild; part = record { senders = empty; flow = flow } }) ∷ []
wanted n s Fixed names flow = each (λ x. record { node = n; session = s; style = Fixed; part = record { senders = only x; flow = flow } }) (keys names)
wanted n s Shared names flow = (record { node = n; session = s; style = Shared; part = record { senders = names; flow = flow } }) ∷ []

abbrev pub wants_value : Draft → WantLine → List LocalWant
wants_value d l = wanted (node_number d l.node) (session_value l.session) l.style (senders_value l.senders) (flow_value l.flow)

abbrev pub without_wants : Locals → ℕ → Session → Locals
without_wants l n s = record l { wants = filter (λ w. not (is_want_at n s w)) l.wants }

-- ---- what happens
abbrev pub with_event : Draft → Event → Draft
with_event d e = record d { events = d.events ++ e ∷ [] }

abbrev pub with_local : Draft → List ℕ → Session → Local → Locals → Draft
with_local d node s l after = record (with_event d (AtNode (node_number d node) l)) { sessions = with_session d.sessions s; locals = after }

abbrev pub with_send : Draft → SendLine → Draft
with_send d l =
    with_local d l.node (session_value l.session) (send_value l) (with_sender d.locals (node_number d l.node) (session_value l.session) (sender_value l.sender))

abbrev pub with_drop : Draft → SenderLine → Draft
with_drop d l = with_local d l.node (session_value l.session) (drop_value l) (without_sender d.locals (session_value l.session) (sender_value l.sender))

-- who sends is as it was
abbrev pub with_advert : Draft → SenderLine → Draft
with_advert d l = with_local d l.node (session_value l.session) (advert_value l) d.locals

abbrev pub with_want_line : Draft → WantLine → Draft
with_want_line d l =
    with_local d l.node (session_value l.session) (want_value l) (record d.locals { wants = with_wants d.locals.wants (wants_value d l) })

abbrev pub with_quit : Draft → QuitLine → Draft
with_quit d l =
    with_local d l.node (session_value l.session) (QuitAll (session_value l.session)) (without_wants d.locals (node_number d l.node) (session_value l.session))

-- the routing with a tree of these hops in the place of the one in force
abbrev pub net_rerouted : Draft → RerouteLine → Net
net_rerouted d l = rerouted (routing d) (addr_value l.group) (addr_value l.source) (hop_values d l)

abbrev pub with_reroute : Draft → RerouteLine → Draft
with_reroute d l = record (with_event d (Reroutes (addr_value l.group) (addr_value l.source) (hop_values d l))) { force = (net_rerouted d l).hops }

-- what arrives where these bytes come: the message that they spell, or why they spell none
abbrev pub IsArrival : List ℕ → Arrival → Type 0
IsArrival bytes a = IsSpelling Spells IsFirstFault bytes a

-- ---- the lines before lead to these with this one
abbrev pub Adds : Draft → ScriptLine → Draft → Type 0
Adds d line.Skipped new = new ≡ d
Adds d (line.Period ms) new = new ≡ record d { period = Some ms }
Adds d (line.Seed n) new = new ≡ record d { seed = Some n }
Adds d (line.Node name) new = new ≡ record d { nodes = d.nodes ++ name ∷ []; net = with_node d.net }
Adds d (line.End l) new = new ≡ record d { names = d.names ++ l.name ∷ []; net = with_end d.net (end_value d l) }
Adds d (line.Latency l) new = new ≡ with_latency_line d l
Adds d (line.Link names) new = new ≡ record d { net = with_link d.net (link_value d names) }
Adds d (line.Hop l) new = new ≡ with_tree_hop d (tree_hop_value d l)
Adds d (line.StalePath l) new = new ≡ with_stale d (node_number d l.node) (session_value l.session) (stale_path_value d l)
Adds d (line.StaleResv l) new = new ≡ with_stale d (node_of d.net.ends (end_number d l.end)) (session_value l.session) (stale_resv_value d l)
Adds d (line.StaleHopWall l) new = new ≡ with_stale d (node_number d l.node) (session_value l.session) (stale_hop_wall_value d l)
Adds d (line.StaleSenderWall l) new = new ≡ with_stale d (node_number d l.node) (session_value l.session) (stale_sender_wall_value l)
Adds d (line.Send l) new = new ≡ with_send d l
Adds d (line.Drop l) new = new ≡ with_drop d l
Adds d (line.Advert l) new = new ≡ with_advert d l
Adds d (line.Want l) new = new ≡ with_want_line d l
Adds d (line.Quit l) new = new ≡ with_quit d l
Adds d (line.Wait ms) new = new ≡ with_event d (Waits ms)
Adds d (line.Pass n) new = new ≡ with_event d (Pass n)
Adds d (line.Deliver k) new = new ≡ with_event d (DeliverAt k)
Adds d (line.Lose k) new = new ≡ with_event d (LoseAt k)
Adds d (line.Copy k) new = new ≡ with_event d (CopyAt k)
Adds d (line.Clear node) new = new ≡ with_event d (ClearNode (node_number d node))
Adds d (line.Rounds n) new = new ≡ with_event d (Rounds n)
Adds d (line.Trace on) new = new ≡ with_event d (Traces on)
Adds d line.Report new = new ≡ with_event d (Reports None)
Adds d (line.ReportEnd end) new = new ≡ with_event d (Reports (Some (end_number d end)))
Adds d line.Flags new = new ≡ with_event d ReportsFlags
Adds d line.Adverts new = new ≡ with_event d ReportsAdverts
Adds d (line.Inject l) new = (a : Arrival) × IsArrival l.bytes a × (new ≡ with_event d (Injects (end_number d l.end) (addr_value l.dst) a))
Adds d (line.Reroute l) new = new ≡ with_reroute d l
