-- The runs of plans: what their events may be, so that each world of a run is within bounds, and whom they let send.
use Rattle.std.specs.Prelude.{◌≡◌, ℕ, ◌<◌, ◌≤◌, ◌==◌, ◌&&◌, Bool, true, not, List, [], ◌∷◌, map as each, length}
use Rattle.std.specs.List.{filter}
use Rattle.std.specs.Ordering.{eq_by_cmp}
use Rattle.rsvp_base.specs.declared.addr.Addr.{Addr}
use Rattle.rsvp_base.specs.declared.session.Sender.{Sender}
use Rattle.rsvp_base.specs.declared.session.Session.{Session}
use Rattle.rsvp_base.specs.Members.{In}
use Rattle.rsvp_base.specs.Orders.{senders, sessions}
use Rattle.rsvp_base.specs.Sets.{set_of}
use Rattle.rsvp_base.specs.Table.{size}
use Rattle.network_model.specs.RouterRules.Inputs.{Local, SendAs, DropAs, AdvertAs, WantAs, QuitAll}
use Rattle.tree_model.specs.declared.locals.LocalSender.{LocalSender}
use Rattle.tree_model.specs.Networks.{Net}
use Rattle.tree_model.specs.Trees.{trees_of}
use Rattle.tree_model.specs.Valid.{IsValid}
use Rattle.tree_model.specs.Wants.{live}
use Rattle.network_model.specs.Bounds.{IsProperArrival}
use Rattle.network_model.specs.Events.{Event, AtNode, Waits, Pass, DeliverAt, LoseAt, CopyAt, ClearNode, Rounds, Traces, Reports, ReportsFlags, Injects, Reroutes, ReportsAdverts}
use Rattle.network_model.specs.Links.{is_group}
use Rattle.network_model.specs.Runs.{Plan}
use Rattle.network_model.specs.Steps.{rerouted}
use Rattle.laws_network.specs.Beginning.{IsFitPlan}
use Rattle.network_model.specs.RouterRules.Steps.{IsFitCall}

-- ---- the network after an event
abbrev pub net_then : Event → Net → Net
net_then (Reroutes g s hops) net = rerouted net g s hops
net_then _ net = net

-- a call has sound flows, what is injected goes to an end that is there and is proper if it is a message, and a tree that is
-- replaced has a route and leaves the network valid
abbrev pub IsFitEvent : List (Addr × Addr) → Net → Event → Type 0
IsFitEvent trees net (AtNode n l) = IsFitCall l
IsFitEvent trees net (Waits ms) = Unit {0}
IsFitEvent trees net (Pass n) = Unit {0}
IsFitEvent trees net (DeliverAt k) = Unit {0}
IsFitEvent trees net (LoseAt k) = Unit {0}
IsFitEvent trees net (CopyAt k) = Unit {0}
IsFitEvent trees net (ClearNode n) = Unit {0}
IsFitEvent trees net (Rounds n) = Unit {0}
IsFitEvent trees net (Traces on) = Unit {0}
IsFitEvent trees net (Reports e) = Unit {0}
IsFitEvent trees net ReportsFlags = Unit {0}
IsFitEvent trees net ReportsAdverts = Unit {0}
IsFitEvent trees net (Injects e dst a) = (e < length net.ends) × IsProperArrival a
IsFitEvent trees net (Reroutes g s hops) = In (g, s) trees × IsValid (rerouted net g s hops)

-- each in the network that those before leave
abbrev pub AreFitEvents : List (Addr × Addr) → Net → List Event → Type 0
AreFitEvents trees net [] = Unit {0}
AreFitEvents trees net (e ∷ es) = IsFitEvent trees net e × AreFitEvents trees (net_then e net) es

pub record IsFitRun (p : Plan) : Type 0 where
  pub plan : IsFitPlan p
  pub events : AreFitEvents (trees_of p.net.hops) p.net p.events

-- ---- who sends: whom the calls so far let send, each at its node, and did not drop there since
abbrev pub is_sender_at : ℕ → Session → Sender → LocalSender → Bool
is_sender_at n s x l = (l.node == n) && (eq_by_cmp sessions.cmp s l.session && eq_by_cmp senders.cmp x l.sender)

abbrev pub sending_by_call : ℕ → Local → List LocalSender → List LocalSender
sending_by_call n (SendAs s x tspec) ls = (record { node = n; session = s; sender = x }) ∷ ls
sending_by_call n (DropAs s x) ls = filter (λ l. not (is_sender_at n s x l)) ls
sending_by_call n (AdvertAs s x) ls = ls
sending_by_call n (WantAs s st names flow mark) ls = ls
sending_by_call n (QuitAll s) ls = ls

abbrev pub sending_then : Event → List LocalSender → List LocalSender
sending_then (AtNode n l) ls = sending_by_call n l ls
sending_then _ ls = ls

-- each sends to a group; there are at most 16 of a session, and 32 sessions
pub record AreFew (ls : List LocalSender) : Type 0 where
  pub groups : (l : LocalSender) → In l ls → is_group l.session.group ≡ true
  pub few_senders : (s : Session) → size (set_of {o = senders} (live (record { senders = ls; wants = [] }) s)) ≤ 16
  pub few_sessions : size (set_of {o = sessions} (each (λ (l : LocalSender). l.session) ls)) ≤ 32

-- few send before each event and behind the last
abbrev pub AreFewSenders : List LocalSender → List Event → Type 0
AreFewSenders ls [] = AreFew ls
AreFewSenders ls (e ∷ es) = AreFew ls × AreFewSenders (sending_then e ls) es

-- at first nobody sends
abbrev pub AreFitSenders : Plan → Type 0
AreFitSenders p = AreFewSenders [] p.events
