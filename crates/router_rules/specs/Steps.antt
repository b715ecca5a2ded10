-- A step of a node: its facts after an input, what it sends, and the sessions whose moment came; what may come to a node,
-- and what may be left over there. The node stood within bounds at clock b, and the clock is c after the input.
use Rattle.std.specs.Prelude.{ℕ, Bool, true, false, List, ◌≡◌, ◌+◌, ◌*◌, ◌≤◌, ◌<◌, length, Some}
use Rattle.rsvp_base.specs.Orders.{sessions, Names}
use Rattle.rsvp_base.specs.Sets.{Set, IsWithin}
use Rattle.router_rules.specs.Act.{act}
use Rattle.router_rules.specs.Facts.{Facts, ResvState, resvs_of}
use Rattle.router_rules.specs.Inputs.{Input, Call, Wait, Clear, Came, Moved, Send, Arrival, Spelt, Unspelt, Local, SendAs, DropAs, AdvertAs, WantAs, QuitAll, Stale, StalePath, StaleResv, StaleWall}
use Rattle.router_rules.specs.NodeConfig.{NodeConfig, lifetime, period, wall_lifetime}
use Rattle.router_rules.specs.Rule.{rule}
use Rattle.rsvp_base.specs.declared.style.StyleKind.{StyleKind}
use Rattle.rsvp_base.specs.declared.style.StyleKind.TheVariants.{Wild, Fixed, Shared}
use Rattle.rsvp_base.specs.Table.{get, size}
use Rattle.rsvp_base.specs.TokenBucket.{IsSound}
use Rattle.rsvp_messages.specs.Proper.{IsProper}
use Rattle.style_rules.specs.Lines.{LineKey}
use Rattle.style_rules.specs.Parts.{has_name}
use Rattle.router_rules.specs.Bounds.{IsPathShaped, IsShaped, IsWallShaped, LivesUpTo, IsWithinBounds}

abbrev pub facts_then : NodeConfig → NodeConfig → ℕ → Input → Facts → Facts
facts_then old p c i f = (rule old p c i f).facts

abbrev pub sent_then : NodeConfig → NodeConfig → ℕ → Input → Facts → List Send
sent_then old p c i f = (rule old p c i f).sent

-- the sessions that came due
abbrev pub fired_then : NodeConfig → ℕ → Input → Facts → Set sessions
fired_then p c i f = (act p c i f).fired

-- one step of a node: its configuration before and after, which differ in their routes; its clock before and after; an input,
-- and its facts before
pub record NodeStep : Type 0 where
  pub old : NodeConfig
  pub now : NodeConfig
  pub before : ℕ
  pub after : ℕ
  pub input : Input
  pub facts : Facts

abbrev pub node_step : NodeConfig → NodeConfig → ℕ → ℕ → Input → Facts → NodeStep
node_step old p b c i f = record { old = old; now = p; before = b; after = c; input = i; facts = f }

-- it begins within bounds
abbrev pub Begins : NodeStep → Type 0
Begins step = IsWithinBounds step.old step.before step.facts

-- the facts that it leaves, what it sends, and the sessions that it finds due
abbrev pub left_by : NodeStep → Facts
left_by step = facts_then step.old step.now step.after step.input step.facts

abbrev pub sent_by : NodeStep → List Send
sent_by step = sent_then step.old step.now step.after step.input step.facts

abbrev pub fired_by : NodeStep → Set sessions
fired_by step = fired_then step.now step.after step.input step.facts

-- the inputs of which calm rounds are made: nothing is asked for locally, cleared or rerouted
abbrev pub is_calm : Input → Bool
is_calm (Call l) = false
is_calm (Wait ms word) = true
is_calm Clear = false
is_calm (Came e dst a) = true
is_calm Moved = false

-- ---- what may come to a node
-- the routes may change, the node does not
pub record IsSameNode (old p : NodeConfig) : Type 0 where
  pub quarter : old.quarter ≡ p.quarter
  pub ifaces : old.ifaces ≡ p.ifaces
  pub some : 1 ≤ p.quarter

-- a want of WF names nobody and one of FF each sender by itself, whatever the list
abbrev pub IsFitList : StyleKind → Names → Type 0
IsFitList Wild names = Unit {0}
IsFitList Fixed names = Unit {0}
IsFitList Shared names = (0 < size names) × (size names ≤ 16)

abbrev pub IsFitCall : Local → Type 0
IsFitCall (SendAs s x tspec) = IsSound tspec
IsFitCall (DropAs s x) = Unit {0}
IsFitCall (AdvertAs s x) = Unit {0}
IsFitCall (WantAs s st names flow mark) = IsFitList st names × IsSound flow
IsFitCall (QuitAll s) = Unit {0}

abbrev pub IsFitArrival : Arrival → Type 0
IsFitArrival (Spelt m) = IsProper m
IsFitArrival (Unspelt m) = Unit {0}

-- a call has sound flows, a wait is at most half a period, a message is proper and came by an interface that is there
abbrev pub IsFit : NodeConfig → Input → Type 0
IsFit p (Call l) = IsFitCall l
IsFit p (Wait ms word) = ms ≤ 2 * p.quarter
IsFit p Clear = Unit {0}
IsFit p (Came e dst a) = (e < length p.ifaces) × IsFitArrival a
IsFit p Moved = Unit {0}

-- the clock after an input
abbrev pub clock_after : ℕ → Input → ℕ
clock_after b (Call l) = b
clock_after b (Wait ms word) = b + ms
clock_after b Clear = b
clock_after b (Came e dst a) = b
clock_after b Moved = b

-- ---- what may be left over at a node
-- a left-over fact lives no longer than one that was just refreshed, and has the shape of one
abbrev pub IsFitStale : NodeConfig → ℕ → Stale → Type 0
IsFitStale p c (StalePath k x) = LivesUpTo c (lifetime p (period p)) x.dies × IsPathShaped p x
IsFitStale p c (StaleResv st k r) = LivesUpTo c (lifetime p (period p)) r.dies × IsShaped p st k r
IsFitStale p c (StaleWall k b) = LivesUpTo c (wall_lifetime p) b.dies × IsWallShaped p k b

-- ---- what is left of reservations
-- what is left of a reservation: some of its names, its flow and its death
pub record IsLeftOf (r x : ResvState) : Type 0 where
  pub names : IsWithin x.part.senders r.part.senders
  pub flow : x.part.flow ≡ r.part.flow
  pub named : has_name x.part ≡ true
  pub dies : x.dies ≡ r.dies

-- each reservation is what is left of one
abbrev pub AreFewer : Facts → Facts → Type 0
AreFewer f g = (st : StyleKind) (k : LineKey) (x : ResvState) → get (resvs_of st g) k ≡ Some x → (r : ResvState) × (get (resvs_of st f) k ≡ Some r) × IsLeftOf r x
