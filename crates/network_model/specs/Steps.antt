-- Steps of a network: each leads from a world to a world, and tells what it sends and what arrives by it.
use Rattle.std.specs.Prelude.{ℕ, suc, ◌+◌, ◌*◌, ◌/◌, ◌%◌, ◌==◌, nat_le, ◌&&◌, Bool, true, false, cond, not, List, [], ◌∷◌, ◌++◌, map as each, length, Option, None, Some, slice_get}
use Rattle.std.proofs.Common.{zero}
use Rattle.std.specs.List.{filter, list_any, remove}
use Rattle.rsvp_base.specs.declared.addr.Addr.{Addr}
use Rattle.rsvp_base.specs.declared.session.Sender.{Sender}
use Rattle.rsvp_base.specs.declared.session.Session.{Session}
use Rattle.rsvp_base.specs.declared.style.StyleKind.{StyleKind}
use Rattle.router_examples.specs.RsvpMessages.declared.message.Message.{Message}
use Rattle.router_examples.specs.RsvpMessages.declared.message.Message.TheVariants as message
use Rattle.router_examples.specs.RsvpMessages.Units.{ask_style}
use Rattle.calm_rounds.specs.Machine.{Machine, items_of}
use Rattle.router_examples.specs.RouterRules.declared.answers.Heard.TheVariants as heard
use Rattle.router_examples.specs.RouterRules.Facts.{Facts}
use Rattle.router_examples.specs.RouterRules.Inputs.{Arrival, Spelt, Unspelt, Input, Call, Wait, Clear, Came, Moved, Local}
use Rattle.router_examples.specs.RouterRules.NodeConfig.{is_addr}
use Rattle.router_examples.specs.RouterRules.Rule.{Outcome, rule}
use Rattle.tree_model.specs.declared.hops.End.{End}
use Rattle.tree_model.specs.declared.hops.LinkHop.{LinkHop}
use Rattle.tree_model.specs.declared.hops.TreeHop.{TreeHop}
use Rattle.tree_model.specs.Networks.{Net, iface_of}
use Rattle.tree_model.specs.Goals.{addr_of}
use Rattle.tree_model.specs.Trees.{hops_of, of_tree, tree}
use Rattle.network_model.specs.Links.{all_copies}
use Rattle.network_model.specs.Worlds.{Item, World, config_of}

-- Places in the list in flight count from 0. A place where nothing is, and a node or end that is not there, change nothing but
-- the number of steps made.
pub data Step : Type 0 where
  -- a piece of a wait, in milliseconds
  Piece : ℕ → Step
  Deliver : ℕ → Step
  Lose : ℕ → Step
  -- the item is in flight once more, at the end
  Copy : ℕ → Step
  -- a local call at a node
  At : ℕ → Local → Step
  ClearAt : ℕ → Step
  Trace : Bool → Step
  -- of one end, or of all
  Report : Option ℕ → Step
  Flags : Step
  Adverts : Step
  -- to an end, with a destination
  Inject : ℕ → Addr → Arrival → Step
  -- these hops are from now on the tree of the group and source
  Reroute : Addr → Addr → List LinkHop → Step

-- ---- words (a linear congruential generator)
abbrev pub next_state : ℕ → ℕ
next_state x = (x * 6364136223846793005 + 1442695040888963407) % 18446744073709551616

-- the state after so many words
abbrev pub state_after : ℕ → ℕ → ℕ
state_after zero x = x
state_after (suc n) x = state_after n (next_state x)

abbrev pub word_of_state : ℕ → ℕ
word_of_state x = x / 4294967296

-- the word of node n in a piece of a wait: nodes draw in order
abbrev pub word_for : ℕ → ℕ → ℕ
word_for x n = word_of_state (state_after (suc n) x)

-- ---- what a step is
abbrev pub ms_of : Step → ℕ
ms_of (Piece ms) = ms
ms_of _ = 0

-- time passes, an item is delivered, lost or copied, or something is written
abbrev pub is_quiet : Step → Bool
is_quiet (At n l) = false
is_quiet (ClearAt n) = false
is_quiet (Inject e dst a) = false
is_quiet (Reroute g s hops) = false
is_quiet _ = true

-- what arrives by a step
abbrev pub arrived : Step → World → Option Item
arrived (Deliver k) w = slice_get w.flight k
arrived _ w = None

-- ---- the network after a step
abbrev pub tree_hop : Addr → Addr → LinkHop → TreeHop
tree_hop g s h = record { group = g; source = s; hop = h }

abbrev pub rerouted : Net → Addr → Addr → List LinkHop → Net
rerouted net g s hops = record net { hops = filter (λ r. not (of_tree g s r)) net.hops ++ each (tree_hop g s) hops }

abbrev pub net_after : Step → World → Net
net_after (Reroute g s hops) w = rerouted w.net g s hops
net_after _ w = w.net

-- ---- what comes to a node by a step
abbrev pub at_node : ℕ → Input → ℕ → Option Input
at_node m i n = cond (m == n) (Some i) None

abbrev pub came_by_end : Item → ℕ → Option End → ℕ → Option Input
came_by_end x iface None n = None
came_by_end x iface (Some e) n = at_node e.node (Came iface x.dst x.arrival) n

abbrev pub came : World → Option Item → ℕ → Option Input
came w None n = None
came w (Some x) n = came_by_end x (iface_of w.net.ends x.end) (slice_get w.net.ends x.end) n

abbrev pub input_at : Step → World → ℕ → Option Input
input_at (Piece ms) w n = Some (Wait ms (word_for w.words n))
input_at (Deliver k) w n = came w (slice_get w.flight k) n
input_at (Lose k) w n = None
input_at (Copy k) w n = None
input_at (At m l) w n = at_node m (Call l) n
input_at (ClearAt m) w n = at_node m Clear n
input_at (Trace on) w n = None
input_at (Report e) w n = None
input_at Flags w n = None
input_at Adverts w n = None
input_at (Inject e dst a) w n = None
input_at (Reroute g s hops) w n = Some Moved

-- ---- what stays in flight
abbrev pub rest : Step → World → List Item
rest (Piece ms) w = w.flight
rest (Deliver k) w = remove w.flight k
rest (Lose k) w = remove w.flight k
rest (Copy k) w = w.flight ++ items_of (slice_get w.flight k)
rest (At n l) w = w.flight
rest (ClearAt n) w = w.flight
rest (Trace on) w = w.flight
rest (Report e) w = w.flight
rest Flags w = w.flight
rest Adverts w = w.flight
rest (Inject e dst a) w = w.flight ++ (record { end = e; dst = dst; arrival = a; born = w.made }) ∷ []
rest (Reroute g s hops) w = w.flight

abbrev pub words_after : Step → World → ℕ
words_after (Piece ms) w = state_after (length w.nodes) w.words
words_after _ w = w.words

abbrev pub trace_after : Step → World → Bool
trace_after (Trace on) w = on
trace_after _ w = w.trace

-- ---- nodes follow their rules
-- a node to which nothing comes stays as it is
abbrev pub still : Facts → Outcome
still f = record { facts = f; sent = []; heard = heard.Taken }

-- a step of which calm rounds are made: a quiet one that waits half a period at most
abbrev pub is_calm : ℕ → Step → Bool
is_calm q s = is_quiet s && nat_le (ms_of s) (2 * q)

module _ (q : ℕ) where
  abbrev pub outcome_of : Option Input → Step → World → ℕ → Facts → Outcome
  outcome_of None s w n f = still f
  outcome_of (Some i) s w n f = rule (config_of q w.net w.trees n) (config_of q (net_after s w) w.trees n) (w.clock + ms_of s) i f

  -- node n by a step
  abbrev pub outcome : Step → World → ℕ → Facts → Outcome
  outcome s w n f = outcome_of (input_at s w n) s w n f

  -- all nodes from number n on: their facts after, and what they send, in order
  abbrev pub facts_from : Step → World → ℕ → List Facts → List Facts
  facts_from s w n [] = []
  facts_from s w n (f ∷ fs) = (outcome s w n f).facts ∷ facts_from s w (suc n) fs

  abbrev pub sent_from : Step → World → ℕ → List Facts → List (Item × Bool)
  sent_from s w n [] = []
  sent_from s w n (f ∷ fs) = all_copies w.net w.made n (outcome s w n f).sent ++ sent_from s w (suc n) fs

  -- what a step sends; true marks the refresh of a session that came due
  abbrev pub sent : Step → World → List (Item × Bool)
  sent s w = sent_from s w 0 w.nodes

  abbrev pub step : Step → World → World
  step s w = record {
    net = net_after s w;
    trees = w.trees;
    clock = w.clock + ms_of s;
    nodes = facts_from s w 0 w.nodes;
    words = words_after s w;
    trace = trace_after s w;
    delivered = w.delivered + length (items_of (arrived s w));
    made = suc w.made;
    flight = rest s w ++ each (λ x. x.0) (sent s w);
  }

-- ---- tracks: over which end, to which end, and of what a refresh goes
pub data Refreshed : Type 0 where
  OfSender : Sender → Refreshed
  OfStyle : StyleKind → Refreshed

pub record Track : Type 0 where
  -- the address that it has as its RSVP_HOP
  pub from : Addr
  pub to : ℕ
  pub session : Session
  pub key : Refreshed

abbrev pub path_track : ℕ → Addr → Session → Option Sender → Option Track
path_track e from s None = None
path_track e from s (Some x) = Some (record { from = from; to = e; session = s; key = OfSender x })

abbrev pub sender_of : {X : Type 0} → Option (Sender × X) → Option Sender
sender_of None = None
sender_of (Some x) = Some x.0

abbrev pub message_track : ℕ → Message → Option Track
message_track e (message.Path m) = path_track e m.hop.addr m.session (sender_of m.sender)
message_track e (message.Resv m) = Some (record { from = m.hop.addr; to = e; session = m.session; key = OfStyle (ask_style m.ask) })
message_track e _ = None

abbrev pub arrival_track : ℕ → Arrival → Option Track
arrival_track e (Spelt m) = message_track e m
arrival_track e (Unspelt m) = None

abbrev pub track : Item → Option Track
track x = arrival_track x.end x.arrival

-- a Path goes over a hop of its sender's tree, and a Resv back over a hop of a tree of its group; what is only overheard, at another
-- end of a shared link, serves nothing
abbrev pub goes_along : Net → Track → LinkHop → Bool
goes_along net t h = (h.to == t.to) && is_addr (addr_of net h.from) t.from

abbrev pub goes_back : Net → Track → LinkHop → Bool
goes_back net t h = (h.from == t.to) && is_addr (addr_of net h.to) t.from

abbrev pub serves_key : Net → Track → Refreshed → Bool
serves_key net t (OfSender x) = list_any (goes_along net t) (tree net.hops t.session.group x.addr)
serves_key net t (OfStyle st) = list_any (goes_back net t) (hops_of net.hops t.session.group)

abbrev pub serves : World → Track → Bool
serves w t = serves_key w.net t t.key

-- ---- the network as a machine of rounds, with this quarter of a refresh period
abbrev pub machine : ℕ → Machine World Step Item Track
machine q = record {
  quarter = q;
  step = step q;
  quiet = is_calm q;
  ms = ms_of;
  clock = λ w. w.clock;
  made = λ w. w.made;
  flight = λ w. w.flight;
  born = λ x. x.born;
  track = track;
  serves = serves;
  sent = sent q;
  arrived = arrived;
}
