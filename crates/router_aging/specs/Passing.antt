-- Paths that die, and the sessions that count.
use Rattle.std.specs.Prelude.{ℕ, Bool, false, ◌||◌, nat_le, nat_lt, cond, List, map as each, Option, Some, None}
use Rattle.std.specs.Coded.{Coded, coded×}
use Rattle.rsvp_base.specs.Orders.{sessions, senders, sender_code}
use Rattle.rsvp_base.specs.Sets.{Set, set_code, set_of}
use Rattle.rsvp_base.specs.Table.{Table, changed, keys, size}
use Rattle.rsvp_base.specs.TokenBucket.{TokenBucket}
use Rattle.rsvp_base.specs.Under.{under}
use Rattle.rsvp_base.specs.contracts.session.Session as session
use Rattle.rsvp_base.specs.declared.session.Sender.{Sender}
use Rattle.rsvp_base.specs.declared.session.Session.{Session}
use Rattle.path_state.specs.Paths.{path_keys}
use Rattle.path_state.specs.declared.fact.PathFact.{PathFact}
use Rattle.router_rules.specs.Facts.{SenderKey, sender_keys}
use Rattle.router_aging.specs.declared.dead.DeadPath.{DeadPath}

-- ---- dead paths
abbrev pub DeadSet : Type 0
DeadSet = Set sender_keys

abbrev pub dead_key : DeadPath → SenderKey
dead_key d = (d.session, d.sender)

abbrev pub dead_row : DeadPath → SenderKey × Unit {0}
dead_row d = (dead_key d, tt)

abbrev pub dead_code : Coded DeadSet
dead_code = set_code sender_keys (coded× (session.the_row).coded sender_code)

-- the paths with at most so much left
abbrev pub dies_in : ℕ → SenderKey → PathFact × ℕ → Option (Unit {0})
dies_in ms k e = cond (nat_le e.1 ms) (Some tt) None

abbrev pub dying_paths : ℕ → Table path_keys (PathFact × ℕ) → DeadSet
dying_paths ms m = changed (dies_in ms) m

-- the sessions of keys
abbrev pub sessions_at : {X : Type 0} → Table sender_keys X → List Session
sessions_at m = each (λ e. e.0.0) m.rows

-- ---- senders in a row
abbrev pub sender_row : Sender → Sender × Unit {0}
sender_row x = (x, tt)

-- ---- sessions that count: those with a local sender or a path
abbrev pub counts : Table sender_keys TokenBucket → Table path_keys (PathFact × ℕ) → Session → Bool
counts own paths s = nat_lt 0 (size (under sessions senders own s)) || nat_lt 0 (size (under sessions senders paths s))

-- nothing of a session changed yet
abbrev pub unmarked : Session → ℕ → Option Bool
unmarked s left = Some false

-- of each session with a local sender a countdown of so much
abbrev pub begun : ℕ → Session → Unit {0} → Option ℕ
begun left s u = Some left

abbrev pub all_begun : ℕ → Table sender_keys TokenBucket → Table sessions ℕ
all_begun left own = changed (begun left) (set_of {o = sessions} (each (λ (k : SenderKey). k.0) (keys own)))
