-- A path or a local sender comes or goes, by the tables, with the countdown of its session.
use Rattle.std.specs.Prelude.{ℕ, ◌+◌, ◌==◌, ◌&&◌, Bool, true, cond}
use Rattle.std.specs.Bool.{beq}
use Rattle.adspec_path.specs.Same.{same_told}
use Rattle.path_state.specs.declared.fact.PathFact.{PathFact}
use Rattle.rsvp_base.specs.Table.{without}
use Rattle.rsvp_base.specs.TokenBucket.{TokenBucket}
use Rattle.rsvp_base.specs.declared.session.Sender.{Sender}
use Rattle.rsvp_base.specs.declared.session.Session.{Session}
use Rattle.rsvp_messages.specs.declared.message.PathMsg.{PathMsg}
use Rattle.router_rules.specs.Facts.{PathState, SenderKey}
use Rattle.router_rules.specs.Inputs.{Stale, StalePath}
use Rattle.router_rules.specs.NodeConfig.{is_addr}
use Rattle.router_rules.specs.Sends.{same_flow}
use Rattle.router_state.specs.State.{State}
use Rattle.router_state.specs.Changes.{counts_in, paths_put, paths_without, recounted, senders_put, senders_without}
use Rattle.router_aging.specs.Passing.{counts}
use Rattle.router_aging.specs.Steps.{names_gone}

-- what a Path that came by an interface says of its sender
abbrev pub fact_of : ℕ → PathMsg → Sender → TokenBucket → PathFact
fact_of e m x tspec = record { session = m.session; sender = x; iface = e; hop = m.hop; tspec = tspec; police = m.police; adspec = m.adspec }

-- whether a path is that
abbrev pub is_said_again : ℕ → PathMsg → TokenBucket → PathFact → Bool
is_said_again e m tspec f =
    (f.iface == e)
    && (is_addr f.hop.addr m.hop.addr && ((f.hop.handle == m.hop.handle) && (same_flow f.tspec tspec && (beq f.police m.police && same_told f.adspec m.adspec))))

abbrev pub with_path : State → SenderKey → PathFact → ℕ → State
with_path n k fact left = recounted (paths_put n k fact left) k.0 true

abbrev pub with_sender : State → SenderKey → TokenBucket → State
with_sender n k tspec = recounted (senders_put n k tspec) k.0 true

-- the sender's names go where no known sender has them
abbrev pub without_path : State → SenderKey → State
without_path n k = recounted (names_gone k (paths_without n k)) k.0 (counts_in (paths_without n k) k.0)

abbrev pub without_sender : State → SenderKey → State
without_sender n k = recounted (names_gone k (senders_without n k)) k.0 (counts_in (senders_without n k) k.0)

-- without the countdown of a session, where it has neither a local sender nor a path
abbrev pub stopped : State → Session → State
stopped m s = record m { due = cond (counts m.senders m.paths s) m.due (without m.due s) }

-- ---- a path that is left over, with this much left
abbrev pub path_key : PathFact → SenderKey
path_key fact = (fact.session, fact.sender)

abbrev pub path_left : ℕ → PathFact → ℕ → PathState
path_left c fact left = record { iface = fact.iface; hop = fact.hop; tspec = fact.tspec; police = fact.police; adspec = fact.adspec; dies = c + left }

abbrev pub stale_path : ℕ → PathFact → ℕ → Stale
stale_path c fact left = StalePath (path_key fact) (path_left c fact left)
