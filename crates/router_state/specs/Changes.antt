-- One path or local sender more or less, and the countdown of its session; and a Path and a PathTear that come to their group.
use Rattle.std.specs.Prelude.{ℕ, Bool, true, false, cond}
use Rattle.path_state.specs.declared.fact.PathFact.{PathFact}
use Rattle.rsvp_base.specs.Orders.{sessions}
use Rattle.rsvp_base.specs.Sets.{with_key}
use Rattle.rsvp_base.specs.Table.{Table, has, put_in, without}
use Rattle.rsvp_base.specs.TokenBucket.{TokenBucket}
use Rattle.rsvp_base.specs.declared.session.Session.{Session}
use Rattle.laws_bounds.specs.RsvpMessages.declared.message.Message.TheVariants as message
use Rattle.laws_bounds.specs.RsvpMessages.declared.message.PathMsg.{PathMsg}
use Rattle.laws_bounds.specs.RsvpMessages.declared.message.PathTearMsg.{PathTearMsg}
use Rattle.laws_bounds.specs.RouterRules.Facts.{SenderKey}
use Rattle.laws_bounds.specs.RouterRules.Forgetting.{counted}
use Rattle.laws_bounds.specs.RouterRules.Inputs.{Came, Input, Spelt}
use Rattle.laws_bounds.specs.RouterRules.NodeConfig.{period}
use Rattle.router_state.specs.State.{State, facts_of}

-- ---- tables
abbrev pub paths_put : State → SenderKey → PathFact → ℕ → State
paths_put n k fact left = record n { paths = put_in n.paths k (fact, left) }

abbrev pub paths_without : State → SenderKey → State
paths_without n k = record n { paths = without n.paths k }

abbrev pub senders_put : State → SenderKey → TokenBucket → State
senders_put n k tspec = record n { senders = put_in n.senders k tspec }

abbrev pub senders_without : State → SenderKey → State
senders_without n k = record n { senders = without n.senders k; advertised = without n.advertised k }

abbrev pub advertised_put : State → SenderKey → State
advertised_put n k = record n { advertised = with_key n.advertised k }

-- ---- countdowns
-- one starts where there is none
abbrev pub started : Bool → Session → ℕ → Table sessions ℕ → Table sessions ℕ
started true s left t = t
started false s left t = put_in t s left

-- with a countdown where the session counts, and without one where it does not
abbrev pub due_after : Bool → Session → ℕ → Table sessions ℕ → Table sessions ℕ
due_after counts s period due = cond counts (started (has due s) s period due) (without due s)

abbrev pub recounted : State → Session → Bool → State
recounted m s counts = record m { due = due_after counts s (period m.place) m.due }

abbrev pub counts_in : State → Session → Bool
counts_in m s = has (counted (facts_of 0 m)) s

-- ---- what comes
abbrev pub path_came : ℕ → PathMsg → Input
path_came e m = Came e m.session.group (Spelt (message.Path m))

abbrev pub tear_came : ℕ → PathTearMsg → Input
tear_came e m = Came e m.session.group (Spelt (message.PathTear m))
