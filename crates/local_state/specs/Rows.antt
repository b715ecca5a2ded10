-- How the rows of each table stand for what a node keeps.
use Rattle.std.specs.Prelude.{◌≡◌, ℕ, Bool, cond, Option, Some, None, refl}
use Rattle.std.specs.Coded.{Coded, code_by, coded×, coded_ℕ}
use Rattle.rsvp_base.specs.Codes.{bucket_code}
use Rattle.rsvp_base.specs.Orders.{sessions, senders, sender_code}
use Rattle.rsvp_base.specs.Sets.{Set, set_code}
use Rattle.rsvp_base.specs.Table.{Table, changed, size, table_code}
use Rattle.rsvp_base.specs.SessionLimits.{sessions_in}
use Rattle.rsvp_base.specs.TokenBucket.{TokenBucket}
use Rattle.rsvp_base.specs.contracts.session.Session as session
use Rattle.rsvp_base.specs.declared.session.Sender.{Sender}
use Rattle.rsvp_base.specs.declared.session.Session.{Session}
use Rattle.router_rules.specs.Facts.{SenderKey, sender_keys}
use Rattle.local_state.specs.declared.countdowns.Countdown.{Countdown}
use Rattle.local_state.specs.declared.senders.LocalSender.{LocalSender}

-- ---- countdowns
abbrev pub count_row : Countdown → Session × ℕ
count_row r = (r.session, r.left)

abbrev pub due_code : Coded (Table sessions ℕ)
due_code = table_code sessions (session.the_row).coded coded_ℕ

abbrev pub session_row : Session → Session × Unit {0}
session_row s = (s, tt)

abbrev pub fired_code : Coded (Set sessions)
fired_code = set_code sessions (session.the_row).coded

-- ---- local senders
-- what they announce, and of which their node tells what the path offers
pub record Announced : Type 0 where
  pub tspecs : Table sender_keys TokenBucket
  pub advertised : Set sender_keys

abbrev pub sender_row : LocalSender → SenderKey × TokenBucket
sender_row r = ((r.session, r.sender), r.tspec)

-- of one session, by sender
abbrev pub tspec_row : LocalSender → Sender × TokenBucket
tspec_row r = (r.sender, r.tspec)

abbrev pub mark_row : LocalSender → SenderKey × Bool
mark_row r = ((r.session, r.sender), r.advertised)

abbrev pub is_marked : SenderKey → Bool → Option (Unit {0})
is_marked k mark = cond mark (Some tt) None

abbrev pub key_code : Coded SenderKey
key_code = coded× (session.the_row).coded sender_code

abbrev pub senders_code : Coded Announced
senders_code = code_by (Table sender_keys TokenBucket × Set sender_keys) (coded× (table_code sender_keys key_code bucket_code) (set_code sender_keys key_code))
    (λ s. (s.tspecs, s.advertised)) (λ t. record { tspecs = t.0; advertised = t.1 }) (λ _. refl)

-- so many sessions have some
abbrev pub IsCounted : ℕ → Table sender_keys TokenBucket → Type 0
IsCounted n m = n ≡ size (sessions_in senders m)
