-- What message the objects of a list make, or which class is missing: the lowest that is needed and not there.
use Rattle.std.specs.Prelude.{ℕ, List, [], ◌∷◌, map as each, Option, Some, None, Result, Ok, Err, if◌then◌else◌, Bool}
use Rattle.rsvp_base.specs.declared.session.Sender.{Sender}
use Rattle.rsvp_base.specs.declared.style.StyleKind.{StyleKind}
use Rattle.rsvp_base.specs.declared.style.StyleKind.TheVariants.{Wild, Fixed, Shared}
use Rattle.rsvp_base.specs.Orders.{Names, names_from}
use Rattle.rsvp_base.specs.Table.{empty, with_rows}
use Rattle.rsvp_base.specs.TokenBucket.{TokenBucket}
use Rattle.rsvp_messages.specs.declared.ask.Ask.{Ask}
use Rattle.rsvp_messages.specs.declared.ask.Ask.TheVariants as ask
use Rattle.rsvp_messages.specs.declared.ask.Blame.{Blame}
use Rattle.rsvp_messages.specs.declared.ask.Tear.{Tear}
use Rattle.rsvp_messages.specs.declared.ask.Tear.TheVariants as tear
use Rattle.rsvp_messages.specs.declared.fault.Fault.{Fault}
use Rattle.rsvp_messages.specs.declared.fault.Fault.TheVariants as fault
use Rattle.rsvp_messages.specs.declared.message.Kind.{Kind}
use Rattle.rsvp_messages.specs.declared.message.Kind.TheVariants as kind
use Rattle.rsvp_messages.specs.declared.message.Message.{Message}
use Rattle.rsvp_messages.specs.declared.message.Message.TheVariants as message
use Rattle.rsvp_messages.specs.FlowTable.{FlowTable}
use Rattle.message_codec.specs.declared.seen.Seen.{Seen}
use Rattle.rsvp_objects.specs.Classes.{session, rsvp_hop, time_values, error_spec, style, flowspec, filter_spec, sender_template, sender_tspec, resv_confirm}

infixl 10 ◌>>=◌
abbrev pub ◌>>=◌ : {A B : Type 0} → Result A Fault → (A → Result B Fault) → Result B Fault
(Ok x) >>= g = g x
(Err e) >>= g = Err e

abbrev pub needed : {A : Type 0} → ℕ → Option A → Result A Fault
needed n (Some x) = Ok x
needed n None = Err (fault.Missing n)

-- ---- parts of messages

-- SENDER_TEMPLATE and SENDER_TSPEC stand together
abbrev pub sender_of : Option Sender → Option TokenBucket → Result (Option (Sender × TokenBucket)) Fault
sender_of (Some s) (Some f) = Ok (Some (s, f))
sender_of (Some s) None = Err (fault.Missing sender_tspec)
sender_of None (Some f) = Err (fault.Missing sender_template)
sender_of None None = Ok None

-- the senders that filters name
abbrev pub names_in : List (Sender × Option TokenBucket) → Names
names_in es = names_from (each (λ e. e.0) es)

-- at least one
abbrev pub named : List (Sender × Option TokenBucket) → Option Names
named [] = None
named (e ∷ es) = Some (names_in (e ∷ es))

-- each sender with its flow
abbrev pub pairs_in : List (Sender × Option TokenBucket) → List (Sender × TokenBucket)
pairs_in [] = []
pairs_in ((s, Some f) ∷ es) = (s, f) ∷ pairs_in es
pairs_in ((s, None) ∷ es) = pairs_in es

-- at least one
abbrev pub table_of_pairs : List (Sender × TokenBucket) → Option FlowTable
table_of_pairs [] = None
table_of_pairs (e ∷ es) = Some (with_rows empty (e ∷ es))

abbrev pub shared_of : TokenBucket → Names → Ask
shared_of f names = ask.Shared (record { senders = names; flow = f })

-- FF that ends with a FLOWSPEC lacks the FILTER_SPEC behind it
abbrev pub fixed_of : Bool → List (Sender × Option TokenBucket) → Result FlowTable Fault
fixed_of due es = if due then Err (fault.Missing filter_spec) else needed filter_spec (table_of_pairs (pairs_in es))

abbrev pub ask_of : Option Names → Bool → List (Sender × Option TokenBucket) → TokenBucket → StyleKind → Result Ask Fault
ask_of scope due es f Wild = Ok (ask.Wild scope f)
ask_of scope due es f Fixed = do
  list ← fixed_of due es
  Ok (ask.Fixed list)
ask_of scope due es f Shared = do
  names ← needed filter_spec (named es)
  Ok (shared_of f names)

abbrev pub tear_of : Option Names → List (Sender × Option TokenBucket) → StyleKind → Result Tear Fault
tear_of scope es Wild = Ok (tear.Wild scope)
tear_of scope es Fixed = do
  names ← needed filter_spec (named es)
  Ok (tear.Fixed names)
tear_of scope es Shared = do
  names ← needed filter_spec (named es)
  Ok (tear.Shared names)

-- of FF, the one sender
abbrev pub first_named : List (Sender × Option TokenBucket) → Option Names
first_named [] = None
first_named (e ∷ es) = Some (names_from (e.0 ∷ []))

-- of FF and SE: nobody, or these senders with the flow
abbrev pub blame_by_flow : StyleKind → Option Names → Option TokenBucket → Result Blame Fault
blame_by_flow k names None = Ok (record { style = k; senders = None; flow = None })
blame_by_flow k names (Some f) = do
  some ← needed filter_spec names
  Ok (record { style = k; senders = Some some; flow = Some f })

abbrev pub blame_of : Option Names → List (Sender × Option TokenBucket) → Option TokenBucket → StyleKind → Result Blame Fault
blame_of scope es f Wild = Ok (record { style = Wild; senders = scope; flow = f })
blame_of scope es f Fixed = blame_by_flow Fixed (first_named es) f
blame_of scope es f Shared = blame_by_flow Shared (named es) f

-- ---- the messages

unfoldable pub path_of : Seen → Result Message Fault
path_of s = do
  who ← needed session s.session
  hop ← needed rsvp_hop s.hop
  period ← needed time_values s.period
  sender ← sender_of s.template s.tspec
  Ok (message.Path (record { session = who.0; police = who.1; hop = hop; period = period; sender = sender; adspec = s.advert }))

unfoldable pub resv_of : Seen → Result Message Fault
resv_of s = do
  who ← needed session s.session
  hop ← needed rsvp_hop s.hop
  period ← needed time_values s.period
  k ← needed style s.style
  flow ← needed flowspec s.flow
  ask ← ask_of s.scope s.due s.filters flow k
  Ok (message.Resv (record { session = who.0; hop = hop; period = period; confirm = s.confirm; ask = ask }))

unfoldable pub path_err_of : Seen → Result Message Fault
path_err_of s = do
  who ← needed session s.session
  err ← needed error_spec s.error
  Ok (message.PathErr (record { session = who.0; err = err; sender = s.template }))

unfoldable pub resv_err_of : Seen → Result Message Fault
resv_err_of s = do
  who ← needed session s.session
  hop ← needed rsvp_hop s.hop
  err ← needed error_spec s.error
  k ← needed style s.style
  blame ← blame_of s.scope s.filters s.flow k
  Ok (message.ResvErr (record { session = who.0; hop = hop; err = err; blame = blame }))

unfoldable pub path_tear_of : Seen → Result Message Fault
path_tear_of s = do
  who ← needed session s.session
  hop ← needed rsvp_hop s.hop
  Ok (message.PathTear (record { session = who.0; hop = hop; sender = s.template }))

unfoldable pub resv_tear_of : Seen → Result Message Fault
resv_tear_of s = do
  who ← needed session s.session
  hop ← needed rsvp_hop s.hop
  k ← needed style s.style
  tear ← tear_of s.scope s.filters k
  Ok (message.ResvTear (record { session = who.0; hop = hop; tear = tear }))

unfoldable pub resv_conf_of : Seen → Result Message Fault
resv_conf_of s = do
  who ← needed session s.session
  err ← needed error_spec s.error
  k ← needed style s.style
  flow ← needed flowspec s.flow
  ask ← ask_of None s.due s.filters flow k
  confirm ← needed resv_confirm s.confirm
  Ok (message.ResvConf (record { session = who.0; err = err; confirm = confirm; ask = ask }))

unfoldable pub message_of : Kind → Seen → Result Message Fault
message_of kind.Path s = path_of s
message_of kind.Resv s = resv_of s
message_of kind.PathErr s = path_err_of s
message_of kind.ResvErr s = resv_err_of s
message_of kind.PathTear s = path_tear_of s
message_of kind.ResvTear s = resv_tear_of s
message_of kind.ResvConf s = resv_conf_of s
