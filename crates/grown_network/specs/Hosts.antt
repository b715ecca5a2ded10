-- What the hosts of a grown network ask of it: who sends, and who wants what, drawn from the words of a seed.
use Rattle.std.specs.Prelude.{ℕ, ◌+◌, ◌*◌, ◌/◌, ◌%◌, ◌==◌, ◌||◌, Bool, List, [], ◌∷◌, map as each, if◌then◌else◌}
use Rattle.std.specs.Int.{bit_at}
use Rattle.std.specs.List.{filter, flat_map, range_with_len}
use Rattle.rsvp_base.specs.Orders.{Names, names_from, style_place}
use Rattle.rsvp_base.specs.Table.{empty}
use Rattle.rsvp_base.specs.TokenBucket.{TokenBucket}
use Rattle.rsvp_base.specs.declared.flow.Peak.TheVariants.{Infinite}
use Rattle.rsvp_base.specs.declared.session.Sender.{Sender}
use Rattle.rsvp_base.specs.declared.session.Session.{Session}
use Rattle.rsvp_base.specs.declared.style.StyleKind.{StyleKind}
use Rattle.rsvp_base.specs.declared.style.StyleKind.TheVariants.{Wild, Fixed, Shared}
use Rattle.script_words.specs.Addresses.{of_bytes}
use Rattle.tree_model.specs.declared.locals.LocalSender.{LocalSender}
use Rattle.network_model.specs.Steps.{word_for}
use Rattle.grown_network.specs.Nodes.{home}
use Rattle.grown_network.specs.declared.hosts.Wanted.{Wanted}

-- ---- sessions: one of each style, 239.3.0.1/17/5004 (WF), 239.3.0.2/17/5004 (FF) and 239.3.0.3/17/5004 (SE)
abbrev pub styles : List StyleKind
styles = Wild ∷ Fixed ∷ Shared ∷ []

abbrev pub session_of : StyleKind → Session
session_of st = record { group = of_bytes 239 3 0 (style_place st + 1); proto = 17; port = 5004 }

-- r/r/inf/64/1500
abbrev pub flow_of : ℕ → TokenBucket
flow_of r = record { r = r; b = r; p = Infinite; low = 64; most = 1500 }

-- ---- senders: a word for each session, and four senders, 16 nodes apart
abbrev pub session_word : ℕ → StyleKind → ℕ
session_word seed st = word_for seed (style_place st)

abbrev pub sender_node : ℕ → ℕ → ℕ
sender_node word i = (word + 16 * i) % 64

abbrev pub sender_of : ℕ → ℕ → Sender
sender_of word i = record { addr = home (sender_node word i); port = 5004 }

abbrev pub local_sender : StyleKind → ℕ → ℕ → LocalSender
local_sender st word i = record { node = sender_node word i; session = session_of st; sender = sender_of word i }

abbrev pub senders_of : StyleKind → ℕ → List LocalSender
senders_of st word = each (local_sender st word) (range_with_len 0 4)

unfoldable pub senders : ℕ → List LocalSender
senders seed = flat_map (λ st. senders_of st (session_word seed st)) styles

-- ---- wants: behind these three words, one for each node and each session
abbrev pub want_word : ℕ → ℕ → StyleKind → ℕ
want_word seed n st = word_for seed (3 + (3 * n + style_place st))

abbrev pub rate_of : ℕ → ℕ
rate_of word = 1000 * (1 + word / 256 % 16)

-- the i of the senders that a digit names: its set bits, all four where none is set
abbrev pub is_named : ℕ → ℕ → Bool
is_named digit i = (digit == 0) || (bit_at digit i == 1)

-- of the senders of the session with this word
abbrev pub named : ℕ → ℕ → Names
named word digit = names_from (each (sender_of word) (filter (is_named digit) (range_with_len 0 4)))

-- a wildcard want names nobody
abbrev pub names_of : StyleKind → ℕ → ℕ → Names
names_of Wild word digit = empty
names_of Fixed word digit = named word digit
names_of Shared word digit = named word digit

-- what a word makes a node want of the session of this style and word, if anything
abbrev pub wanted_by : StyleKind → ℕ → ℕ → ℕ → List Wanted
wanted_by st session n word = if word % 4 == 0 then [] else record { node = n; style = st; senders = names_of st session (word / 16 % 16); flow = flow_of (rate_of word) } ∷ []

abbrev pub wanted_at : ℕ → ℕ → List Wanted
wanted_at seed n = flat_map (λ st. wanted_by st (session_word seed st) n (want_word seed n st)) styles

-- of the first nodes
unfoldable pub wants_up_to : ℕ → ℕ → List Wanted
wants_up_to seed n = flat_map (wanted_at seed) (range_with_len 0 n)

abbrev pub wants : ℕ → List Wanted
wants seed = wants_up_to seed 64
