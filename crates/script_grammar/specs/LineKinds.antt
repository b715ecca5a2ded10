-- What a line of a script says, by its words: fields in order, each of its form.
use Rattle.std.specs.Prelude.{ℕ, List, [], ◌∷◌, Bool, true, false, ◌&&◌, Option, None, Some, Result, Ok, Err, nat_le, map as each, codes, length, slice_index, ◌==◌, if◌then◌else◌}
use Rattle.std.specs.Str.{bytes_eq, byte}
use Rattle.hex.specs.Hex.{decode_of}
use Rattle.hex.specs.declared.error.FromHexError.{FromHexError}
use Rattle.rsvp_base.specs.declared.style.StyleKind.{StyleKind}
use Rattle.rsvp_base.specs.declared.style.StyleKind.TheVariants.{Wild, Fixed, Shared}
use Rattle.script_words.specs.declared.raw.DottedQuad.{DottedQuad}
use Rattle.script_words.specs.declared.raw.SenderWord.{SenderWord}
use Rattle.script_words.specs.Steps.{◌>>=◌, each_of}
use Rattle.script_words.specs.Words.{words_of}
use Rattle.script_words.specs.Numbers.{number_of}
use Rattle.rsvp_base.specs.EndNames.{name_of}
use Rattle.script_words.specs.Addresses.{quad_of, quads_of}
use Rattle.script_words.specs.Sessions.{session_of, sender_of, senders_of}
use Rattle.script_words.specs.Styles.{style_of}
use Rattle.script_words.specs.Flows.{flow_of}
use Rattle.script_grammar.specs.declared.line.ScriptLine.{ScriptLine}
use Rattle.script_grammar.specs.declared.line.ScriptLine.TheVariants.{Skipped, Period, Seed, Node, End, Latency, Link, Hop, StalePath, StaleResv, StaleHopWall, StaleSenderWall}
use Rattle.script_grammar.specs.declared.line.ScriptLine.TheVariants.{Send, Drop, Advert, Want}
use Rattle.script_grammar.specs.declared.line.ScriptLine.TheVariants.{Quit, Wait, Pass, Deliver, Lose, Copy, Clear, Rounds, Trace, Report, ReportEnd, Flags, Adverts, Inject, Reroute}
use Rattle.script_grammar.specs.declared.line.HopEnds.{HopEnds}

-- ---- words of lines
-- a sender of a wildcard style: an address, with port 0
abbrev pub wild_word : DottedQuad → SenderWord
wild_word q = record { addr = q; port = 0 }

abbrev pub as_wild : List DottedQuad → Option (List SenderWord)
as_wild quads = Some (each wild_word quads)

-- the senders of a left-over reservation: addresses for WF, else senders with their ports
abbrev pub stale_senders : StyleKind → List ℕ → Option (List SenderWord)
stale_senders Wild word = do
  quads ← quads_of word
  as_wild quads
stale_senders Fixed word = senders_of word
stale_senders Shared word = senders_of word

-- the senders of a want: * for WF, which names none
abbrev pub want_senders : StyleKind → List ℕ → Option (List SenderWord)
want_senders Wild word = if bytes_eq word (codes "*") then Some [] else None
want_senders Fixed word = senders_of word
want_senders Shared word = senders_of word

-- bytes as two hexadecimal digits each, of either case; one byte at least
abbrev pub some_bytes : Result (List ℕ) FromHexError → Option (List ℕ)
some_bytes (Ok []) = None
some_bytes (Ok (b ∷ bs)) = Some (b ∷ bs)
some_bytes (Err e) = None

abbrev pub bytes_of : List ℕ → Option (List ℕ)
bytes_of word = some_bytes (decode_of word)

-- pairs of ends, as many as there are
abbrev pub pairs_of : List (List ℕ) → Option (List HopEnds)
pairs_of [] = Some []
pairs_of (one ∷ []) = None
pairs_of (one ∷ other ∷ more) = do
  f ← name_of one
  t ← name_of other
  hops ← pairs_of more
  Some ((record { from = f; to = t }) ∷ hops)

-- ---- part 1: what is declared
-- MS
unfoldable pub period_line : List (List ℕ) → Option ScriptLine
period_line (ms ∷ []) = do
  n ← number_of ms
  Some (Period n)
period_line _ = None

-- N
unfoldable pub seed_line : List (List ℕ) → Option ScriptLine
seed_line (seed ∷ []) = do
  n ← number_of seed
  Some (Seed n)
seed_line _ = None

-- NAME
unfoldable pub node_line : List (List ℕ) → Option ScriptLine
node_line (name ∷ []) = do
  n ← name_of name
  Some (Node n)
node_line _ = None

-- NAME NODE ADDR CAPACITY MTU
unfoldable pub end_line : List (List ℕ) → Option ScriptLine
end_line (name ∷ node ∷ addr ∷ capacity ∷ mtu ∷ []) = do
  n ← name_of name
  m ← name_of node
  a ← quad_of addr
  c ← number_of capacity
  u ← number_of mtu
  Some (End (record { name = n; node = m; addr = a; capacity = c; mtu = u }))
end_line _ = None

-- END MICROSECONDS
unfoldable pub latency_line : List (List ℕ) → Option ScriptLine
latency_line (end ∷ latency ∷ []) = do
  e ← name_of end
  n ← number_of latency
  Some (Latency (record { end = e; latency = n }))
latency_line _ = None

-- END END .., two to eight of them
unfoldable pub link_line : List (List ℕ) → Option ScriptLine
link_line ends =
    if nat_le 2 (length ends) && nat_le (length ends) 8 then (do
      names ← each_of name_of ends
      Some (Link names)) else None

-- GROUP SOURCE END END
unfoldable pub hop_line : List (List ℕ) → Option ScriptLine
hop_line (group ∷ source ∷ from ∷ to ∷ []) = do
  g ← quad_of group
  s ← quad_of source
  f ← name_of from
  t ← name_of to
  Some (Hop (record { group = g; source = s; ends = record { from = f; to = t } }))
hop_line _ = None

-- ---- part 2: what is left over
-- NODE SESSION SENDER END ADDR FLOW LEFT
unfoldable pub path_of : List ℕ → List ℕ → List ℕ → List ℕ → List ℕ → List ℕ → List ℕ → Option ScriptLine
path_of node session sender end addr flow left = do
  n ← name_of node
  s ← session_of session
  x ← sender_of sender
  e ← name_of end
  a ← quad_of addr
  f ← flow_of flow
  l ← number_of left
  Some (StalePath (record { node = n; session = s; sender = x; end = e; hop = a; flow = f; left = l }))

unfoldable pub stale_path_line : List (List ℕ) → Option ScriptLine
stale_path_line (node ∷ session ∷ sender ∷ end ∷ addr ∷ flow ∷ left ∷ []) = path_of node session sender end addr flow left
stale_path_line _ = None

-- END SESSION STYLE ADDR SENDERS FLOW LEFT
unfoldable pub resv_of : List ℕ → List ℕ → List ℕ → List ℕ → List ℕ → List ℕ → List ℕ → Option ScriptLine
resv_of end session style addr senders flow left = do
  e ← name_of end
  s ← session_of session
  st ← style_of style
  a ← quad_of addr
  x ← stale_senders st senders
  f ← flow_of flow
  l ← number_of left
  Some (StaleResv (record { end = e; session = s; style = st; next = a; senders = x; flow = f; left = l }))

unfoldable pub stale_resv_line : List (List ℕ) → Option ScriptLine
stale_resv_line (end ∷ session ∷ style ∷ addr ∷ senders ∷ flow ∷ left ∷ []) = resv_of end session style addr senders flow left
stale_resv_line _ = None

-- NODE SESSION, then END ADDR SUB FLOW LEFT
unfoldable pub hop_wall : List ℕ → List ℕ → List ℕ → List ℕ → List ℕ → List ℕ → List ℕ → Option ScriptLine
hop_wall node session end addr sub flow left = do
  n ← name_of node
  s ← session_of session
  e ← name_of end
  a ← quad_of addr
  v ← number_of sub
  f ← flow_of flow
  l ← number_of left
  Some (StaleHopWall (record { node = n; session = s; end = e; hop = a; sub = v; flow = f; left = l }))

-- NODE SESSION, then SENDER SUB FLOW LEFT
unfoldable pub sender_wall : List ℕ → List ℕ → List ℕ → List ℕ → List ℕ → List ℕ → Option ScriptLine
sender_wall node session sender sub flow left = do
  n ← name_of node
  s ← session_of session
  x ← sender_of sender
  v ← number_of sub
  f ← flow_of flow
  l ← number_of left
  Some (StaleSenderWall (record { node = n; session = s; sender = x; sub = v; flow = f; left = l }))

-- END ADDR SUB FLOW LEFT
unfoldable pub stale_hop : List ℕ → List ℕ → List (List ℕ) → Option ScriptLine
stale_hop node session (end ∷ addr ∷ sub ∷ flow ∷ left ∷ []) = hop_wall node session end addr sub flow left
stale_hop node session _ = None

-- SENDER SUB FLOW LEFT
unfoldable pub stale_sender : List ℕ → List ℕ → List (List ℕ) → Option ScriptLine
stale_sender node session (sender ∷ sub ∷ flow ∷ left ∷ []) = sender_wall node session sender sub flow left
stale_sender node session _ = None

-- NODE SESSION hop END ADDR SUB FLOW LEFT, or NODE SESSION sender SENDER SUB FLOW LEFT
unfoldable pub stale_blockade_line : List (List ℕ) → Option ScriptLine
stale_blockade_line (node ∷ session ∷ target ∷ behind) =
    if bytes_eq target (codes "hop") then stale_hop node session behind else (
    if bytes_eq target (codes "sender") then stale_sender node session behind else None)
stale_blockade_line _ = None

-- ---- part 3: what happens
-- NODE SESSION SENDER FLOW
unfoldable pub send_line : List (List ℕ) → Option ScriptLine
send_line (node ∷ session ∷ sender ∷ flow ∷ []) = do
  n ← name_of node
  s ← session_of session
  x ← sender_of sender
  f ← flow_of flow
  Some (Send (record { node = n; session = s; sender = x; flow = f }))
send_line _ = None

-- NODE SESSION SENDER
unfoldable pub drop_line : List (List ℕ) → Option ScriptLine
drop_line (node ∷ session ∷ sender ∷ []) = do
  n ← name_of node
  s ← session_of session
  x ← sender_of sender
  Some (Drop (record { node = n; session = s; sender = x }))
drop_line _ = None

-- NODE SESSION SENDER
unfoldable pub advert_line : List (List ℕ) → Option ScriptLine
advert_line (node ∷ session ∷ sender ∷ []) = do
  n ← name_of node
  s ← session_of session
  x ← sender_of sender
  Some (Advert (record { node = n; session = s; sender = x }))
advert_line _ = None

-- a want by the words for its node, session, style, senders and flow
unfoldable pub want_of : List ℕ → List ℕ → List ℕ → List ℕ → List ℕ → Bool → Option ScriptLine
want_of node session style senders flow confirm = do
  n ← name_of node
  s ← session_of session
  st ← style_of style
  x ← want_senders st senders
  f ← flow_of flow
  Some (Want (record { node = n; session = s; style = st; senders = x; flow = f; confirm = confirm }))

-- NODE SESSION STYLE SENDERS FLOW [confirm]
unfoldable pub want_line : List (List ℕ) → Option ScriptLine
want_line (node ∷ session ∷ style ∷ senders ∷ flow ∷ []) = want_of node session style senders flow false
want_line (node ∷ session ∷ style ∷ senders ∷ flow ∷ confirm ∷ []) =
    if bytes_eq confirm (codes "confirm") then want_of node session style senders flow true else None
want_line _ = None

-- NODE SESSION
unfoldable pub quit_line : List (List ℕ) → Option ScriptLine
quit_line (node ∷ session ∷ []) = do
  n ← name_of node
  s ← session_of session
  Some (Quit (record { node = n; session = s }))
quit_line _ = None

-- a number alone
abbrev pub lone_number : List (List ℕ) → Option ℕ
lone_number (number ∷ []) = number_of number
lone_number _ = None

abbrev pub numbered : (ℕ → ScriptLine) → List (List ℕ) → Option ScriptLine
numbered line words = do
  n ← lone_number words
  Some (line n)

-- [N], once where no number stands
unfoldable pub pass_line : List (List ℕ) → Option ScriptLine
pass_line [] = Some (Pass 1)
pass_line (number ∷ []) = do
  n ← number_of number
  Some (Pass n)
pass_line _ = None

-- NODE
unfoldable pub clear_line : List (List ℕ) → Option ScriptLine
clear_line (node ∷ []) = do
  n ← name_of node
  Some (Clear n)
clear_line _ = None

-- on, off
unfoldable pub trace_line : List (List ℕ) → Option ScriptLine
trace_line (word ∷ []) =
    if bytes_eq word (codes "on") then Some (Trace true) else (
    if bytes_eq word (codes "off") then Some (Trace false) else None)
trace_line _ = None

-- [END]
unfoldable pub report_line : List (List ℕ) → Option ScriptLine
report_line [] = Some Report
report_line (end ∷ []) = do
  e ← name_of end
  Some (ReportEnd e)
report_line _ = None

-- no word
unfoldable pub flags_line : List (List ℕ) → Option ScriptLine
flags_line [] = Some Flags
flags_line _ = None

-- no word
unfoldable pub adverts_line : List (List ℕ) → Option ScriptLine
adverts_line [] = Some Adverts
adverts_line _ = None

-- END ADDR HEX
unfoldable pub inject_line : List (List ℕ) → Option ScriptLine
inject_line (end ∷ addr ∷ digits ∷ []) = do
  e ← name_of end
  a ← quad_of addr
  b ← bytes_of digits
  Some (Inject (record { end = e; dst = a; bytes = b }))
inject_line _ = None

-- GROUP SOURCE, then END END for each hop
unfoldable pub reroute_line : List (List ℕ) → Option ScriptLine
reroute_line (group ∷ source ∷ ends) = do
  g ← quad_of group
  s ← quad_of source
  hops ← pairs_of ends
  Some (Reroute (record { group = g; source = s; hops = hops }))
reroute_line _ = None

-- ---- the kinds of lines: a first word, and what the words behind it say
abbrev pub Kinds : Type 0
Kinds = List (List ℕ × (List (List ℕ) → Option ScriptLine))

abbrev pub declared : Kinds
declared =
    (codes "period", period_line) ∷ (codes "seed", seed_line) ∷ (codes "node", node_line) ∷ (codes "end", end_line)
    ∷ (codes "latency", latency_line) ∷ (codes "link", link_line) ∷ (codes "hop", hop_line) ∷ []

abbrev pub left_over : Kinds
left_over = (codes "stale-path", stale_path_line) ∷ (codes "stale-resv", stale_resv_line) ∷ (codes "stale-blockade", stale_blockade_line) ∷ []

abbrev pub at_nodes : Kinds
at_nodes =
    (codes "send", send_line) ∷ (codes "drop", drop_line) ∷ (codes "advert", advert_line) ∷ (codes "want", want_line) ∷ (codes "quit", quit_line)
    ∷ (codes "clear", clear_line) ∷ []

abbrev pub in_flight : Kinds
in_flight =
    (codes "wait", numbered Wait) ∷ (codes "pass", pass_line) ∷ (codes "rounds", numbered Rounds) ∷ (codes "deliver", numbered Deliver)
    ∷ (codes "lose", numbered Lose) ∷ (codes "copy", numbered Copy) ∷ (codes "inject", inject_line) ∷ []

abbrev pub others : Kinds
others =
    (codes "trace", trace_line) ∷ (codes "report", report_line) ∷ (codes "flags", flags_line) ∷ (codes "adverts", adverts_line) ∷ (codes "reroute", reroute_line) ∷ []

-- what the words behind a first word say, by these kinds, and else by those behind them
abbrev pub by_first : Kinds → (List ℕ → List (List ℕ) → Option ScriptLine) → List ℕ → List (List ℕ) → Option ScriptLine
by_first [] else_by first behind = else_by first behind
by_first (kind ∷ more) else_by first behind = if bytes_eq first kind.0 then kind.1 behind else by_first more else_by first behind

unfoldable pub said_other : List ℕ → List (List ℕ) → Option ScriptLine
said_other first behind = by_first others (λ f b. None) first behind

unfoldable pub said_in_flight : List ℕ → List (List ℕ) → Option ScriptLine
said_in_flight first behind = by_first in_flight said_other first behind

unfoldable pub said_at_node : List ℕ → List (List ℕ) → Option ScriptLine
said_at_node first behind = by_first at_nodes said_in_flight first behind

unfoldable pub said_left_over : List ℕ → List (List ℕ) → Option ScriptLine
said_left_over first behind = by_first left_over said_at_node first behind

-- what the words of a line say
unfoldable pub said_by : List (List ℕ) → Option ScriptLine
said_by [] = Some Skipped
said_by (first ∷ behind) = by_first declared said_left_over first behind

-- the first byte is #
abbrev pub is_comment : List ℕ → Bool
is_comment text = slice_index text 0 == byte "#"

-- what a line says: a comment is skipped, whatever its bytes are
abbrev pub script_line_of : List ℕ → Option ScriptLine
script_line_of text = if is_comment text then Some Skipped else said_by (words_of text)
