-- The events of a run, as lines of JSON.
use Rattle.std.specs.Prelude.{ℕ, ◌==◌, ◌-◌, Bool, true, false, List, [], ◌++◌, codes, length, take, Option, None, Some, if◌then◌else◌}
use Rattle.std.specs.Fmt.{decimal}
use Rattle.std.specs.List.{join_by}
use Rattle.rsvp_base.specs.Table.{keys}
use Rattle.rsvp_base.specs.declared.addr.Addr.{Addr}
use Rattle.router_rules.specs.declared.answers.Heard.{Heard}
use Rattle.router_rules.specs.declared.answers.Heard.TheVariants as heard
use Rattle.router_rules.specs.declared.entry.Entry.{Entry}
use Rattle.router_rules.specs.declared.entry.Police.{Police}
use Rattle.rsvp_messages.specs.declared.message.Kind.{Kind}
use Rattle.network_model.specs.Runs.{kind_text, why_text}
use Rattle.network_model.specs.Texts.{flag_text}
use Rattle.value_texts.specs.Texts.{flow_text, names_text, session_text, style_text}
use Rattle.script_events.specs.Json.{address_member, close_text, count_member, event_head, hex_member, member, text_member, word_member}

-- a line was taken
unfoldable pub line_event : ℕ → ℕ → List ℕ → List ℕ
line_event clock number line = event_head (codes "line") clock ++ count_member (codes "line") number ++ text_member (codes "text") line ++ close_text

-- ---- datagrams
abbrev pub from_member : Option (List ℕ) → List ℕ
from_member (Some name) = word_member (codes "from") name
from_member None = codes ",\"from\":null"

-- what `show` writes, without its line feed
abbrev pub but_last : List ℕ → List ℕ
but_last text = take (length text - 1) text

-- a datagram went into flight: its number, the end by which it went out and that to which it goes
unfoldable pub went_members : ℕ → ℕ → Option (List ℕ) → List ℕ → List ℕ
went_members clock id from end = event_head (codes "sent") clock ++ count_member (codes "id") id ++ from_member from ++ word_member (codes "end") end

-- a kind of message, or bytes that are none
abbrev pub word_of_kind : Option Kind → List ℕ
word_of_kind (Some kind) = kind_text kind
word_of_kind None = codes "?"

-- its destination, its kind, its bytes, and what `show` writes of them
unfoldable pub datagram_members : Addr → List ℕ → List ℕ → List ℕ → List ℕ
datagram_members dst kind bytes shown =
    address_member (codes "to") dst ++ word_member (codes "kind") kind ++ hex_member (codes "hex") bytes ++ word_member (codes "words") (but_last shown) ++ close_text

-- what became of a datagram
unfoldable pub became : Heard → List ℕ
became heard.Taken = word_member (codes "became") (codes "taken")
became (heard.Dropped why) = word_member (codes "became") (codes "dropped") ++ word_member (codes "why") (why_text why)
became (heard.Answered code value) = word_member (codes "became") (codes "answered") ++ count_member (codes "code") code ++ count_member (codes "value") value

unfoldable pub delivered_event : ℕ → ℕ → List ℕ → Heard → List ℕ
delivered_event clock id end h = event_head (codes "delivered") clock ++ count_member (codes "id") id ++ word_member (codes "end") end ++ became h ++ close_text

unfoldable pub lost_event : ℕ → ℕ → List ℕ
lost_event clock id = event_head (codes "lost") clock ++ count_member (codes "id") id ++ close_text

unfoldable pub copied_event : ℕ → ℕ → ℕ → List ℕ
copied_event clock id of = event_head (codes "copied") clock ++ count_member (codes "id") id ++ count_member (codes "of") of ++ close_text

-- ---- how the network stands
unfoldable pub round_event : ℕ → ℕ → ℕ → List ℕ
round_event clock done all = event_head (codes "round") clock ++ count_member (codes "round") done ++ count_member (codes "of") all ++ close_text

abbrev pub flags_word : Police → List ℕ
flags_word p = flag_text (codes "e") p.e ++ flag_text (codes "m") p.m ++ flag_text (codes "b") p.b

-- the session and the style of an entry
unfoldable pub of_members : Entry → List ℕ
of_members e = codes "{\"session\":\"" ++ session_text e.key.session ++ codes "\",\"style\":\"" ++ style_text e.key.style

-- its senders, and its flow
unfoldable pub for_members : Entry → List ℕ
for_members e = codes "\",\"senders\":\"" ++ names_text e.key.style (keys e.part.senders) ++ codes "\",\"flow\":\"" ++ flow_text e.part.flow

-- its policing flags
unfoldable pub flags_member : Entry → List ℕ
flags_member e = codes "\",\"flags\":\"" ++ flags_word e.police ++ codes "\"}"

unfoldable pub entry_object : Entry → List ℕ
entry_object e = of_members e ++ for_members e ++ flags_member e

-- joined by commas
abbrev pub entries_text : List Entry → List ℕ
entries_text entries = join_by entry_object (codes ",") entries

-- the members of a book, behind its time
unfoldable pub book_members : List ℕ → ℕ → ℕ → List Entry → List ℕ
book_members end held capacity entries =
    word_member (codes "end") end ++ count_member (codes "held") held ++ count_member (codes "capacity") capacity ++ member (codes "entries") ++ codes "["
    ++ entries_text entries
    ++ codes "]"
    ++ close_text

unfoldable pub book_event : ℕ → List ℕ → List ℕ
book_event clock members = event_head (codes "book") clock ++ members

-- joined by commas
abbrev pub ids_text : List ℕ → List ℕ
ids_text ids = join_by decimal (codes ",") ids

unfoldable pub flight_event : ℕ → List ℕ → List ℕ
flight_event clock ids = event_head (codes "flight") clock ++ member (codes "ids") ++ codes "[" ++ ids_text ids ++ codes "]" ++ close_text

unfoldable pub report_event : ℕ → List ℕ → List ℕ
report_event clock text = event_head (codes "report") clock ++ text_member (codes "text") text ++ close_text

-- ---- the end of the run
abbrev pub message_member : ℕ → List ℕ → List ℕ
message_member status message = if status == 0 then [] else text_member (codes "message") message

unfoldable pub end_event : ℕ → ℕ → List ℕ → List ℕ
end_event clock status message = event_head (codes "end") clock ++ count_member (codes "status") status ++ message_member status message ++ close_text
