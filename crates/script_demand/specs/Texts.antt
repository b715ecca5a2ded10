-- What is written of findings, line by line.
use Rattle.std.specs.Prelude.{ℕ, ◌+◌, Bool, true, false, ◌&&◌, nat_le, nat_lt, ◌==◌, List, [], ◌++◌, length, Option, None, Some, codes, slice_get, unwrap_or, if◌then◌else◌}
use Rattle.std.specs.Fmt.{decimal}
use Rattle.std.specs.List.{flat_map, list_any}
use Rattle.std.specs.Ordering.{eq_by_cmp}
use Rattle.network_demand.specs.Misfits.{largest_of}
use Rattle.network_demand.specs.Strays.{why_stray}
use Rattle.network_demand.specs.declared.askers.Asker.{Asker}
use Rattle.network_demand.specs.declared.findings.Findings.{Findings}
use Rattle.network_demand.specs.declared.late.Starved.{Starved}
use Rattle.network_demand.specs.declared.stray.Why.{Why}
use Rattle.network_demand.specs.declared.stray.Why.TheVariants.{NobodySends, NoSuchSender, NoTree}
use Rattle.network_demand.specs.Books.{book_at}
use Rattle.rsvp_base.specs.Orders.{sessions, Names}
use Rattle.rsvp_base.specs.Table.{keys}
use Rattle.rsvp_base.specs.declared.session.Session.{Session}
use Rattle.rsvp_base.specs.declared.style.StyleKind.{StyleKind}
use Rattle.rsvp_base.specs.declared.style.StyleKind.TheVariants.{Wild, Fixed, Shared}
use Rattle.style_rules.specs.Lines.{held}
use Rattle.tree_model.specs.Wants.{Locals}
use Rattle.tree_model.specs.declared.hops.End.{End}
use Rattle.tree_model.specs.declared.locals.LocalSender.{LocalSender}
use Rattle.tree_model.specs.declared.locals.LocalWant.{LocalWant}
use Rattle.value_texts.specs.Texts.{flow_text, names_text, sender_text, session_text, style_text}

-- ---- names
abbrev pub name_at : List (List ℕ) → ℕ → List ℕ
name_at names number = unwrap_or (slice_get names number) []

-- ---- who asks
abbrev pub who_text : StyleKind → Names → List ℕ
who_text Wild senders = codes "*"
who_text Fixed senders = names_text Fixed (keys senders)
who_text Shared senders = names_text Shared (keys senders)

-- NODE wants SESSION STYLE SENDERS FLOW
unfoldable pub asks_words : List (List ℕ) → LocalWant → List ℕ
asks_words nodes w = name_at nodes w.node ++ codes " wants " ++ session_text w.session ++ codes " "

unfoldable pub kind_words : LocalWant → List ℕ
kind_words w = style_text w.style ++ codes " " ++ who_text w.style w.part.senders ++ codes " " ++ flow_text w.part.flow

abbrev pub want_words : List (List ℕ) → LocalWant → List ℕ
want_words nodes w = asks_words nodes w ++ kind_words w

unfoldable pub want_line : List (List ℕ) → LocalWant → List ℕ
want_line nodes w = codes "  " ++ want_words nodes w ++ codes "\n"

-- someone who asks at this end for packets of at least this size
abbrev pub is_asker : ℕ → ℕ → Asker → Bool
is_asker end least a = list_any (λ e. e == end) a.ends.items && nat_le least a.want.part.flow.most

-- a want of the session
abbrev pub is_of_session : Session → Asker → Bool
is_of_session s a = eq_by_cmp sessions.cmp s a.want.session

abbrev pub asker_line : List (List ℕ) → ℕ → ℕ → Asker → List ℕ
asker_line nodes end least a = if is_asker end least a then want_line nodes a.want else []

abbrev pub wanter_line : List (List ℕ) → Session → Asker → List ℕ
wanter_line nodes s a = if is_of_session s a then want_line nodes a.want else []

-- ---- what does not fit
abbrev pub capacity_of : Option End → ℕ
capacity_of None = 0
capacity_of (Some x) = x.iface.capacity

abbrev pub mtu_of : Option End → ℕ
mtu_of None = 0
mtu_of (Some x) = x.iface.mtu

unfoldable pub end_words : List ℕ → List ℕ
end_words name = codes "misfit: end " ++ name ++ codes " owes "

unfoldable pub over_words : ℕ → ℕ → List ℕ
over_words sum capacity = decimal sum ++ codes " bytes per second, and its capacity is " ++ decimal capacity ++ codes "\n"

unfoldable pub large_words : ℕ → ℕ → List ℕ
large_words most mtu = codes "packets of up to " ++ decimal most ++ codes " bytes, and its MTU is " ++ decimal mtu ++ codes "\n"

-- an end that owes more than its capacity
abbrev pub over_head : List ℕ → ℕ → ℕ → List ℕ
over_head name sum capacity = end_words name ++ over_words sum capacity

-- an end that owes packets above its MTU
abbrev pub large_head : List ℕ → ℕ → ℕ → List ℕ
large_head name most mtu = end_words name ++ large_words most mtu

-- a session that is wanted in two styles
unfoldable pub clash_head : Session → List ℕ
clash_head s = codes "misfit: session " ++ session_text s ++ codes " is wanted in two styles\n"

unfoldable pub tables_line : List ℕ
tables_line = codes "misfit: a node would hold more than 1024 reservations of one style, or of one session for more than 64 next hops\n"

abbrev pub tables_text : Bool → List ℕ
tables_text tables = if tables then tables_line else []

-- a want that starves, since a node asks in another style
unfoldable pub late_words : List ℕ → Session → StyleKind → List ℕ
late_words node s st = codes "late: " ++ node ++ codes " wants " ++ session_text s ++ codes " in " ++ style_text st

unfoldable pub end_starves : List ℕ → List ℕ
end_starves name = codes ", and starves what stood at end " ++ name ++ codes "\n"

abbrev pub late_head : List (List ℕ) → List (List ℕ) → Starved → List ℕ
late_head nodes names x = late_words (name_at nodes x.late.node) x.late.session x.late.style ++ end_starves (name_at names x.end)

abbrev pub starved_text : List (List ℕ) → List (List ℕ) → Starved → List ℕ
starved_text nodes names x = late_head nodes names x ++ want_line nodes x.want

-- where it is of this session
abbrev pub starved_in : List (List ℕ) → List (List ℕ) → Session → Starved → List ℕ
starved_in nodes names s x = if eq_by_cmp sessions.cmp s x.late.session then starved_text nodes names x else []

module _ (nodes names : List (List ℕ)) (f : Findings) where
  abbrev pub clash_text : Session → List ℕ
  clash_text s = clash_head s ++ flat_map (wanter_line nodes s) f.askers.items ++ flat_map (starved_in nodes names s) f.starved.items

module _ (nodes names : List (List ℕ)) (ends : List End) (f : Findings) where
  abbrev pub over_text : ℕ → List ℕ
  over_text e = over_head (name_at names e) (held (book_at f.owed.items e)) (capacity_of (slice_get ends e)) ++ flat_map (asker_line nodes e 0) f.askers.items

  abbrev pub large_text : ℕ → List ℕ
  large_text e =
      large_head (name_at names e) (largest_of (book_at f.owed.items e).rows) (mtu_of (slice_get ends e)) ++ flat_map (asker_line nodes e (mtu_of (slice_get ends e) + 1)) f.askers.items

  -- all that does not fit
  abbrev pub misfits_text : List ℕ
  misfits_text = flat_map over_text f.misfits.over.items ++ flat_map large_text f.misfits.large.items ++ flat_map (clash_text nodes names f) f.misfits.clashing.items ++ tables_text f.misfits.tables

-- ---- who meets nobody
abbrev pub why_text : Why → List ℕ → List ℕ
why_text NobodySends node = codes ": nobody sends in this session\n"
why_text NoSuchSender node = codes ": none of its senders sends in this session\n"
why_text NoTree node = codes ": no tree of its senders comes into " ++ node ++ codes "\n"

-- a want that no sender meets
unfoldable pub stray_line : List (List ℕ) → LocalWant → Why → List ℕ
stray_line nodes w why = codes "stray: " ++ want_words nodes w ++ why_text why (name_at nodes w.node)

abbrev pub stray_text : List (List ℕ) → Locals → Asker → List ℕ
stray_text nodes l a = if length a.ends.items == 0 then stray_line nodes a.want (why_stray l a.want) else []

-- NODE sends as SENDER in SESSION, and its tree has no hop out of NODE
unfoldable pub sends_words : List ℕ → LocalSender → List ℕ
sends_words node x = codes "stray: " ++ node ++ codes " sends as " ++ sender_text x.sender

unfoldable pub idle_words : List ℕ → LocalSender → List ℕ
idle_words node x = codes " in " ++ session_text x.session ++ codes ": its tree has no hop out of " ++ node ++ codes "\n"

abbrev pub idle_line : List ℕ → LocalSender → List ℕ
idle_line node x = sends_words node x ++ idle_words node x

abbrev pub idle_of : List (List ℕ) → Option LocalSender → List ℕ
idle_of nodes None = []
idle_of nodes (Some x) = idle_line (name_at nodes x.node) x

-- of the sender at this place
abbrev pub idle_text : List (List ℕ) → List LocalSender → ℕ → List ℕ
idle_text nodes xs place = idle_of nodes (slice_get xs place)

abbrev pub strays_text : List (List ℕ) → Locals → Findings → List ℕ
strays_text nodes l f = flat_map (stray_text nodes l) f.askers.items ++ flat_map (idle_text nodes l.senders) f.idle.items

-- ---- how much is in flight
abbrev pub crowds_text : Bool → List ℕ
crowds_text true = codes "refreshes may crowd a later round\n"
crowds_text false = codes "refreshes crowd no later round\n"

-- a round of the network that has settled has this refresh overhead in flight at most
unfoldable pub room_line : ℕ → List ℕ
room_line n = codes "room: settled, a round has at most " ++ decimal n ++ codes " refreshes in flight, and 8192 datagrams may be: " ++ crowds_text (nat_lt 8192 n)

-- where the demand fits
abbrev pub room_text : Bool → ℕ → List ℕ
room_text fits n = if fits then room_line n else []

-- ---- all
abbrev pub findings_text : List (List ℕ) → List (List ℕ) → List End → Locals → Findings → List ℕ
findings_text nodes names ends l f = misfits_text nodes names ends f ++ strays_text nodes l f
