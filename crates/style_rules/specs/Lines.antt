-- Lines: what stands on a link end for a next hop. The reservation facts of a node, the wants of a network and the left-over
-- lines of a script are lists of them, and so have one book and one set of limits.
use Rattle.std.specs.Prelude.{◌≡◌, ℕ, ◌==◌, Bool, ◌&&◌, List, sum_by}
use Rattle.std.specs.List.{filter}
use Rattle.std.specs.Ordering.{eq_by_cmp}
use Rattle.rsvp_base.specs.declared.addr.Addr.{Addr}
use Rattle.rsvp_base.specs.declared.entry_key.EntryKey.{EntryKey}
use Rattle.rsvp_base.specs.declared.part.Part.{Part}
use Rattle.rsvp_base.specs.declared.session.Session.{Session}
use Rattle.rsvp_base.specs.declared.style.StyleKind.{StyleKind}
use Rattle.rsvp_base.specs.declared.style.Unit.{Unit as UnitOf}
use Rattle.rsvp_base.specs.Keys.{Keys, numbers, pairs}
use Rattle.rsvp_base.specs.Members.{In}
use Rattle.rsvp_base.specs.Table.{Table}
use Rattle.rsvp_base.specs.Orders.{addrs, sessions, units, entry_keys}
use Rattle.style_rules.specs.Parts.{IsPartAtMost, part_charge}
use Rattle.style_rules.specs.Merge.{merge_of}

-- a part that a next hop (an address on the link of this end) has of a session, style and unit
pub record Line : Type 0 where
  pub style : StyleKind
  pub session : Session
  pub end : ℕ
  pub next : Addr
  pub unit : UnitOf
  pub part : Part

-- ---- keys
-- a next hop: the end that it is reached by, and its address
abbrev pub NextHop : Type 0
NextHop = ℕ × Addr

abbrev pub next_hops : Keys NextHop
next_hops = pairs numbers addrs

abbrev pub next_hop : Line → NextHop
next_hop l = (l.end, l.next)

-- a line of a style: its session, next hop and unit
abbrev pub LineKey : Type 0
LineKey = Session × (NextHop × UnitOf)

abbrev pub line_keys : Keys LineKey
line_keys = pairs sessions (pairs next_hops units)

abbrev pub line_key : Line → LineKey
line_key l = (l.session, (next_hop l, l.unit))

-- the line is of a session and next hop
abbrev pub is_of_hop : Session → NextHop → LineKey → Bool
is_of_hop s hop k = eq_by_cmp sessions.cmp s k.0 && eq_by_cmp next_hops.cmp hop k.1.0

-- the entry of a book that it is merged into
abbrev pub entry_key : Line → EntryKey
entry_key l = record { session = l.session; style = l.style; unit = l.unit }

-- ---- the book
abbrev pub BookTable : Type 0
BookTable = Table entry_keys Part

-- of the lines of each entry, the senders of all and the join of the flows
abbrev pub merged_book : List Line → BookTable
merged_book ls = merge_of entry_keys entry_key (λ l. l.part) ls

abbrev pub at_end : ℕ → List Line → List Line
at_end e ls = filter (λ l. l.end == e) ls

-- what an end has promised
abbrev pub book_of_end : ℕ → List Line → BookTable
book_of_end e ls = merged_book (at_end e ls)

-- the charges of a book together
abbrev pub held : BookTable → ℕ
held b = sum_by (λ e. part_charge e.1) b.rows

-- ---- fewer and smaller lines
-- a line of the same style, session, next hop and unit can stand for this one
pub record IsUnder (l g : Line) : Type 0 where
  pub style : l.style ≡ g.style
  pub key : line_key l ≡ line_key g
  pub part : IsPartAtMost l.part g.part

-- each line of the one list is under a line of the other
abbrev pub AreUnder : List Line → List Line → Type 0
AreUnder ls gs = (l : Line) → In l ls → (g : Line) × In g gs × IsUnder l g
