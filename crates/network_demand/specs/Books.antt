-- The books of ends, charged with lines.
use Rattle.std.specs.Prelude.{◌≡◌, ℕ, ◌<◌, ◌≤◌, true, List, map as each, length, Option, None, Some, unwrap_or, slice_get}
use Rattle.std.specs.Coded.{Coded}
use Rattle.std.specs.List.{flat_map}
use Rattle.rsvp_base.specs.Codes.{part_code}
use Rattle.rsvp_base.specs.Members.{In}
use Rattle.rsvp_base.specs.Orders.{Names, entry_keys}
use Rattle.rsvp_base.specs.Rows.{AreRows}
use Rattle.rsvp_base.specs.Sets.{IsWithin}
use Rattle.rsvp_base.specs.Table.{empty, get, put_in, size, table_code}
use Rattle.rsvp_base.specs.declared.addr.Addr.{Addr}
use Rattle.rsvp_base.specs.declared.part.Part.{Part}
use Rattle.rsvp_base.specs.declared.session.Session.{Session}
use Rattle.rsvp_base.specs.declared.style.StyleKind.{StyleKind}
use Rattle.rsvp_base.specs.declared.style.Unit.{Unit as UnitOf}
use Rattle.rsvp_base.specs.contracts.entry_key.EntryKey as key
use Rattle.rsvp_base.specs.declared.entry_key.EntryKey.{EntryKey}
use Rattle.style_rules.specs.Parts.{part_join, has_name}
use Rattle.style_rules.specs.Lines.{Line, BookTable, book_of_end}
use Rattle.tree_model.specs.Networks.{Net}
use Rattle.tree_model.specs.Goals.{addr_of}
use Rattle.network_demand.specs.declared.hop_want.HopWant.{HopWant}

abbrev pub book_code : Coded BookTable
book_code = table_code entry_keys (key.the_row).coded part_code

-- entries as rows
abbrev pub book_row : EntryKey × Part → EntryKey × Part
book_row r = r

abbrev pub AreInOrder : List (EntryKey × Part) → Type 0
AreInOrder rows = AreRows entry_keys book_row rows

-- ---- one part more
abbrev pub joined_with : Option Part → Part → Part
joined_with None p = p
joined_with (Some q) p = part_join q p

abbrev pub charged : BookTable → EntryKey → Part → BookTable
charged b k p = put_in b k (joined_with (get b k) p)

-- ---- the books of all ends, by number
abbrev pub book_at : List BookTable → ℕ → BookTable
book_at books e = unwrap_or (slice_get books e) empty

-- each end has the book of these lines
abbrev pub HaveLines : List Line → List BookTable → Type 0
HaveLines ls books = (e : ℕ) → e < length books → book_at books e ≡ book_of_end e ls

-- the entries of this style and session name no one else
abbrev pub NameOnly : StyleKind → Session → Names → List BookTable → Type 0
NameOnly st s all books = (e : ℕ) (u : UnitOf) (q : Part) → get (book_at books e) (record { session = s; style = st; unit = u }) ≡ Some q → IsWithin q.senders all

-- what is wanted over a hop as lines at the end that it goes out of
abbrev pub want_lines : StyleKind → Session → Addr → HopWant → List Line
want_lines st s next w = each (λ e. record { style = st; session = s; end = w.hop.from; next = next; unit = e.0; part = e.1 }) w.parts.rows

abbrev pub wants_lines : StyleKind → Session → Net → List HopWant → List Line
wants_lines st s net ws = flat_map (λ w. want_lines st s (addr_of net w.hop.to) w) ws

-- names, few enough, that the entries of this style and session and these wants keep to; each part that is wanted names someone
pub record HasRoom (st : StyleKind) (s : Session) (books : List BookTable) (ws : List HopWant) : Type 0 where
  pub all : Names
  pub few : size all ≤ 16
  pub entries : NameOnly st s all books
  pub parts : (w : HopWant) (e : UnitOf × Part) → In w ws → In e w.parts.rows → IsWithin e.1.senders all
  pub named : (w : HopWant) (e : UnitOf × Part) → In w ws → In e w.parts.rows → has_name e.1 ≡ true

-- each hop goes out of an end that has a book
abbrev pub AreInside : List BookTable → List HopWant → Type 0
AreInside books ws = (w : HopWant) → In w ws → w.hop.from < length books
