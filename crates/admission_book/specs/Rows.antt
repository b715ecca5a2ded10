-- Rows in the order of their interfaces and keys, and the entries that they are.
use Rattle.std.specs.Prelude.{ℕ, List, map as each, Option, Some, None, ◌==◌, if◌then◌else◌}
use Rattle.rsvp_base.specs.Rows.{AreRows, table_of}
use Rattle.rsvp_base.specs.TokenBucket.{TokenBucket}
use Rattle.admission_book.specs.EntryKeys.{places}
use Rattle.admission_book.specs.Book.{Entries}
use Rattle.rsvp_base.specs.declared.entry_key.EntryKey.{EntryKey}
use Rattle.admission_book.specs.declared.row.Row.{Row}

abbrev pub as_entry : Row → (ℕ × EntryKey) × TokenBucket
as_entry r = ((r.iface, r.key), r.flow)

abbrev pub as_entries : List Row → List ((ℕ × EntryKey) × TokenBucket)
as_entries rows = each as_entry rows

-- each row comes before those after it
abbrev pub IsRising : List Row → Type 0
IsRising rows = AreRows places as_entry rows

abbrev pub entries_of : (rows : List Row) → IsRising rows → Entries
entries_of rows up = table_of places as_entry rows up

-- the row's entry, where it is one of the interface
abbrev pub own : ℕ → Row → Option (EntryKey × TokenBucket)
own i r = if r.iface == i then Some (r.key, r.flow) else None
