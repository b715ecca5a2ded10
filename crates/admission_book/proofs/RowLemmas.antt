-- What rows in order are to the book.
use Rattle.std.specs.Prelude.{◌≡◌, ℕ, List, Result, Ok, Err, IfOk, IfErr, OnErr, None, slice_index_or}
use Rattle.std.proofs.Common.{sym, ap, ◌∙◌}
use Rattle.rsvp_base.specs.Table.{rows_of, without}
use Rattle.rsvp_base.specs.Rows.{HasRowAt, LacksRowAt}
use Rattle.rsvp_base.specs.TokenBucket.{TokenBucket}
use Rattle.rsvp_base.specs.declared.flow.Peak.TheVariants.{Infinite}
use Rattle.std.specs.FinMap.Entries.{find}
use Rattle.rsvp_base.proofs.Tables.{without_absent}
use Rattle.admission_book.specs.EntryKeys.{places}
use Rattle.admission_book.specs.Book.{Bookings}
use Rattle.admission_book.specs.Charges.{charge}
use Rattle.admission_book.specs.Rows.{as_entry, as_entries, entries_of, IsRising}
use Rattle.rsvp_base.specs.declared.entry_key.EntryKey.{EntryKey}
use Rattle.admission_book.specs.declared.row.Row.{Row}

abbrev pub row_of : ℕ × EntryKey → TokenBucket → Row
row_of p f = record { iface = p.0; key = p.1; flow = f }

abbrev blank : ℕ × EntryKey → Row
blank p = row_of p (record { r = 0; b = 0; p = Infinite; low = 0; most = 0 })

-- without an entry that is not there
pub unchanged : (rows : List Row) (p : ℕ × EntryKey) (up : IsRising rows) → find places.cmp p (as_entries rows) ≡ None → as_entries rows ≡ (without (entries_of rows up) p).rows
unchanged rows p up absent = ap rows_of (sym (without_absent places (entries_of rows up) p absent))

-- ---- rows as entries
-- what the row that was found charges is what the entry charges
pub charge_found : (rows : List Row) (p : ℕ × EntryKey) (place : Result ℕ ℕ) (n : ℕ) → IfOk place (HasRowAt places as_entry rows p) → IfErr place (LacksRowAt places as_entry rows p)
    → IfOk place (λ at. (d : Row) → n ≡ (slice_index_or rows at d).flow.r) → OnErr place (n ≡ 0)
    → n ≡ charge (find places.cmp p (as_entries rows))
charge_found rows p (Ok at) n stands goes row none = row (blank p) ∙ ap charge (sym (stands.found (blank p)))
charge_found rows p (Err at) n stands goes row none = none ∙ ap charge (sym goes.absent)

pub same_bookings : (a b : Bookings) → a.ifaces ≡ b.ifaces → a.entries ≡ b.entries → a ≡ b
same_bookings a b e f = λ i. record { ifaces = e i; entries = f i }
