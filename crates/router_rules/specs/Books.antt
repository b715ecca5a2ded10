-- The book of an interface: the merge of the reservations on it (RFC 2205, 2.2; RFC 2209, 1: an entry is a Traffic Control
-- State Block, TCSB; 2: UPDATE TRAFFIC CONTROL). It is computed from the facts. And the limits of a table of reservations.
use Rattle.std.specs.Prelude.{ℕ, Bool, ◌++◌, List, map as each, slice_get, Option, option_and_then}
use Rattle.std.specs.Option.{option_map}
use Rattle.admission_book.specs.Charges.{refusal_beside}
use Rattle.admission_book.specs.declared.refused.Refused.{Refused}
use Rattle.rsvp_base.specs.declared.style.StyleKind.{StyleKind}
use Rattle.rsvp_base.specs.declared.style.StyleKind.TheVariants.{Wild, Fixed, Shared}
use Rattle.rsvp_base.specs.Table.{get, without}
use Rattle.style_rules.specs.Limits.{within_limits}
use Rattle.style_rules.specs.Lines.{Line, LineKey, BookTable, book_of_end, held}
use Rattle.rsvp_base.specs.declared.entry_key.EntryKey.{EntryKey}
use Rattle.router_rules.specs.Facts.{Facts, ResvState, Resvs}
use Rattle.router_rules.specs.NodeConfig.{NodeConfig}

abbrev pub line_of : StyleKind → LineKey × ResvState → Line
line_of st e = record { style = st; session = e.0.0; end = e.0.1.0.0; next = e.0.1.0.1; unit = e.0.1.1; part = e.1.part }

abbrev pub lines_of : StyleKind → Resvs → List Line
lines_of st t = each (line_of st) t.rows

abbrev pub lines : Facts → List Line
lines f = lines_of Wild f.resvs.wild ++ (lines_of Fixed f.resvs.fixed ++ lines_of Shared f.resvs.shared)

-- per session, style and unit the merge of the reservations on the interface
abbrev pub book : Facts → ℕ → BookTable
book f i = book_of_end i (lines f)

-- a table within its limits
abbrev pub fits : StyleKind → Resvs → Bool
fits st t = within_limits st (lines_of st t)

-- why the interface refuses an entry of its book beside the others
abbrev pub refused : NodeConfig → ℕ → EntryKey → BookTable → Option Refused
refused p i k b = option_and_then (λ on. refusal_beside on (held (without b k)) (option_map (λ part. part.flow) (get b k))) (slice_get p.ifaces i)
