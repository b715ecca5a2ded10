-- What entries charge an interface, and what it refuses (RFC 2205, 1: admission control; appendix B: error code 01).
use Rattle.std.specs.Prelude.{ℕ, ◌-◌, Option, Some, None, sum_by, nat_lt, option_and_then, slice_get, if◌then◌else◌}
use Rattle.rsvp_base.specs.Table.{without}
use Rattle.rsvp_base.specs.TokenBucket.{TokenBucket}
use Rattle.admission_book.specs.Book.{Entries, Bookings, entries_on}
use Rattle.rsvp_base.specs.declared.iface.Iface.{Iface}
use Rattle.rsvp_base.specs.declared.entry_key.EntryKey.{EntryKey}
use Rattle.admission_book.specs.declared.refused.Refused.{Refused}
use Rattle.admission_book.specs.declared.refused.Refused.TheVariants.{Mtu, Rate}

-- the sum of r over an interface's entries
abbrev pub charges : Entries → ℕ → ℕ
charges m i = sum_by (λ e. e.1.r) (entries_on m i).rows

-- what an entry charges with this flow, or without one
abbrev pub charge : Option TokenBucket → ℕ
charge None = 0
charge (Some f) = f.r

-- why an interface refuses a flow beside entries that charge this much: its M passes the MTU, or else its r passes what they leave free
abbrev pub refusal_beside : Iface → ℕ → Option TokenBucket → Option Refused
refusal_beside on others None = None
refusal_beside on others (Some f) = if nat_lt on.mtu f.most then Some (Mtu f.most on.mtu) else (if nat_lt (on.capacity - others) f.r then Some (Rate f.r (on.capacity - others)) else None)

-- why a change of an entry is refused: a flow beside the interface's other entries; taking an entry out never
abbrev pub refusal : Bookings → ℕ → EntryKey → Option TokenBucket → Option Refused
refusal b i k now = option_and_then (λ on. refusal_beside on (charges (without b.entries (i, k)) i) now) (slice_get b.ifaces i)
