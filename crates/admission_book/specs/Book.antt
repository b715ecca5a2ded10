-- What a book is seen as.
use Rattle.std.specs.Prelude.{ℕ, List, Option, Some, None, refl}
use Rattle.std.specs.Coded.{Coded, code_by, coded×, coded_ℕ, coded_list}
use Rattle.rsvp_base.specs.Keys.{numbers}
use Rattle.rsvp_base.specs.Table.{Table, put_in, without, table_code}
use Rattle.rsvp_base.specs.Under.{under}
use Rattle.rsvp_base.specs.TokenBucket.{TokenBucket}
use Rattle.rsvp_base.specs.contracts.flow.Flow as flow
use Rattle.admission_book.specs.EntryKeys.{places}
use Rattle.rsvp_base.specs.Orders.{entry_keys}
use Rattle.rsvp_base.specs.declared.iface.Iface.{Iface}
use Rattle.rsvp_base.specs.declared.entry_key.EntryKey.{EntryKey}
use Rattle.rsvp_base.specs.contracts.iface.Iface as iface
use Rattle.rsvp_base.specs.contracts.entry_key.EntryKey as key

-- a flow for each interface and key that has one
abbrev pub Entries : Type 0
Entries = Table places TokenBucket

-- interfaces, and what they have promised
pub record Bookings : Type 0 where
  pub ifaces : List Iface
  pub entries : Entries

-- the entries of an interface, by session, style and unit
abbrev pub entries_on : Entries → ℕ → Table entry_keys TokenBucket
entries_on m i = under numbers entry_keys m i

-- the entries with this flow in place of an entry, or without the entry
abbrev pub changed_at : Entries → ℕ → EntryKey → Option TokenBucket → Entries
changed_at m i k None = without m (i, k)
changed_at m i k (Some f) = put_in m (i, k) f

abbrev pub bookings_code : Coded Bookings
bookings_code =
    code_by (List Iface × Entries) (coded× (coded_list (iface.the_row).coded) (table_code places (coded× coded_ℕ (key.the_row).coded) (flow.the_row).coded))
    (λ b. (b.ifaces, b.entries)) (λ p. record { ifaces = p.0; entries = p.1 }) (λ _. refl)
