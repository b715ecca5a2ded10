-- What holds of every book.
use Rattle.std.specs.Prelude.{◌≡◌, ℕ, ◌<◌, ◌≤◌, List, Some, length, slice_get, slice_index}
use Rattle.rsvp_base.specs.Table.{get, size}
use Rattle.rsvp_base.specs.TokenBucket.{TokenBucket}
use Rattle.admission_book.specs.Book.{Bookings}
use Rattle.admission_book.specs.Charges.{charges}
use Rattle.rsvp_base.specs.declared.iface.Iface.{Iface}
use Rattle.rsvp_base.specs.declared.entry_key.EntryKey.{EntryKey}

-- no interface has promised more than its capacity, or packets that it does not send; each entry's interface is there
pub record IsWithin (b : Bookings) : Type 0 where
  pub charged : (i : ℕ) (on : Iface) → slice_get b.ifaces i ≡ Some on → charges b.entries i ≤ on.capacity
  pub sized : (i : ℕ) (k : EntryKey) (f : TokenBucket) (on : Iface) → get b.entries (i, k) ≡ Some f → slice_get b.ifaces i ≡ Some on → f.most ≤ on.mtu
  pub placed : (i : ℕ) (k : EntryKey) (f : TokenBucket) → get b.entries (i, k) ≡ Some f → i < length b.ifaces

-- the sums kept beside a book are its charges, and its entries have room
pub record IsKept (b : Bookings) (held : List ℕ) : Type 0 where
  pub within : IsWithin b
  pub each : length held ≡ length b.ifaces
  pub sums : (i : ℕ) → slice_index held i ≡ charges b.entries i
  pub few : size b.entries ≤ 3072
