-- Admission control over a whole network (RFC 2205, 1): what is booked on each interface.
use Rattle.std.specs.Prelude.{◌≡◌, ℕ, ◌≤◌, Some, slice_get}
use Rattle.rsvp_base.specs.declared.entry_key.EntryKey.{EntryKey}
use Rattle.rsvp_base.specs.declared.part.Part.{Part}
use Rattle.rsvp_base.specs.Table.{get}
use Rattle.style_rules.specs.Lines.{held}
use Rattle.router_rules.specs.Books.{book}
use Rattle.router_rules.specs.Facts.{Facts}
use Rattle.tree_model.specs.declared.hops.End.{End}
use Rattle.tree_model.specs.Networks.{iface_of}
use Rattle.network_model.specs.Worlds.{World}

-- the book of each end, as its node keeps it: its charges together are at most the capacity of the interface, and no packet that it
-- lets pass is larger than the interface's MTU
pub record IsBooked (w : World) (e : ℕ) (x : End) (f : Facts) : Type 0 where
  pub capacity : held (book f (iface_of w.net.ends e)) ≤ x.iface.capacity
  pub mtu : (k : EntryKey) (part : Part) → get (book f (iface_of w.net.ends e)) k ≡ Some part → part.flow.most ≤ x.iface.mtu

abbrev pub AreBooksWithinCapacity : World → Type 0
AreBooksWithinCapacity w = (e : ℕ) (x : End) (f : Facts) → slice_get w.net.ends e ≡ Some x → slice_get w.nodes x.node ≡ Some f → IsBooked w e x f
