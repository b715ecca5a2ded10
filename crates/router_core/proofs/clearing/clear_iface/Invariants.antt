use Rattle.std.proofs.Common.{◌≡◌, ℕ, None}
use Rattle.rsvp_base.specs.Table.{get, size}
use Rattle.rsvp_base.specs.declared.entry_key.EntryKey.{EntryKey}
use Rattle.router_core.proofs.clearing.clear_iface.Given as goal

abbrev pub invariant-loop-key : goal.invariant-loop-key
invariant-loop-key l = record { less : (i : ℕ) (k : EntryKey) → get l.initial.book.entries (i, k) ≡ None → get l.book.entries (i, k) ≡ None; ifaces : l.book.ifaces ≡ l.initial.book.ifaces }

abbrev pub decreases-loop-key : goal.decreases-loop-key
decreases-loop-key l = size l.book.entries
