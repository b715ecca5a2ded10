use Rattle.std.specs.Prelude.{◌≡◌, nat_lt, ◌&&◌}
use Rattle.resv_admission.specs.Renewed.{AreRenewed, entry_in, is_key}
use Rattle.resv_admission.proofs.book_renewal.renew_everywhere.Given as goal

abbrev pub invariant-loop-iface : goal.invariant-loop-iface
invariant-loop-iface g l = record {
  done : AreRenewed (λ i k. nat_lt i l.iface && is_key l.key i k) (entry_in g.S.Style.kind_is l.table.facts) l.fn.book.entries l.book.entries;
  ifaces : l.book.ifaces ≡ l.fn.book.ifaces;
}
