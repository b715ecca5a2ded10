use Rattle.std.specs.Prelude.{◌≡◌, take}
use Rattle.rsvp_base.specs.Table.{get}
use Rattle.resv_admission.specs.Kept.{flow_in}
use Rattle.resv_admission.specs.Renewed.{AreRenewed, is_named}
use Rattle.resv_admission.proofs.book_renewal.renew_names.Given as goal

abbrev pub invariant-loop-name : goal.invariant-loop-name
invariant-loop-name g l = record {
  done : AreRenewed (is_named g.S.Style.kind_is l.session l.iface (take l.name-index l.name-items)) (λ i k. flow_in (get l.parts k.unit)) l.fn.book.entries l.book.entries;
  ifaces : l.book.ifaces ≡ l.fn.book.ifaces;
}
