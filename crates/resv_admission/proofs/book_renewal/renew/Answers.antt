use Rattle.std.proofs.Common.{◌≡◌, Some, None, Option, sym, subst, ◌∙◌}
use Rattle.admission_book.specs.Book.{Bookings}
use Rattle.admission_book.specs.declared.refused.Refused.{Refused}
use Rattle.resv_admission.specs.Renewed.{AreRenewed, is_place}
use Rattle.resv_admission.proofs.Renewals.{never_over, one_renewed}
use Rattle.resv_admission.proofs.book_renewal.renew.Goals as goal

pub unreachable-requires : goal.unreachable-requires
unreachable-requires c =
    let over = c.in_default.ensures.cause in
    let none = never_over c.args.book.now c.args.iface c.args.key.now c.args.now c.entry.ensures.within c.requires in
    let z : ◌≡◌ {A = Option Refused} None (Some c.in_default.field-0) = sym none ∙ over in
    absurd (cc)

pub returns-clause-entries : goal.returns-clause-entries
returns-clause-entries c =
    subst (λ (b : Bookings). AreRenewed (is_place c.args.iface c.args.key.now) (λ i k. c.args.now) c.args.book.now.entries b.entries) (sym c.in-Ok.ensures.ok)
    (one_renewed c.args.book.now.entries c.args.iface c.args.key.now c.args.now)
