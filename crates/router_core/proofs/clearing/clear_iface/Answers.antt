use Rattle.std.proofs.Common.{◌≡◌, Some, None, Option, refl, sym, ap, ◌∙◌, arith}
use Rattle.admission_book.specs.Book.{Bookings, entries_on}
use Rattle.admission_book.specs.EntryKeys.{places}
use Rattle.admission_book.specs.declared.refused.Refused.{Refused}
use Rattle.rsvp_base.specs.Keys.{numbers}
use Rattle.rsvp_base.specs.Orders.{entry_keys}
use Rattle.rsvp_base.specs.Table.{get, size}
use Rattle.rsvp_base.specs.TokenBucket.{TokenBucket}
use Rattle.rsvp_base.proofs.SessionCounts.{size-without}
use Rattle.rsvp_base.proofs.UnderLaws.{get-under}
use Rattle.resv_admission.proofs.Renewals.{never_over}
use Rattle.router_core.proofs.Emptying.{first_there, none_there, still_none}
use Rattle.router_core.proofs.clearing.clear_iface.Goals as goal

pub loop-key-init : goal.loop-key-init
loop-key-init c = record { less = λ i k h. h; ifaces = refl }

pub try_change-requires-clause-exists : goal.try_change-requires-clause-exists
try_change-requires-clause-exists c =
    let es = c.loop-key.book.entries in
    let g = first_there entry_keys (entries_on es c.args.iface) c.in-Some.key (sym c.in-Some.is ∙ c.first_entry.ensures.entry) in
    c.first_entry.ensures.within.placed c.args.iface c.in-Some.key g.0 (sym (get-under numbers entry_keys es c.args.iface c.in-Some.key) ∙ g.1)

pub unreachable-requires : goal.unreachable-requires
unreachable-requires c =
    let none = never_over c.loop-key.book c.args.iface c.in-Some.key None c.first_entry.ensures.within (λ f e. let z : ◌≡◌ {A = Option TokenBucket} None (Some f) = e in absurd (cc)) in
    let z : ◌≡◌ {A = Option Refused} None (Some c.in_default-try_change.field-0) = sym none ∙ c.in_default-try_change.ensures.cause in
    absurd (cc)

pub loop-key-preserved : goal.loop-key-preserved
loop-key-preserved c = record {
  less = λ i k h. ap (λ (b : Bookings). get b.entries (i, k)) c.in-Ok.ensures.ok ∙ still_none places c.loop-key.book.entries (c.args.iface, c.in-Some.key) (i, k) (c.loop-key.invariant.less i k h);
  ifaces = ap (λ (b : Bookings). b.ifaces) c.in-Ok.ensures.ok ∙ c.loop-key.invariant.ifaces;
}

pub loop-key-smaller : goal.loop-key-smaller
loop-key-smaller c =
    let es = c.loop-key.book.entries in
    let g = first_there entry_keys (entries_on es c.args.iface) c.in-Some.key (sym c.in-Some.is ∙ c.first_entry.ensures.entry) in
    let less = size-without places es (c.args.iface, c.in-Some.key) g.0 (sym (get-under numbers entry_keys es c.args.iface c.in-Some.key) ∙ g.1) in
    let same = ap (λ (b : Bookings). size b.entries) c.in-Ok.ensures.ok in
    omega (arith, less, same)

pub returns-clause-none : goal.returns-clause-none
returns-clause-none c = λ k.
    let es = c.loop-key.book.entries in
    sym (get-under numbers entry_keys es c.args.iface k) ∙ none_there entry_keys (entries_on es c.args.iface) (sym c.in_default.is ∙ c.first_entry.ensures.entry) k

pub returns-clause-less : goal.returns-clause-less
returns-clause-less c = c.loop-key.invariant.less
