use Rattle.std.proofs.Common.{◌≡◌, ◌<◌, ◌-◌, ◌+◌, length, refl, sym, ap, ◌∙◌, subst, arith}
use Rattle.std.specs.Prelude.{slice_get, slice_set, Some, IfOk}
use Rattle.std.proofs.lemmas.List.{get_or_default}
use Rattle.std.proofs.lemmas.Option.{slice_get_read}
use Rattle.std.proofs.lemmas.Result.{err_from_is_err_and}
use Rattle.rsvp_base.specs.Rows.{HasRowAt}
use Rattle.rsvp_base.specs.Table.{get, without}
use Rattle.rsvp_base.proofs.Rows.{are_rows, table_is, size_rows}
use Rattle.admission_book.specs.Book.{Bookings, Entries, changed_at}
use Rattle.admission_book.specs.Charges.{charge, charges, refusal, refusal_beside}
use Rattle.admission_book.specs.EntryKeys.{places}
use Rattle.admission_book.specs.Rows.{as_entry, entries_of}
use Rattle.admission_book.specs.Within.{IsKept}
use Rattle.admission_book.proofs.RowLemmas.{charge_found, same_bookings}
use Rattle.admission_book.proofs.ChargeLaws.{charges_at, others_at_most}
use Rattle.admission_book.proofs.WithinLaws.{kept_after, refusal_on}
use Rattle.admission_book.proofs.book.Book.try_change.Goals as goal
use Rattle.admission_book.proofs.book.Book.try_change.Goals.{After-charge_at}

module _ (c : After-charge_at) where
  abbrev book : Bookings
  book = record { ifaces = c.self.inside.ifaces.items; entries = entries_of c.self.inside.rows.items c.self.inside.rising }

  there : c.args.iface < length book.ifaces
  there = omega (arith, ap (λ (b : Bookings). length b.ifaces) c.self.view_is, c.requires.exists)

  here : slice_get book.ifaces c.args.iface ≡ Some c.index.result.now
  here = slice_get_read book.ifaces _ c.args.iface c.index.result.now refl there c.index.ensures

  -- the sum that is held, and what the entry charged before
  held : c.index-2.result.now ≡ charges book.entries c.args.iface
  held =
      let lt : c.args.iface < length c.self.inside.held.items = omega (arith, there, c.self.invariant.0.each) in
      c.index-2.ensures ∙ get_or_default c.self.inside.held.items c.args.iface c.index-2.result.now 0 lt ∙ c.self.invariant.0.sums c.args.iface

  before : c.charge_at.result ≡ charge (get book.entries (c.args.iface, c.args.key))
  before = charge_found c.self.inside.rows.items (c.args.iface, c.args.key) c.search-place.result c.charge_at.result (rw c.as_slice.ensures.value at c.search-place.ensures.there)
      (rw c.as_slice.ensures.value at c.search-place.ensures.absent) (rw c.as_slice-2.ensures.value at c.charge_at.ensures.row) c.charge_at.ensures.none

  others : c.index-2.result.now - c.charge_at.result ≡ charges (without book.entries (c.args.iface, c.args.key)) c.args.iface
  others = omega (arith, held, before, charges_at book.entries c.args.iface c.args.key)

  -- why the interface refuses the change
  asked : refusal c.args.self.now c.args.iface c.args.key c.args.now ≡ refusal_beside c.index.result.now (c.index-2.result.now - c.charge_at.result) c.args.now
  asked =
      ap (λ (b : Bookings). refusal b c.args.iface c.args.key c.args.now) (sym c.self.view_is) ∙ refusal_on book c.args.iface c.args.key c.args.now c.index.result.now here
      ∙ ap (λ n. refusal_beside c.index.result.now n c.args.now) (sym others)

pub overflow_sub-others : goal.overflow_sub-others
overflow_sub-others c = omega (arith, held c, before c, charges_at (book c).entries c.args.iface c.args.key)

pub admit-requires : goal.admit-requires
admit-requires c =
    let d = (goal.at.admit-requires c).After-charge_at in
    omega (arith, others d, others_at_most (book d).entries c.args.iface c.args.key, c.self.invariant.0.within.charged c.args.iface c.index.result.now (here d))

pub returns-in_err-sum-clause-cause : goal.returns-in_err-sum-clause-cause
returns-in_err-sum-clause-cause c =
    let d = (goal.at.returns-in_err-sum-clause-cause c).After-charge_at in
    let p = err_from_is_err_and c.from_residual.result c.from_residual.ensures.1 in
    rw (p.1, p.2) (asked d ∙ c.in_err-sum.ensures.cause)

pub invariant_of-self-inside : goal.invariant_of-self-inside
invariant_of-self-inside c = (
  are_rows places as_entry c.change.new.rows.items (changed_at (entries_of c.self.inside.rows.items c.self.inside.rising) c.args.iface c.args.key c.args.now)
      (c.change.ensures.rows c.self.inside.rising),
  tt,
)

pub invariant_of-self : goal.invariant_of-self
invariant_of-self c =
    let d = (goal.at.invariant_of-self c).After-charge_at in
    let after = changed_at (book d).entries c.args.iface c.args.key c.args.now in
    let rows = c.change.ensures.rows c.self.inside.rising in
    let up = are_rows places as_entry c.change.new.rows.items after rows in
    let taken = ap (λ (b : Bookings). refusal b c.args.iface c.args.key c.args.now) c.self.view_is ∙ asked d ∙ c.in_ok-sum.ensures.cause in
    let kept = kept_after (book d) c.self.inside.held.items c.args.iface c.args.key c.args.now c.in_ok-sum.sum c.self.invariant.0 (there d) taken
    (c.in_ok-sum.ensures.sum ∙ ap (λ n. n + charge c.args.now) (others d)) (omega
    (arith, size_rows places as_entry c.change.new.rows.items up after (table_is places as_entry c.change.new.rows.items up after rows), c.change.ensures.few)) in (
      subst (λ (t : Entries). IsKept (record { ifaces = (book d).ifaces; entries = t }) (slice_set c.self.inside.held.items c.args.iface c.in_ok-sum.sum))
          (sym (table_is places as_entry c.change.new.rows.items _ after rows)) kept,
      c.change.ensures.capacity,
    )

pub returns-clause-ok : goal.returns-clause-ok
returns-clause-ok c =
    let changed = table_is places as_entry c.change.new.rows.items _ (changed_at (entries_of c.self.inside.rows.items c.self.inside.rising) c.args.iface c.args.key c.args.now)
    (c.change.ensures.rows c.self.inside.rising) in
    same_bookings _ _ (ap (λ (b : Bookings). b.ifaces) c.self.view_is) (changed ∙ ap (λ (b : Bookings). changed_at b.entries c.args.iface c.args.key c.args.now) c.self.view_is)

pub returns-clause-cause : goal.returns-clause-cause
returns-clause-cause c = asked (goal.at.returns-clause-cause c).After-charge_at ∙ c.in_ok-sum.ensures.cause

pub change-requires-clause-there : goal.change-requires-clause-there
change-requires-clause-there c = λ at is.
    subst (λ r. IfOk r (HasRowAt places as_entry c.self.inside.rows.items (c.args.iface, c.args.key))) is (rw c.as_slice.ensures.value at c.search-place.ensures.there)
