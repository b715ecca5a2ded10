-- A change that is not refused keeps each interface within its capacity and its MTU.
use Rattle.std.specs.Prelude.{◌≡◌, ◌⊎◌, Bool, ℕ, ◌+◌, ◌<◌, ◌≤◌, List, length, Option, Some, None, slice_get, slice_set, option_and_then}
use Rattle.std.proofs.Common.{refl, sym, ap, ◌∙◌, subst, arith, inl, inr}
use Rattle.std.proofs.lemmas.Bool.{cases_eq}
use Rattle.std.proofs.lemmas.Bool.Decides.{nat_tests}
use Rattle.std.proofs.lemmas.List.{length-set, get_or-set_same, get_or-set_other}
use Rattle.rsvp_base.specs.Table.{get, size, empty, kept, without}
use Rattle.rsvp_base.specs.TokenBucket.{TokenBucket}
use Rattle.rsvp_base.proofs.Tables.{got_put_in, got_kept, got_without}
use Rattle.admission_book.specs.EntryKeys.{places}
use Rattle.admission_book.specs.Book.{Bookings, Entries, changed_at}
use Rattle.admission_book.specs.Charges.{charges, charge, refusal_beside, refusal}
use Rattle.admission_book.specs.Within.{IsWithin, IsKept}
use Rattle.rsvp_base.specs.declared.iface.Iface.{Iface}
use Rattle.rsvp_base.specs.declared.entry_key.EntryKey.{EntryKey}
use Rattle.admission_book.proofs.ChargeLaws.{charges_changed, charges_elsewhere, charges_kept_at_most, others_at_most}

-- ---- what an interface does not refuse
rate_fits : (on : Iface) (others : ℕ) (now : Option TokenBucket) → others ≤ on.capacity → refusal_beside on others now ≡ None → others + charge now ≤ on.capacity
rate_fits on others None le e = omega arith
rate_fits on others (Some f) le e = grind (arith, nat_tests)

size_fits : (on : Iface) (others : ℕ) (f : TokenBucket) → refusal_beside on others (Some f) ≡ None → f.most ≤ on.mtu
size_fits on others f e = grind (arith, nat_tests)

-- the refusal on an interface that is there
pub refusal_on : (b : Bookings) (i : ℕ) (k : EntryKey) (now : Option TokenBucket) (on : Iface) → slice_get b.ifaces i ≡ Some on
    → refusal b i k now ≡ refusal_beside on (charges (without b.entries (i, k)) i) now
refusal_on b i k now on at = ap (option_and_then (λ x. refusal_beside x (charges (without b.entries (i, k)) i) now)) at

-- ---- an entry after a change is the new flow's, or was there
pub got_changed_at : (m : Entries) (i : ℕ) (k : EntryKey) (now : Option TokenBucket) (j : ℕ) (q : EntryKey) (f : TokenBucket) → get (changed_at m i k now) (j, q) ≡ Some f
    → ((j ≡ i) × (now ≡ Some f)) ⊎ (get m (j, q) ≡ Some f)
got_changed_at m i k None j q f got = inr (got_without places m (i, k) (j, q) f got)
got_changed_at m i k (Some g) j q f got =
    elim (got_put_in places m (i, k) g (j, q) f got) [
      | inl is ↦ inl (ap (λ (p : ℕ × EntryKey). p.0) is.0, ap Some (sym is.1))
      | inr was ↦ inr was
    ]

module _ (b : Bookings) (i : ℕ) (k : EntryKey) (now : Option TokenBucket) (within : IsWithin b) (there : i < length b.ifaces) (taken : refusal b i k now ≡ None) where
  charged_after : (j : ℕ) (on : Iface) → slice_get b.ifaces j ≡ Some on → charges (changed_at b.entries i k now) j ≤ on.capacity
  charged_after j on at =
      elim (cases_eq j i) [
        | inl e ↦
            let here : slice_get b.ifaces i ≡ Some on = ap (slice_get b.ifaces) (sym e) ∙ at in
            let fits = rate_fits on (charges (without b.entries (i, k)) i) now (omega (arith, others_at_most b.entries i k, within.charged i on here)) (sym (refusal_on b i k now on here) ∙ taken) in
            subst (λ x. charges (changed_at b.entries i k now) x ≤ on.capacity) (sym e) (omega (arith, fits, charges_changed b.entries i k now))
        | inr ne ↦ omega (arith, charges_elsewhere b.entries i k now j ne, within.charged j on at)
      ]

  sized_after : (j : ℕ) (q : EntryKey) (f : TokenBucket) (on : Iface) → get (changed_at b.entries i k now) (j, q) ≡ Some f → slice_get b.ifaces j ≡ Some on → f.most ≤ on.mtu
  sized_after j q f on got at =
      elim (got_changed_at b.entries i k now j q f got) [
        | inl is ↦
            let here : slice_get b.ifaces i ≡ Some on = ap (slice_get b.ifaces) (sym is.0) ∙ at in
            size_fits on (charges (without b.entries (i, k)) i) f (ap (refusal_beside on (charges (without b.entries (i, k)) i)) (sym is.1) ∙ sym (refusal_on b i k now on here) ∙ taken)
        | inr was ↦ within.sized j q f on was at
      ]

  placed_after : (j : ℕ) (q : EntryKey) (f : TokenBucket) → get (changed_at b.entries i k now) (j, q) ≡ Some f → j < length b.ifaces
  placed_after j q f got = elim (got_changed_at b.entries i k now j q f got) [ inl is ↦ omega (arith, is.0) | inr was ↦ within.placed j q f was ]

  pub within_after : IsWithin (record { ifaces = b.ifaces; entries = changed_at b.entries i k now })
  within_after = record { charged = charged_after; sized = sized_after; placed = placed_after }

-- ---- books that are within without a change
-- taking an entry out is never refused
pub never_refused : (b : Bookings) (i : ℕ) (k : EntryKey) → refusal b i k None ≡ None
never_refused b i k = at (slice_get b.ifaces i)
  where
    at : (o : Option Iface) → option_and_then (λ on. refusal_beside on (charges (without b.entries (i, k)) i) None) o ≡ None
    at None = refl
    at (Some on) = refl

pub within_empty : (ifaces : List Iface) → IsWithin (record { ifaces = ifaces; entries = empty })
within_empty ifaces = record { charged = λ i on at. omega arith; sized = λ i k f on got at. cc; placed = λ i k f got. cc }

-- some of the entries of a book that is within are within
pub within_kept : (b : Bookings) (p : ℕ × EntryKey → Bool) → IsWithin b → IsWithin (record { ifaces = b.ifaces; entries = kept p b.entries })
within_kept b p within =
    record {
      charged = λ i on at. omega (arith, charges_kept_at_most b.entries p i, within.charged i on at);
      sized = λ i k f on got at. within.sized i k f on (got_kept places p b.entries (i, k) f got).1 at;
      placed = λ i k f got. within.placed i k f (got_kept places p b.entries (i, k) f got).1;
    }

-- ---- the sums kept beside a book
pub kept_after : (b : Bookings) (held : List ℕ) (i : ℕ) (k : EntryKey) (now : Option TokenBucket) (sum : ℕ) → IsKept b held → i < length b.ifaces → refusal b i k now ≡ None
    → sum ≡ charges (without b.entries (i, k)) i + charge now
    → size (changed_at b.entries i k now) ≤ 3072 → IsKept (record { ifaces = b.ifaces; entries = changed_at b.entries i k now }) (slice_set held i sum)
kept_after b held i k now sum kept there taken is few =
    record {
      within = within_after b i k now kept.within there taken;
      each = length-set held i sum ∙ kept.each;
      sums = λ j. elim (cases_eq j i) [
        | inl e ↦ rw e (get_or-set_same held i sum 0 (omega (arith, kept.each)) ∙ is ∙ sym (charges_changed b.entries i k now))
        | inr ne ↦ get_or-set_other held i j sum 0 ne ∙ kept.sums j ∙ sym (charges_elsewhere b.entries i k now j ne)
      ];
      few = few;
    }
