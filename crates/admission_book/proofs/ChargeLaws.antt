-- What a change of an entry does to the charges.
use Rattle.std.specs.Prelude.{◌≡◌, ◌≢◌, ℕ, ◌+◌, ◌≤◌, Bool, false, Option, Some, None, sum_by}
use Rattle.std.proofs.Common.{sym, ap, ◌∙◌, arith, refl}
use Rattle.std.proofs.lemmas.Bool.Decides.{nat_tests}
use Rattle.std.specs.Ordering.{eq_by_cmp, nat_cmp}
use Rattle.rsvp_base.specs.Keys.{numbers}
use Rattle.rsvp_base.specs.Table.{Table, get, kept, without}
use Rattle.rsvp_base.specs.TokenBucket.{TokenBucket}
use Rattle.rsvp_base.proofs.UnderLaws.{get-under, under-put_in_same, under-put_in_other, under-without_same, under-without_other, under-kept}
use Rattle.rsvp_base.proofs.Sums.{number_of, sum-put_in, sum-without, sum_kept_at_most}
use Rattle.rsvp_base.specs.Orders.{entry_keys}
use Rattle.admission_book.specs.Book.{Entries, entries_on, changed_at}
use Rattle.admission_book.specs.Charges.{charges, charge}
use Rattle.rsvp_base.specs.declared.entry_key.EntryKey.{EntryKey}

abbrev rate : EntryKey × TokenBucket → ℕ
rate e = e.1.r

abbrev total : Table entry_keys TokenBucket → ℕ
total t = sum_by rate t.rows

number_of_rate : (k : EntryKey) (o : Option TokenBucket) → number_of rate k o ≡ charge o
number_of_rate k None = refl
number_of_rate k (Some f) = refl

apart : (i j : ℕ) → i ≢ j → eq_by_cmp nat_cmp i j ≡ false
apart i j ne = grind (arith, nat_tests)

module _ (m : Entries) (i : ℕ) (k : EntryKey) where
  -- the charges of an interface are those of its other entries and that of this one
  pub charges_at : charges m i ≡ charges (without m (i, k)) i + charge (get m (i, k))
  charges_at =
      let others : total (without (entries_on m i) k) ≡ charges (without m (i, k)) i = ap total (sym (under-without_same numbers entry_keys m i k)) in
      let own : number_of rate k (get (entries_on m i) k) ≡ charge (get m (i, k)) = number_of_rate k (get (entries_on m i) k) ∙ ap charge (get-under numbers entry_keys m i k) in
      let all : charges m i ≡ total (without (entries_on m i) k) + number_of rate k (get (entries_on m i) k) = sum-without entry_keys rate (entries_on m i) k in
      omega (arith, others, own, all)

  -- after a change they are those of the other entries and that of the new flow
  pub charges_changed : (now : Option TokenBucket) → charges (changed_at m i k now) i ≡ charges (without m (i, k)) i + charge now
  charges_changed None = omega arith
  charges_changed (Some f) =
      ap total (under-put_in_same numbers entry_keys m i k f) ∙ sum-put_in entry_keys rate (entries_on m i) k f
      ∙ ap (λ t. total t + f.r) (sym (under-without_same numbers entry_keys m i k))

  -- what another interface is charged stays
  pub charges_elsewhere : (now : Option TokenBucket) (j : ℕ) → j ≢ i → charges (changed_at m i k now) j ≡ charges m j
  charges_elsewhere None j ne = ap total (under-without_other numbers entry_keys m i j k (apart i j (λ e. ne (sym e))))
  charges_elsewhere (Some f) j ne = ap total (under-put_in_other numbers entry_keys m i j k f (apart j i ne))

  pub others_at_most : charges (without m (i, k)) i ≤ charges m i
  others_at_most = omega (arith, charges_at)

-- the entries that pass a test charge no more than all
pub charges_kept_at_most : (m : Entries) (p : ℕ × EntryKey → Bool) (i : ℕ) → charges (kept p m) i ≤ charges m i
charges_kept_at_most m p i =
    let same : charges (kept p m) i ≡ total (kept (λ k. p (i, k)) (entries_on m i)) = ap total (under-kept numbers entry_keys m i p) in
    omega (arith, same, sum_kept_at_most entry_keys rate (λ k. p (i, k)) (entries_on m i))
