-- Where an interface's rows start, and its k-th row from there.
use Rattle.std.specs.Prelude.{◌≡◌, ℕ, ◌<◌, ◌≤◌, true, false, List, [], ◌∷◌, length, None, slice_get, option_and_then, refl}
use Rattle.std.proofs.Common.{zero, suc, inl, inr, ap, ◌∙◌, arith, get_or, drop, ltb, ltb-true, ltb-false}
use Rattle.std.proofs.lemmas.Bool.{cases_eq}
use Rattle.std.proofs.lemmas.Bool.Decides.{nat_tests}
use Rattle.std.specs.List.Sorted.{IsNonDecreasingBy, IsPartitionPoint}
use Rattle.rsvp_base.specs.TokenBucket.{TokenBucket}
use Rattle.rsvp_base.proofs.Together.{numbers_rise, rows_of, rows_cons, none_past, tied, untied}
use Rattle.rsvp_base.specs.Orders.{entry_keys}
use Rattle.admission_book.specs.Rows.{as_entry, IsRising, own}
use Rattle.rsvp_base.specs.declared.entry_key.EntryKey.{EntryKey}
use Rattle.admission_book.specs.declared.row.Row.{Row}

abbrev pub rows_on : ℕ → List Row → List (EntryKey × TokenBucket)
rows_on i rows = rows_of entry_keys as_entry i rows

pub ifaces_rise : (rows : List Row) → IsRising rows → IsNonDecreasingBy (λ r. r.iface) rows
ifaces_rise rows up = numbers_rise entry_keys as_entry rows up

own_past : (i : ℕ) (xs : List Row) (k : ℕ) → ((j : ℕ) (d : Row) → j < length xs → i < (get_or xs j d).iface) → None ≡ option_and_then (own i) (slice_get xs k)
own_past i [] k past = refl
own_past i (x ∷ xs) zero past = let here = past 0 x (omega arith) in grind (arith, nat_tests)
own_past i (x ∷ xs) (suc k) past = own_past i xs k (λ j d lt. past (suc j) d (omega arith))

kth_own : (i : ℕ) (x : Row) (xs : List Row) (k : ℕ) → x.iface ≡ i → ((j : ℕ) → slice_get (rows_on i xs) j ≡ option_and_then (own i) (slice_get xs j))
    → slice_get ((x.key, x.flow) ∷ rows_on i xs) k ≡ option_and_then (own i) (slice_get (x ∷ xs) k)
kth_own i x xs zero e rest = grind (arith, nat_tests)
kth_own i x xs (suc k) e rest = rest k

from_here : (i : ℕ) (xs : List Row) (k : ℕ) → IsNonDecreasingBy (λ r. r.iface) xs → ((j : ℕ) (d : Row) → j < length xs → i ≤ (get_or xs j d).iface)
    → slice_get (rows_on i xs) k ≡ option_and_then (own i) (slice_get xs k)
from_here i [] k rise low = refl
from_here i (x ∷ xs) k rise low =
    elim (cases_eq x.iface i) [
      | inl e ↦ ap (λ es. slice_get es k) (rows_cons entry_keys as_entry i x xs true (tied i x.iface e))
          ∙ kth_own i x xs k e (λ j. from_here i xs j (λ a b d le lt. rise (suc a) (suc b) d (omega arith) (omega arith)) (λ a d lt. low (suc a) d (omega arith)))
      | inr ne ↦
          let past : (j : ℕ) (d : Row) → j < length (x ∷ xs) → i < (get_or (x ∷ xs) j d).iface = λ j d lt. omega (arith, ne, low 0 d (omega arith), rise 0 j d (omega arith) lt) in
          ap (λ es. slice_get es k) (none_past entry_keys as_entry i (x ∷ xs) past) ∙ own_past i (x ∷ xs) k past
    ]

pub kth_from_start : (i : ℕ) (rows : List Row) (start k : ℕ) → IsNonDecreasingBy (λ r. r.iface) rows → start ≤ length rows
    → IsPartitionPoint (λ r. ltb r.iface i ≡ true) (λ r. ltb r.iface i ≡ false) rows start
    → slice_get (rows_on i rows) k ≡ option_and_then (own i) (slice_get (drop start rows) k)
kth_from_start i rows zero k rise le parts = from_here i rows k rise (λ j d lt. ltb-false _ i (parts.1 j d (omega arith) lt))
kth_from_start i [] (suc s) k rise le parts = absurd (omega arith)
kth_from_start i (x ∷ xs) (suc s) k rise le parts =
    let low = ltb-true _ i (parts.0 0 x (omega arith) (omega arith)) in
    ap (λ es. slice_get es k) (rows_cons entry_keys as_entry i x xs false (untied i x.iface (λ e. omega arith)))
    ∙ kth_from_start i xs s k (λ a b d le lt. rise (suc a) (suc b) d (omega arith) (omega arith)) (omega arith)
    ((λ j d low high. parts.0 (suc j) d (omega arith) (omega arith)), (λ j d low high. parts.1 (suc j) d (omega arith) (omega arith)))
